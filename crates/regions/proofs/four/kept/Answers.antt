-- `kept` meets its contract: a flag stands where the ring's flag is as asked.
-- Rests on nothing but the definitions.
use mathlib.Core.Path.{refl}
use Rattle.regions.specs.Four.{first, second, third, fourth, at}
use Rattle.regions.proofs.four.kept.Goals as goal

pub returns : goal.returns
unfolding at
returns c first = refl
returns c second = refl
returns c third = refl
returns c fourth = refl
