-- `crosses` meets its contract: the test of one edge.
-- Rests on nothing but the definition.
use mathlib.Core.Path.{refl}
use Rattle.regions.specs.Inside.{intersect}
use Rattle.regions.proofs.inside.crosses.Goals as goal

pub returns : goal.returns
unfolding intersect
returns c = refl
