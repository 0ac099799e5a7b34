-- `crossing` meets its contract: the x of one edge.
-- Rests on nothing but the definition.
use Rattle.std.proofs.Common.{refl}
use Rattle.lattice.specs.Crossings.{crossing}
use Rattle.lattice.proofs.crossings.crossing.Goals as goal

pub returns : goal.returns
unfolding crossing
returns c = refl
