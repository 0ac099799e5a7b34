-- `boundary_of` is the definition's choice.
-- Rests on the choice of its branches.
use Rattle.laws.specs.Choice.{picks}
use Rattle.job.specs.Head.{boundary_of}
use Rattle.job.proofs.head.boundary_of.Goals as goal

pub returns-in-0 : goal.returns-in-0
unfolding boundary_of
returns-in-0 c = search picks

pub returns-in_default : goal.returns-in_default
unfolding boundary_of
returns-in_default c = search picks
