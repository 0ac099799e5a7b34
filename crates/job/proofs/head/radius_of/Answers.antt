-- `radius_of` is the definition's choice.
-- Rests on the choice of its branches.
use Rattle.laws.specs.Choice.{picks}
use Rattle.job.specs.Head.{radius_of}
use Rattle.job.proofs.head.radius_of.Goals as goal

pub returns-in-0 : goal.returns-in-0
unfolding radius_of
returns-in-0 c = search picks

pub returns-in_default : goal.returns-in_default
unfolding radius_of
returns-in_default c = search picks
