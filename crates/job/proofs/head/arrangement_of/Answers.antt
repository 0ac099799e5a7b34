-- `arrangement_of` is the definition's choice.
-- Rests on the choice of its branches.
use Rattle.laws.specs.Choice.{picks}
use Rattle.job.specs.Head.{arrangement_of}
use Rattle.job.proofs.head.arrangement_of.Goals as goal

pub returns-in-0 : goal.returns-in-0
unfolding arrangement_of
returns-in-0 c = search picks

pub returns-in-1 : goal.returns-in-1
unfolding arrangement_of
returns-in-1 c = rw c.in-1.is

pub returns-in-2 : goal.returns-in-2
unfolding arrangement_of
returns-in-2 c = rw c.in-2.is

pub returns-in_default : goal.returns-in_default
unfolding arrangement_of
returns-in_default c = search picks
