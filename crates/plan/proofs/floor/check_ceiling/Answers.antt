-- `check_ceiling` is row 16.
-- Rests on nothing but the definition.
use Rattle.format.specs.Rows.{◌unless◌}
use Rattle.job.specs.Plan.{low_fault}
use Rattle.plan.proofs.floor.check_ceiling.Goals as goal

pub returns-in_default : goal.returns-in_default
unfolding low_fault
returns-in_default c = rw c.in_default.is

pub returns-then-r_hi : goal.returns-then-r_hi
unfolding low_fault ◌unless◌
returns-then-r_hi c = rw (c.in-Some.is, c.if-r_hi.true)

pub returns : goal.returns
unfolding low_fault ◌unless◌
returns c = rw (c.in-Some.is, c.if-r_hi.false)
