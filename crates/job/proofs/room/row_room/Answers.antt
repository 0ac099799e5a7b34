-- `row_room` is the definition's room.
-- Rests on the choice of its branches and what `is_left_in` ensures.
use native.Mathlib.Omega.{arith}
use Rattle.laws.specs.Choice.{picks}
use Rattle.job.specs.Job.{row_room}
use borrow.Author.Rules.{rules}
use Rattle.job.proofs.room.row_room.Goals as goal

pub overflow_add-result : goal.overflow_add-result
overflow_add-result c = search rules

pub returns-then-is_left_in : goal.returns-then-is_left_in
unfolding row_room
returns-then-is_left_in c = (search picks, omega arith)

pub returns : goal.returns
unfolding row_room
returns c = (search picks, omega arith)
