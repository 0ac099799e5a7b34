-- `lowered` meets its contract, by the deepest point.
-- Rests on what `min` and `root` ensure.
use Rattle.std.proofs.Common.{arith}
use Rattle.laws.specs.Casts.{in_float_lem}
use Rattle.discs.specs.Radius.{lowered}
use Rattle.discs.proofs.ceiling.lowered.Goals as goal

pub int_to_float-n : goal.int_to_float-n
int_to_float-n c = in_float_lem _ (omega arith)

pub returns-in-Nothing : goal.returns-in-Nothing
unfolding lowered
returns-in-Nothing c = rw c.in-Nothing.is

pub returns-in-Full : goal.returns-in-Full
unfolding lowered
returns-in-Full c = rw c.in-Full.is

pub returns-in-Found : goal.returns-in-Found
unfolding lowered
returns-in-Found c = rw (c.in-Found.is, c.min.ensures, c.min-by_clearance.ensures, c.root.ensures)
