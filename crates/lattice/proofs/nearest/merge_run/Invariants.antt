-- `merge_run` meets its contract. The invariant of both loops: the cells behind the `i` old ones and those of the run that are left are placed.
-- Rests on the laws of a run merged from the back.
use Rattle.std.proofs.Common.{◌+◌, ◌/◌, length}
use Rattle.lattice.specs.Run.{Merging}
use Rattle.lattice.proofs.nearest.merge_run.Given as goal

abbrev pub invariant-loop-i : goal.invariant-loop-i
invariant-loop-i l = Merging l.anchor l.fn.cells l.run l.m l.cap (length l.run / 2) l.i (l.j + 1) l.cells

abbrev pub decreases-loop-i : goal.decreases-loop-i
decreases-loop-i l = l.i

abbrev pub invariant-loop-j : goal.invariant-loop-j
invariant-loop-j l = Merging l.anchor l.fn.cells l.run l.m l.cap (length l.run / 2) l.i l.j l.cells
