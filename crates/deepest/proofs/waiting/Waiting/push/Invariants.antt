-- `push` meets its contract. The invariant: the cell is on its way up.
-- Rests on the laws of that way's start, step and end.
use Rattle.deepest.specs.Sift.{Rising}
use Rattle.deepest.proofs.waiting.Waiting.push.Given as goal

abbrev pub invariant-loop-i : goal.invariant-loop-i
invariant-loop-i l = Rising l.fn.self.halves.now l.initial.cells l.initial.i l.cell l.cells l.i

abbrev pub decreases-loop-i : goal.decreases-loop-i
decreases-loop-i l = l.i
