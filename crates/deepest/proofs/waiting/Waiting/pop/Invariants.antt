-- `pop` meets its contract. The invariant: the last cell is on its way down from the first place.
-- Rests on the laws of that way's start, step and end.
use Rattle.std.proofs.Common.{◌-◌}
use Rattle.deepest.specs.Sift.{Sinking}
use Rattle.deepest.proofs.waiting.Waiting.pop.Given as goal

abbrev pub invariant-loop-i : goal.invariant-loop-i
invariant-loop-i l = Sinking l.fn.self.halves.now l.initial.cells l.n l.first l.c l.cells l.i

abbrev pub decreases-loop-i : goal.decreases-loop-i
decreases-loop-i l = l.n - l.i
