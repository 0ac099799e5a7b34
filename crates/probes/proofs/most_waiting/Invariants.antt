-- `most_waiting` ends within 1,600. The invariant: what is looked at stays within the lent cells.
-- Rests on the contract of `has_room`.
use Prim.Native.Nat.{◌+◌, ◌≤◌}
use mathlib.Core.Path.{◌≡◌}
use lib.ListN.{length}
use Rattle.probes.proofs.most_waiting.Given as goal

abbrev pub invariant-loop-span : goal.invariant-loop-span
invariant-loop-span l = (l.low + l.span ≤ 1600) × (length l.cells ≡ length l.initial.cells)

abbrev pub decreases-loop-span : goal.decreases-loop-span
decreases-loop-span l = l.span
