-- `turned_from` meets its contract. The invariant: the flag is that of the definition after k turns.
-- Rests on the law of a turn.
use mathlib.Core.Path.{◌≡◌}
use Prim.Native.Nat.{◌≤◌, ◌<◌, ◌-◌}
use lib.ListN.{length}
use Rattle.regions.specs.Inside.{inside_after}
use Rattle.regions.proofs.inside.turned_from.Given as goal

abbrev pub invariant-loop-k : goal.invariant-loop-k
invariant-loop-k l =
    (0 < l.k) × (l.k ≤ l.e) × (l.e ≤ length l.v) × (l.turned_over ≡ inside_after l.x l.y l.v (length l.v) l.k)

abbrev pub decreases-loop-k : goal.decreases-loop-k
decreases-loop-k l = l.e - l.k
