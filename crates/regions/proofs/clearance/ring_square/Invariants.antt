-- `ring_square` meets its contract. The invariant: the leasts are those of the definitions after `i` edges of each half.
-- Rests on the law of a ring's two parts, and on the contracts of what it calls.
use Prim.Native.Nat.{◌+◌, ◌≤◌, ◌<◌, ◌-◌, ◌/◌}
use mathlib.Core.Path.{◌≡◌}
use lib.ListN.{length}
use Rattle.glyphs.specs.Points.{vertex_at}
use Rattle.regions.specs.Squares.{least_after, least_from}
use Rattle.regions.proofs.clearance.ring_square.Given as goal

abbrev pub invariant-loop-i : goal.invariant-loop-i
invariant-loop-i l =
    (l.i ≤ l.half)
    × (l.n ≡ length l.ring)
    × (l.half ≡ l.n / 2)
    × (l.best ≡ least_after l.px l.py l.start l.ring l.n l.i)
    × (l.other ≡ least_from l.px l.py l.ring l.n l.half l.i)
    × (l.a ≡ vertex_at l.ring l.i)
    × (l.half + l.i < l.n → l.b ≡ vertex_at l.ring (l.half + l.i))

abbrev pub decreases-loop-i : goal.decreases-loop-i
decreases-loop-i l = l.half - l.i
