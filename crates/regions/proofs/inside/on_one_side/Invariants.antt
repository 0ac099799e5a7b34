-- `on_one_side` meets its contract. The invariant: `above` is the count of the first k vertices.
-- Rests on the bounds of a flag and of a count.
use mathlib.Core.Path.{◌≡◌}
use Prim.Native.Nat.{◌≤◌, ◌-◌}
use Rattle.regions.specs.Sides.{above_count}
use Rattle.regions.proofs.inside.on_one_side.Given as goal

abbrev pub invariant-loop-k : goal.invariant-loop-k
invariant-loop-k l = (l.k ≤ 17) × (l.above ≡ above_count l.y l.v l.i l.k)

abbrev pub decreases-loop-k : goal.decreases-loop-k
decreases-loop-k l = 17 - l.k
