-- `ring_extents` meets its contract. The invariant: each extent is that of the vertices so far.
-- Rests on the contracts of `min` and `max`.
use Rattle.std.proofs.Common.{◌≡◌}
use Rattle.float.specs.Ops.{∞}
use Rattle.float.specs.Order.{min, max}
use Rattle.glyphs.specs.Points.{x_at, y_at}
use Rattle.glyphs.specs.Bounds.{extent, -∞}
use Rattle.glyphs.proofs.bounds.ring_extents.Given as goal

abbrev pub invariant-loop-p : goal.invariant-loop-p
invariant-loop-p l =
    (l.min_x ≡ extent min x_at ∞ l.ring l.p-index)
    × (l.max_x ≡ extent max x_at -∞ l.ring l.p-index)
    × (l.min_y ≡ extent min y_at ∞ l.ring l.p-index)
    × (l.max_y ≡ extent max y_at -∞ l.ring l.p-index)
