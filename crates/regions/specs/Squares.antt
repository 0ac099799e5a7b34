-- The least of the squares in place of the least of the distances: definitions for the code. `Least.antt` has the law that its root is the least distance.
-- Assumes nothing.
use Rattle.std.specs.Prelude.{ℕ, zero, suc, ◌+◌, ◌≡◌, refl, cond, ltb, Float}
use mathlib.Core.List.{List, foldl}
use Rattle.std.specs.Float.Ieee
use Rattle.float.specs.Ops.{◌/ᶠ◌, 0ᶠ, 1ᶠ, ∞}
use Rattle.glyphs.specs.Points.{Ring, vertices}
use Rattle.regions.specs.Clearance.{square_at, closer}

unfoldable pub least_after : Float → Float → Float → Ring → ℕ → ℕ → Float
least_after px py best ring n zero = best
least_after px py best ring n (suc i) = closer (square_at px py ring n i) (least_after px py best ring n i)

-- the least of the k edges from the edge h on
unfoldable pub least_from : Float → Float → Ring → ℕ → ℕ → ℕ → Float
least_from px py ring n h zero = ∞
least_from px py ring n h (suc k) = closer (square_at px py ring n (h + k)) (least_from px py ring n h k)

unfoldable pub least_of_ring : Float → Float → Float → Ring → Float
least_of_ring px py best ring = cond (ltb (vertices ring) 2) best (least_after px py best ring (vertices ring) (vertices ring))

unfoldable pub least_of_rings : Float → Float → List Ring → Float
least_of_rings px py rings = foldl (least_of_ring px py) ∞ rings

-- 1.0 / 0.0
pub infinite : 1ᶠ /ᶠ 0ᶠ ≡ ∞
unfolding Ieee.of_bits Ieee.of_fields Ieee.odd Ieee.div
infinite = refl
