-- regions.rs, `min_dist_to_rings` and `signed_clearance`. Definitions only.
use Rattle.std.specs.Prelude.{ℕ, zero, suc, Bool, true, false, not, cond, ◌&&◌, ltb, Float}
use mathlib.Core.List.{List, [], ◌∷◌, foldl}
use Rattle.std.specs.Float.Ieee.{neg}
use Rattle.float.specs.Ops.{◌+ᶠ◌, ◌-ᶠ◌, ◌*ᶠ◌, ◌/ᶠ◌, ◌<ᶠ◌, ◌>ᶠ◌, 0ᶠ, 1ᶠ, ∞}
use Rattle.float.specs.Order.{clamp, sqrt}
use Rattle.glyphs.specs.Points.{Ring, vertices, x_at, y_at}
use Rattle.regions.specs.Ring.{Piece, next, outer, holes}
use Rattle.regions.specs.Inside.{point_in_polygon}

-- t, of `dot` = (px - a.x()) * dx + (py - a.y()) * dy
unfoldable pub along : Float → Float → Float
along dot len2 = cond (len2 >ᶠ 0ᶠ) (clamp (dot /ᶠ len2) 0ᶠ 1ᶠ) 0ᶠ

-- the square of the distance from (px, py) to the edge from a to b
unfoldable pub edge_square : Float → Float → Float → Float → Float → Float → Float
edge_square px py ax ay bx by =
    let dx = bx -ᶠ ax in
    let dy = by -ᶠ ay in
    let len2 = dx *ᶠ dx +ᶠ dy *ᶠ dy in
    let t = along ((px -ᶠ ax) *ᶠ dx +ᶠ (py -ᶠ ay) *ᶠ dy) len2 in
    let qx = ax +ᶠ t *ᶠ dx in
    let qy = ay +ᶠ t *ᶠ dy in
    (px -ᶠ qx) *ᶠ (px -ᶠ qx) +ᶠ (py -ᶠ qy) *ᶠ (py -ᶠ qy)

-- the edge i of a ring of n vertices runs from the vertex i to the next
abbrev pub square_at : Float → Float → Ring → ℕ → ℕ → Float
square_at px py ring n i = edge_square px py (x_at ring i) (y_at ring i) (x_at ring (next n i)) (y_at ring (next n i))

abbrev pub dist_at : Float → Float → Ring → ℕ → ℕ → Float
dist_at px py ring n i = sqrt (square_at px py ring n i)

-- if d < best { best = d; }
unfoldable pub closer : Float → Float → Float
closer d best = cond (d <ᶠ best) d best

-- `best` after the first i edges of a ring
unfoldable pub best_after : Float → Float → Float → Ring → ℕ → ℕ → Float
best_after px py best ring n zero = best
best_after px py best ring n (suc i) = closer (dist_at px py ring n i) (best_after px py best ring n i)

-- a ring of fewer than two vertices is passed over
unfoldable pub best_of_ring : Float → Float → Float → Ring → Float
best_of_ring px py best ring = cond (ltb (vertices ring) 2) best (best_after px py best ring (vertices ring) (vertices ring))

unfoldable pub min_dist_to_rings : Float → Float → List Ring → Float
min_dist_to_rings px py rings = foldl (best_of_ring px py) ∞ rings

-- holes.iter().any(|h| point_in_polygon(&probe, h))
unfoldable pub in_any : Float → Float → List Ring → Bool
in_any x y [] = false
in_any x y (ring ∷ rings) = cond (point_in_polygon x y ring) true (in_any x y rings)

-- in_outer && !in_any_hole
unfoldable pub within : Float → Float → Piece → Bool
within x y piece = point_in_polygon x y (outer piece) && not (in_any x y (holes piece))

unfoldable pub signed_clearance : Float → Float → Piece → Float
signed_clearance px py piece =
    let dist = min_dist_to_rings px py piece in
    cond (within px py piece) dist (neg dist)
