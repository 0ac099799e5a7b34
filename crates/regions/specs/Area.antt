-- polygon.rs, `shoelace_area`, and regions.rs, `RegionPiece::area`.
use Rattle.std.specs.Prelude.{ℕ, zero, suc, ◌≡◌, refl, cond, ltb, Float}
use mathlib.Core.List.{List, foldl}
use Rattle.std.specs.Float.Ieee
use Rattle.std.specs.Float.Ieee.{neg}
use Rattle.float.specs.Ops.{◌+ᶠ◌, ◌-ᶠ◌, ◌*ᶠ◌, ◌/ᶠ◌, 0ᶠ, -0ᶠ, 2ᶠ}
use Rattle.float.specs.Order.{abs, max}
use Rattle.glyphs.specs.Points.{Ring, vertices, x_at, y_at}
use Rattle.regions.specs.Ring.{Piece, next, outer, holes}

-- area += a.x() * b.y(); area -= b.x() * a.y();
unfoldable pub area_step : Float → Float → Float → Float → Float → Float
area_step area ax ay bx by = area +ᶠ ax *ᶠ by -ᶠ bx *ᶠ ay

-- `area` after the first i turns
unfoldable pub area_after : Ring → ℕ → ℕ → Float
area_after v n zero = 0ᶠ
area_after v n (suc i) = area_step (area_after v n i) (x_at v i) (y_at v i) (x_at v (next n i)) (y_at v (next n i))

unfoldable pub shoelace_area : Ring → Float
shoelace_area v = cond (ltb (vertices v) 3) 0ᶠ (abs (area_after v (vertices v) (vertices v) /ᶠ 2ᶠ))

-- holes.iter().map(|h| h.area()).sum(), which starts at -0.0
unfoldable pub area_sum : Float → List Ring → Float
area_sum sum rings = foldl (λ sum ring. sum +ᶠ shoelace_area ring) sum rings

unfoldable pub piece_area : Piece → Float
piece_area piece = max (shoelace_area (outer piece) -ᶠ area_sum -0ᶠ (holes piece)) 0ᶠ

-- the code's -0.0
pub minus_zero : neg 0ᶠ ≡ -0ᶠ
unfolding Ieee.neg Ieee.of_bits Ieee.of_fields Ieee.odd
minus_zero = refl
