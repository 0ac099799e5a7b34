-- regions.rs, `point_in_polygon`: the even-odd test of a point against a ring. Definitions only.
use Rattle.std.specs.Prelude.{ℕ, zero, suc, Bool, false, not, cond, ◌&&◌, ltb, Float}
use Rattle.std.specs.Bool.{beq}
use Rattle.float.specs.Ops.{◌+ᶠ◌, ◌-ᶠ◌, ◌*ᶠ◌, ◌/ᶠ◌, ◌<ᶠ◌, ◌>ᶠ◌, ε}
use Rattle.glyphs.specs.Points.{Ring, vertices, x_at, y_at}
use Rattle.regions.specs.Ring.{prev}

-- whether the ray from (x, y) crosses the edge between the vertices i and j
unfoldable pub intersect : Float → Float → Float → Float → Float → Float → Bool
intersect x y xi yi xj yj =
    not (beq (yi >ᶠ y) (yj >ᶠ y)) && x <ᶠ (xj -ᶠ xi) *ᶠ (y -ᶠ yi) /ᶠ (yj -ᶠ yi +ᶠ ε) +ᶠ xi

-- if intersect { inside = !inside; }
unfoldable pub flip : Bool → Bool → Bool
flip crossed inside = cond crossed (not inside) inside

-- `inside` after the first i turns, each of which has the vertex before its own as j
unfoldable pub inside_after : Float → Float → Ring → ℕ → ℕ → Bool
inside_after x y v n zero = false
inside_after x y v n (suc i) =
    flip (intersect x y (x_at v i) (y_at v i) (x_at v (prev n i)) (y_at v (prev n i))) (inside_after x y v n i)

unfoldable pub point_in_polygon : Float → Float → Ring → Bool
point_in_polygon x y v = cond (ltb (vertices v) 3) false (inside_after x y v (vertices v) (vertices v))
