-- glyphs.rs: `dist_to_rect`, `clear_of_obstacles`, `sanitize_obstacles` and `obstacles_near`.
-- Obstacles also lie in a list of floats, four each: centre x, centre y, width, height.
use Rattle.std.specs.Prelude.{◌≡◌, ℕ, zero, suc, ◌+◌, ◌-◌, ◌*◌, ◌/◌, ◌<◌, ◌≤◌}
use Rattle.std.specs.Prelude.{Bool, true, false, cond, ◌&&◌, refl, Option, Some, None, Float}
use Rattle.std.specs.Prelude.{List, [], ◌∷◌, ◌++◌, length, slice_index_or, get_or, drop}
use Rattle.std.proofs.Common.{append_assoc, append-nil, arith}
use Rattle.std.proofs.lemmas.List.{drop_more}
use Rattle.std.proofs.Math.ListN.{drop_of_length-le}
use Rattle.std.specs.Float.Ieee
use Rattle.std.specs.Float.{nan, inf, fin, float_is_finite}
use Rattle.float.specs.Ops.{◌+ᶠ◌, ◌-ᶠ◌, ◌*ᶠ◌, ◌/ᶠ◌, ◌<ᶠ◌, ◌>ᶠ◌, ◌≤ᶠ◌, ◌≥ᶠ◌, 0ᶠ, 1ᶠ, ½ᶠ, ∞}
use Rattle.float.specs.Order.{abs, max, hypot}
use Rattle.glyphs.specs.Bounds.{Extents}
use Rattle.glyphs.specs.declared.rect.Rectangle.{Rectangle}

unfoldable pub rect_at : List Float → ℕ → Rectangle
rect_at l k =
    record {
      center = record { x = slice_index_or l (k * 4) nan; y = slice_index_or l (k * 4 + 1) nan };
      width = slice_index_or l (k * 4 + 2) nan;
      height = slice_index_or l (k * 4 + 3) nan;
    }

-- n rectangles, from the k-th on
unfoldable pub rects_from : List Float → ℕ → ℕ → List Rectangle
rects_from l k zero = []
rects_from l k (suc n) = rect_at l k ∷ rects_from l (k + 1) n

unfoldable pub rectangles : List Float → List Rectangle
rectangles l = rects_from l 0 (length l / 4)

unfoldable pub dist_to_rect : Float → Float → Rectangle → Float
dist_to_rect px py rect =
    let dx = abs (px -ᶠ rect.center.x) -ᶠ ½ᶠ *ᶠ rect.width in
    let dy = abs (py -ᶠ rect.center.y) -ᶠ ½ᶠ *ᶠ rect.height in
    hypot (max dx 0ᶠ) (max dy 0ᶠ)

unfoldable pub clear_of_obstacles : Float → Float → List Rectangle → Float → Bool
clear_of_obstacles px py [] clearance = true
clear_of_obstacles px py (rect ∷ obstacles) clearance = dist_to_rect px py rect ≥ᶠ clearance && clear_of_obstacles px py obstacles clearance

-- f64::is_finite
unfoldable pub is_finite : Float → Bool
is_finite x = abs x <ᶠ ∞

unfoldable pub sane : Rectangle → Bool
sane rect =
    is_finite rect.center.x
    && is_finite rect.center.y
    && rect.width >ᶠ 0ᶠ
    && rect.height >ᶠ 0ᶠ
    && is_finite rect.width
    && is_finite rect.height

-- the elements that pass, in order
unfoldable pub filter : (Rectangle → Bool) → List Rectangle → List Rectangle
filter f [] = []
filter f (rect ∷ rects) = cond (f rect) (rect ∷ filter f rects) (filter f rects)

unfoldable pub sanitize_obstacles : List Rectangle → List Rectangle
sanitize_obstacles obstacles = filter sane obstacles

unfoldable pub near : Rectangle → Float → Float → Float → Float → Float → Bool
near rect clearance min-x max-x min-y max-y =
    let half-w = ½ᶠ *ᶠ rect.width +ᶠ clearance in
    let half-h = ½ᶠ *ᶠ rect.height +ᶠ clearance in
    let cx = rect.center.x in
    let cy = rect.center.y in
    cx +ᶠ half-w ≥ᶠ min-x && cx -ᶠ half-w ≤ᶠ max-x && cy +ᶠ half-h ≥ᶠ min-y && cy -ᶠ half-h ≤ᶠ max-y

-- the obstacles near a piece, by the bounds of its outer ring
unfoldable pub obstacles_near : Option Extents → List Rectangle → Float → List Rectangle
obstacles_near None obstacles clearance = []
obstacles_near (Some bounds) obstacles clearance = filter (λ rect. near rect clearance bounds.min_x bounds.max_x bounds.min_y bounds.max_y) obstacles

-- ---- laws

-- one more obstacle, or not, behind those before it
pub joined : (b : Bool) (rect : Rectangle) (xs ys : List Rectangle) → xs ++ cond b (rect ∷ ys) ys ≡ (xs ++ cond b (rect ∷ []) []) ++ ys
joined true rect xs ys = rw append_assoc refl
joined false rect xs ys = rw append-nil refl

-- an obstacle that passes stands behind those that passed before it
pub filter_turn :
    (f : Rectangle → Bool) (xs : List Rectangle) (rect : Rectangle) (rects : List Rectangle)
    → xs ++ filter f (rect ∷ rects) ≡ (xs ++ cond (f rect) (rect ∷ []) []) ++ filter f rects
unfolding filter
filter_turn f xs rect rects = joined (f rect) rect xs (filter f rects)

-- whether what is left of some obstacles is cleared, where one more is not, and where it is
module _ (px py clearance : Float) (obstacles : List Rectangle) (i : ℕ) where
  pub clear_stops :
      (d : Rectangle) → i < length obstacles → dist_to_rect px py (get_or obstacles i d) ≥ᶠ clearance ≡ false
      → clear_of_obstacles px py (drop i obstacles) clearance ≡ false
  unfolding clear_of_obstacles
  clear_stops d h e = rw (drop_more obstacles i d h, e)

  pub clear_goes_on :
      (d : Rectangle) → i < length obstacles → dist_to_rect px py (get_or obstacles i d) ≥ᶠ clearance ≡ true
      → clear_of_obstacles px py (drop i obstacles) clearance ≡ clear_of_obstacles px py (drop (i + 1) obstacles) clearance
  unfolding clear_of_obstacles
  clear_goes_on d h e = rw (drop_more obstacles i d h, e)

  pub clear_ends : length obstacles ≤ i → clear_of_obstacles px py (drop i obstacles) clearance ≡ true
  unfolding clear_of_obstacles
  clear_ends h = rw drop_of_length-le

pub rects_step :
    (l : List Float) (k n : ℕ) → k < n → rects_from l k (n - k) ≡ rect_at l k ∷ rects_from l (k + 1) (n - (k + 1))
unfolding rects_from
rects_step l k n h =
    let e : n - k ≡ suc (n - (k + 1)) = omega arith in
    rw e

pub rects_end : (l : List Float) (k n : ℕ) → n ≤ k → rects_from l k (n - k) ≡ []
unfolding rects_from
rects_end l k n h =
    let e : n - k ≡ 0 = omega arith in
    rw e

-- the library's test
pub finite_test : (x : Float) → float_is_finite x ≡ is_finite x
unfolding float_is_finite is_finite abs Ieee.lt Ieee.of_bits Ieee.of_fields Ieee.odd
finite_test nan = refl
finite_test (inf s) = refl
finite_test (fin s m e) = refl

-- 1.0 / 0.0
pub infinite : 1ᶠ /ᶠ 0ᶠ ≡ ∞
unfolding Ieee.of_bits Ieee.of_fields Ieee.odd Ieee.div
infinite = refl
