-- What later layers ask of the clearance and the area, for every piece and place, NaN and infinity among them.
-- Rests on float's laws of roots and comparisons.
use Rattle.std.specs.Prelude.{◌≡◌, refl, Bool, true, false, cond, T, Float}
use Rattle.std.proofs.Common.{sym, ◌∙◌, true≢false}
use Rattle.std.specs.Float.Ieee.{neg, le, is_nan, of_bits}
use Rattle.laws.specs.Truth.{no, refuted}
use Rattle.float.specs.Ops.{◌<ᶠ◌, ◌≤ᶠ◌, 0ᶠ, ∞}
use Rattle.float.specs.Order.{max}
use Rattle.float.specs.Laws.Nan.{Number}
use Rattle.float.specs.Laws.Zero.{origin, origin_is}
use Rattle.float.specs.Laws.Compare.{not_lt_le, lt_not_le, le_trans, lt_le_trans, neg_le, neg_number}
use Rattle.float.specs.Laws.Minimum.{square_root_number}
use Rattle.regions.specs.Ring.{Piece}
use Rattle.regions.specs.Area.{piece_area}
use Rattle.regions.specs.Clearance.{within, min_dist_to_rings, signed_clearance}
use Rattle.regions.specs.Squares.{least_of_rings}
use Rattle.regions.specs.Least.{least_root, rings_good, ∞-good, dist_least}

dist_number : (px py : Float) (piece : Piece) → Number (min_dist_to_rings px py piece)
unfolding least_of_rings
dist_number px py piece =
    let g = rings_good px py ∞ piece ∞-good in
    rw least_root (square_root_number (least_of_rings px py piece) g.number g.square)

-- the clearance is never NaN
pub clearance_number : (px py : Float) (piece : Piece) → Number (signed_clearance px py piece)
unfolding signed_clearance
clearance_number px py piece = go (within px py piece)
  where
    go : (t : Bool) → Number (cond t (min_dist_to_rings px py piece) (neg (min_dist_to_rings px py piece)))
    go true = dist_number px py piece
    go false = neg_number (min_dist_to_rings px py piece) (dist_number px py piece)

flat : T (le (neg origin) origin)
unfolding le neg
flat = tt

-- a clearance above 0 is that of a place inside, and is its distance
pub above_inside : (px py : Float) (piece : Piece) → T (0ᶠ <ᶠ signed_clearance px py piece) → within px py piece ≡ true
unfolding signed_clearance
above_inside px py piece h = go (within px py piece) refl h
  where
    go :
        (t : Bool) → within px py piece ≡ t → T (0ᶠ <ᶠ cond t (min_dist_to_rings px py piece) (neg (min_dist_to_rings px py piece)))
        → within px py piece ≡ true
    go true e k = e
    go false e k =
        absurd
        (lt_not_le origin (neg (min_dist_to_rings px py piece)) (rw origin_is at k)
        (le_trans (neg (min_dist_to_rings px py piece)) (neg origin) origin (neg_le origin (min_dist_to_rings px py piece) (dist_least px py piece)) flat))

pub inside_is : (px py : Float) (piece : Piece) → within px py piece ≡ true → signed_clearance px py piece ≡ min_dist_to_rings px py piece
unfolding signed_clearance
inside_is px py piece e = rw e

-- so none outside is at least a c above 0
pub outside : (px py c : Float) (piece : Piece) → T (0ᶠ <ᶠ c) → within px py piece ≡ false → c ≤ᶠ signed_clearance px py piece ≡ false
outside px py c piece h e =
    refuted (c ≤ᶠ signed_clearance px py piece)
    (λ (k : T (c ≤ᶠ signed_clearance px py piece)). true≢false (sym (above_inside px py piece (lt_le_trans 0ᶠ c (signed_clearance px py piece) h k)) ∙ e))

zero_self : T (0ᶠ ≤ᶠ 0ᶠ)
unfolding le of_bits
zero_self = tt

pub zero_number : Number 0ᶠ
unfolding is_nan of_bits
zero_number = tt

-- the greater of a value and 0 is not below 0
max_zero : (x : Float) → T (0ᶠ ≤ᶠ max x 0ᶠ)
unfolding max
max_zero x = go (is_nan x) (x <ᶠ 0ᶠ) refl refl
  where
    go : (s t : Bool) → is_nan x ≡ s → x <ᶠ 0ᶠ ≡ t → T (0ᶠ ≤ᶠ cond s 0ᶠ (cond t 0ᶠ x))
    go true t e f = zero_self
    go false true e f = zero_self
    go false false e f = not_lt_le 0ᶠ x zero_number (no e) (no f)

-- an area is not negative, nor NaN
pub area_not_negative : (piece : Piece) → T (0ᶠ ≤ᶠ piece_area piece)
unfolding piece_area
area_not_negative piece = max_zero _
