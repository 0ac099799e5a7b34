-- A place inside a piece of a job's coordinates is within 5,120 across and 1,024 along; so is one whose clearance is an inset above 0.
-- Rests on the crossings left and right of a place inside, and on their sizes.
use Rattle.std.specs.Prelude.{◌≡◌, refl, Bool, true, false, not, ◌&&◌, List, [], ◌∷◌, ℕ, zero, suc, ◌<◌, T, length, get_or, Float}
use Rattle.std.proofs.Common.{arith, T_not}
use Rattle.std.specs.Float.{binary64}
use Rattle.std.specs.Float.Ieee.{fits}
use Rattle.laws.specs.Truth.{yes, no}
use Rattle.float.specs.Ops.{◌<ᶠ◌, ◌≤ᶠ◌, 0ᶠ}
use Rattle.float.specs.Laws.Nan.{lt_number}
use Rattle.float.specs.Laws.Compare.{lt_le, not_lt_le}
use Rattle.rounding.specs.Bounds.{Sized, ranged}
use Rattle.glyphs.specs.Points.{Ring, nowhere, vertices, x_at, y_at}
use Rattle.regions.specs.Ring.{Piece, prev, outer, holes}
use Rattle.regions.specs.Inside.{point_in_polygon}
use Rattle.regions.specs.Clearance.{within, in_any, signed_clearance}
use Rattle.regions.specs.Facts.{outside}
use Rattle.regions.specs.Sizes.{sized_number}
use Rattle.format.specs.Exact.{Coordinate}
use Rattle.format.specs.Known.{All, PointKnown, RingKnown, PieceKnown}
use Rattle.claims.specs.Straddle.{Edge, inside_between}
use Rattle.claims.specs.Crossing.{Crossed, crossed, spans}

-- ---- a ring's vertices
all_at : {A : Type 0} (P : A → Type 0) (l : List A) (d : A) → All P l → (i : ℕ) → i < length l → P (get_or l i d)
all_at P [] d a i h = absurd (omega arith)
all_at P (x ∷ xs) d a zero h = a.0
all_at P (x ∷ xs) d a (suc i) h = all_at P xs d a.1 i (omega arith)

module _ (v : Ring) (r : RingKnown v) where
  pub vertex_x : (i : ℕ) → i < vertices v → Coordinate (x_at v i)
  vertex_x i h = (all_at PointKnown v nowhere r.points i h).x

  pub vertex_y : (i : ℕ) → i < vertices v → Coordinate (y_at v i)
  vertex_y i h = (all_at PointKnown v nowhere r.points i h).y

pub prev_within : (n k : ℕ) → k < n → prev n k < n
unfolding prev
prev_within n zero h = omega arith
prev_within n (suc k) h = omega arith

-- ---- inside
pub record Placed (x y : Float) : Type 0 where
  pub across : Sized x 5120
  pub along : Sized y 1024

module _ (x y : Float) (v : Ring) (r : RingKnown v) (fx : T (fits binary64 x)) (fy : T (fits binary64 y)) where
  pub edge_crossed : {left : Bool} (e : Edge x y v left) → Crossed y (x_at v e.k) (y_at v e.k) (x_at v (prev (vertices v) e.k)) (y_at v (prev (vertices v) e.k))
  edge_crossed e =
      let i = e.k in
      let j = prev (vertices v) i in
      let p = prev_within (vertices v) i e.within in
      crossed y (x_at v i) (y_at v i) (x_at v j) (y_at v j) fy (vertex_x v r i e.within) (vertex_y v r i e.within) (vertex_x v r j p) (vertex_y v r j p)
      (spans y (y_at v i) (y_at v j) e.straddle)

  pub inside_placed : point_in_polygon x y v ≡ true → Placed x y
  inside_placed h =
      let b = inside_between x y v h in
      let R = edge_crossed b.right in
      let L = edge_crossed b.left in
      let t = yes b.right.side in
      record { across = ranged fx L.sized R.sized (not_lt_le _ x (sized_number L.sized) (lt_number x _ t).0 (no b.left.side)) (lt_le x _ t); along = R.high }

-- ---- an inset above 0
pub outer_known : (piece : Piece) → PieceKnown piece → RingKnown (outer piece)
unfolding outer
outer_known [] k = absurd (omega (arith, k.some))
outer_known (ring ∷ rings) k = k.rings.0

pub within_outer : (x y : Float) (piece : Piece) → within x y piece ≡ true → point_in_polygon x y (outer piece) ≡ true
unfolding within
within_outer x y piece h = go (point_in_polygon x y (outer piece)) (not (in_any x y (holes piece))) h
  where
    go : (a b : Bool) → a && b ≡ true → a ≡ true
    go true b h = refl
    go false b h = h

pub inset_within : (x y inset : Float) (piece : Piece) → T (0ᶠ <ᶠ inset) → T (inset ≤ᶠ signed_clearance x y piece) → within x y piece ≡ true
inset_within x y inset piece i h = go (within x y piece) (outside x y inset piece i)
  where
    go : (t : Bool) → (t ≡ false → inset ≤ᶠ signed_clearance x y piece ≡ false) → t ≡ true
    go true f = refl
    go false f = absurd (T_not (inset ≤ᶠ signed_clearance x y piece) (no (f refl)) h)

pub inset_placed :
    (x y inset : Float) (piece : Piece) → PieceKnown piece → T (fits binary64 x) → T (fits binary64 y) → T (0ᶠ <ᶠ inset)
    → T (inset ≤ᶠ signed_clearance x y piece)
    → Placed x y
inset_placed x y inset piece k fx fy i h =
    inside_placed x y (outer piece) (outer_known piece k) fx fy (within_outer x y piece (inset_within x y inset piece i h))
