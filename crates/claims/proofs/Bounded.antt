-- THE CLEARANCE OF A PLACE INSIDE A PIECE is 1,031 at most.
-- Rests on an edge of the outer ring being within that of the place.
use Rattle.std.specs.Prelude.{◌≡◌, refl, Bool, true, false, cond, ℕ, suc, ◌*◌, ◌≤◌, ◌<◌, T, Float}
use mathlib.Core.List.{List, [], ◌∷◌, foldl}
use Rattle.std.proofs.Common.{arith, le-ltb, lit<}
use Rattle.std.specs.Float.{binary64}
use Rattle.std.specs.Float.Ieee.{fits, lt, le}
use Rattle.laws.specs.Truth.{no}
use Rattle.float.specs.Ops.{0ᶠ, ∞}
use Rattle.float.specs.Laws.Nan.{Number}
use Rattle.float.specs.Laws.Zero.{origin_is}
use Rattle.float.specs.Laws.Compare.{le_trans, le_self, not_lt_le}
use Rattle.rounding.specs.Comparison.{le→≼}
use Rattle.rounding.specs.Bounds.{Sized, wider, ranged}
use Rattle.rounding.specs.Signs.{zero_num, zero_val, zero_sized}
use Rattle.rounding.proofs.Sqrt.{sqrt_sized}
use Rattle.glyphs.specs.Points.{Ring, vertices}
use Rattle.regions.specs.Ring.{Piece, outer}
use Rattle.regions.specs.Inside.{point_in_polygon}
use Rattle.regions.specs.Clearance.{square_at, closer, within, min_dist_to_rings, signed_clearance}
use Rattle.regions.specs.Squares.{least_after, least_of_ring, least_of_rings}
use Rattle.regions.specs.Least.{least_root, after_good, ring_good, rings_good, ∞-good, after_falls, at_least_zero, rings_fall}
use Rattle.regions.specs.Facts.{inside_is}
use Rattle.regions.specs.Sizes.{sized_number}
use Rattle.format.specs.Known.{RingKnown, PieceKnown}
use Rattle.claims.specs.Straddle.{inside_between}
use Rattle.claims.specs.Deep.{some_near}
use Rattle.claims.specs.Within.{within_outer}

-- ---- the least square is no more than any edge's
closer_under : (s b : Float) → Number s → Number b → T (le (closer s b) s)
unfolding closer
closer_under s b p q = go (lt s b) refl
  where
    go : (t : Bool) → lt s b ≡ t → T (le (cond t s b) s)
    go true e = le_self s p
    go false e = not_lt_le b s q p (no e)

module _ (x y : Float) (ring : Ring) (n : ℕ) where
  at_turn : (i : ℕ) → Number (square_at x y ring n i) → T (le (least_after x y ∞ ring n (suc i)) (square_at x y ring n i))
  unfolding least_after
  at_turn i h = closer_under (square_at x y ring n i) (least_after x y ∞ ring n i) h (after_good x y ∞ ring ∞-good n i).number

  after_under : (i : ℕ) → i < n → Number (square_at x y ring n i) → T (le (least_after x y ∞ ring n n) (square_at x y ring n i))
  after_under i l h =
      le_trans (least_after x y ∞ ring n n) (least_after x y ∞ ring n (suc i)) (square_at x y ring n i) (after_falls x y ∞ ring ∞-good n (suc i) n l)
      (at_turn i h)

ring_under :
    (x y : Float) (ring : Ring) (i : ℕ) → 2 ≤ vertices ring → i < vertices ring → Number (square_at x y ring (vertices ring) i)
    → T (le (least_of_ring x y ∞ ring) (square_at x y ring (vertices ring) i))
unfolding least_of_ring
ring_under x y ring i two l h = rw (le-ltb (vertices ring) 2 two) (after_under x y ring (vertices ring) i l h)

-- ---- the distance
module _ (x y : Float) (fx : T (fits binary64 x)) (fy : T (fits binary64 y)) where
  least_near : (ring : Ring) (holes : List Ring) → RingKnown ring → point_in_polygon x y ring ≡ true → Sized (least_of_rings x y (ring ∷ holes)) (1031 * 1031)
  unfolding least_of_rings
  least_near ring holes r h =
      let e = some_near x y ring r fx fy h in
      let g = rings_good x y ∞ (ring ∷ holes) ∞-good in
      let q = square_at x y ring (vertices ring) e.index in
      ranged g.square.fit (wider (omega arith) zero_sized) e.near (rw origin_is (at_least_zero _ g))
      (le_trans (foldl (least_of_ring x y) (least_of_ring x y ∞ ring) holes) (least_of_ring x y ∞ ring) q
      (rings_fall x y (least_of_ring x y ∞ ring) holes (ring_good x y ∞ ring ∞-good))
      (ring_under x y ring e.index (omega (arith, (inside_between x y ring h).three)) e.within (sized_number e.near)))

  distance_near : (piece : Piece) → PieceKnown piece → point_in_polygon x y (outer piece) ≡ true → Sized (min_dist_to_rings x y piece) 1031
  unfolding outer least_of_rings
  distance_near [] k h = absurd (omega (arith, k.some))
  distance_near (ring ∷ holes) k h =
      let s = least_near ring holes k.rings.0 h in
      let g = rings_good x y ∞ (ring ∷ holes) ∞-good in
      rw least_root
      (sqrt_sized (least_of_rings x y (ring ∷ holes)) 1031 s (rw zero_val at (le→≼ 0ᶠ _ zero_num s.num (rw origin_is (at_least_zero _ g)))) (lit< tt))

  pub clearance_inside : (piece : Piece) → PieceKnown piece → within x y piece ≡ true → Sized (signed_clearance x y piece) 1031
  clearance_inside piece k h = rw (inside_is x y piece h) (distance_near piece k (within_outer x y piece h))
