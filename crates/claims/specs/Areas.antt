-- The computed areas of a job's pieces are numbers, not negative, and at most 2 ^ 33; so is the sum of up to 16 of them, at most 2 ^ 37.
-- Rests on the rounding laws of sizes: a ring has 256 vertices within 1,024 at most, and a piece 9 rings.
use Rattle.std.proofs.Common.{inl, inr, arith, ltb→lt, lit<, lit≤}
use Rattle.std.specs.Prelude.{Bool, true, false, cond, List, [], ◌∷◌, T, ltb, length, Float}
use Prim.Native.Nat.{ℕ, zero, suc, ◌+◌, ◌*◌, ◌≤◌, ◌<◌}
use Rattle.std.proofs.lemmas.List.{length-map}
use Rattle.std.specs.Float.Ieee.{of_bits, neg}
use Rattle.std.specs.Float.Ieee.Scale.{finite}
use Rattle.float.specs.Ops.{◌+ᶠ◌, ◌/ᶠ◌, 0ᶠ, -0ᶠ, 2ᶠ}
use Rattle.float.specs.Order.{abs, max}
use Rattle.rounding.specs.Value.{U, mag}
use Rattle.rounding.specs.Bounds.{Sized, wider}
use Rattle.rounding.proofs.Bounds.{add_sized, sub_sized, mul_sized, div_sized}
use Rattle.rounding.specs.Signs.{zero_sized}
use Rattle.rounding.specs.Selection.{abs_num, abs_mag, max_case, max_zero_num, max_zero_nonneg}
use Rattle.rounding.specs.Row.{two_sized, two_mag}
use Rattle.rounding.specs.Shares.{Weights, none, more, minus_zero}
use Rattle.rounding.proofs.Shares.{total_sized}
use Rattle.rounding.specs.Shares as Shares
use Rattle.glyphs.specs.Apportion.{total}
use Rattle.glyphs.specs.Points.{Ring, vertices, x_at, y_at}
use Rattle.regions.specs.Ring.{Piece, next, outer, holes}
use Rattle.regions.specs.Area.{area_step, area_after, shoelace_area, area_sum, piece_area}
use Rattle.discs.specs.Region.{areas}
use Rattle.format.specs.Exact.{coordinate_sized}
use Rattle.format.specs.Known.{All, RingKnown, PieceKnown}
use Rattle.claims.specs.Within.{vertex_x, vertex_y, outer_known}

next_within : (n i : ℕ) → i < n → next n i < n
unfolding next
next_within n i h = go (ltb (i + 1) n) (ltb→lt (i + 1) n)
  where
    go : (t : Bool) → (T t → i + 1 < n) → cond t (i + 1) 0 < n
    go true f = f tt
    go false f = omega arith

-- ---- a ring
module _ (v : Ring) (k : RingKnown v) where
  x_sized : (i : ℕ) → i < vertices v → Sized (x_at v i) 1024
  x_sized i h = coordinate_sized (vertex_x v k i h)

  y_sized : (i : ℕ) → i < vertices v → Sized (y_at v i) 1024
  y_sized i h = coordinate_sized (vertex_y v k i h)

  step_sized :
      (area ax ay bx by : Float) (a : ℕ) → Sized area a → a ≤ 1073741824 → Sized ax 1024 → Sized ay 1024 → Sized bx 1024 → Sized by 1024
      → Sized (area_step area ax ay bx by) (a + 1048576 + 1048576)
  unfolding area_step
  step_sized area ax ay bx by a s h ax' ay' bx' by' =
      sub_sized (add_sized s (mul_sized ax' by' (lit< tt)) (omega arith)) (mul_sized bx' ay' (lit< tt)) (omega arith)

  after_sized : (i : ℕ) → i ≤ vertices v → Sized (area_after v (vertices v) i) (i * 2097152)
  unfolding area_after
  after_sized zero h = wider (omega arith) zero_sized
  after_sized (suc i) h =
      let n = next_within (vertices v) i h in
      wider (omega arith)
      (step_sized _ _ _ _ _ (i * 2097152) (after_sized i (omega arith)) (omega (arith, k.few)) (x_sized i h) (y_sized i h) (x_sized (next (vertices v) i) n)
      (y_sized (next (vertices v) i) n))

  ring_sized : Sized (shoelace_area v) 536870912
  unfolding shoelace_area
  ring_sized = go (ltb (vertices v) 3)
    where
      half : Sized (area_after v (vertices v) (vertices v) /ᶠ 2ᶠ) (536870912 * 1)
      half = div_sized {a = 536870912} (wider (omega (arith, k.few)) (after_sized (vertices v) (omega arith))) two_sized 1 (rw two_mag (omega arith)) (lit< tt)

      go : (t : Bool) → Sized (cond t 0ᶠ (abs (area_after v (vertices v) (vertices v) /ᶠ 2ᶠ))) 536870912
      go true = wider (omega arith) zero_sized
      go false = record { num = abs_num _ half.num; size = rw (abs_mag (area_after v (vertices v) (vertices v) /ᶠ 2ᶠ)) half.size }

-- ---- a piece
holes_sized :
    (rings : List Ring) → All RingKnown rings → (sum : Float) (a : ℕ) → Sized sum a → a + length rings * 536870912 < 8589934592
    → Sized (area_sum sum rings) (a + length rings * 536870912)
unfolding area_sum
holes_sized [] k sum a s h = wider (omega arith) s
holes_sized (ring ∷ rings) k sum a s h =
    wider (omega arith) (holes_sized rings k.1 (sum +ᶠ shoelace_area ring) (a + 536870912) (add_sized s (ring_sized ring k.0) (omega arith)) (omega arith))

minus_sized : Sized -0ᶠ 0
unfolding of_bits neg mag U
minus_sized = record { num = minus_zero.num; size = lit≤ tt }

sum_sized : (piece : Piece) → PieceKnown piece → Sized (area_sum -0ᶠ (holes piece)) 4294967296
unfolding holes
sum_sized [] k = absurd (omega (arith, k.some))
sum_sized (ring ∷ rings) k = let f : length rings ≤ 8 = omega (
  arith,
  k.few,
) in wider (omega (arith, f)) (holes_sized rings k.rings.1 -0ᶠ 0 minus_sized (omega (arith, f)))

max_sized : (x : Float) (k : ℕ) → Sized x k → Sized (max x 0ᶠ) k
max_sized x k s = elim (max_case x 0ᶠ s.num zero_sized.num) [ inl c ↦ rw c.0 (wider (omega arith) zero_sized) | inr c ↦ rw c.0 s ]

record Area (a : Float) : Type 0 where
  sized : Sized a 4831838208
  weight : Shares.Weight a

area_known : (piece : Piece) → PieceKnown piece → Area (piece_area piece)
unfolding piece_area
area_known piece k =
    let s = sub_sized (ring_sized (outer piece) (outer_known piece k)) (sum_sized piece k) (lit< tt) in
    record { sized = max_sized _ _ s; weight = record { num = max_zero_num _ s.num; nonneg = max_zero_nonneg _ s.num } }

-- ---- the pieces of a zone
pub areas_known : (pieces : List Piece) → All PieceKnown pieces → Weights (areas pieces)
areas_known [] k = none
areas_known (piece ∷ pieces) k = more (area_known piece k.0).weight (areas_known pieces k.1)

areas_sized : (pieces : List Piece) → All PieceKnown pieces → Shares.All 4831838208 (areas pieces)
areas_sized [] k = Shares.none
areas_sized (piece ∷ pieces) k = Shares.more (area_known piece k.0).sized (areas_sized pieces k.1)

pub total_finite : (pieces : List Piece) → All PieceKnown pieces → length pieces ≤ 16 → T (finite (total (areas pieces)))
unfolding total
total_finite pieces k h =
    (total_sized 4831838208 (areas pieces) (areas_sized pieces k) (rw (length-map pieces piece_area) (omega (arith, h)))).num.fine
