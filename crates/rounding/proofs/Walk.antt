-- The cells that a lattice walk visits, from floor((min - offset - anchor) / s) to ceil((max - offset - anchor) / s) and so
-- along, are within the reach that `Lattice` asks for.
-- Rests on `Casts`. A box's sides are 1,024 at most, a step 36,864 (a spacing is 34,816) and the anchor 65,536, so no number saturates.
use Rattle.std.proofs.Common.{sym, le_of_eq, le_trans, le_of_mul-le-mul_right, mul-le-mul_right, mul-le-mul_left, mul-pos, arith, lit<}
use Rattle.std.specs.Prelude.{Bool, true, false, ℕ, ◌+◌, ◌*◌, ◌≤◌, ◌<◌, ℤ, pos, negsuc, nat_abs, T, Float}
use Rattle.std.proofs.Math.Dec.{lit≤}
use Rattle.std.specs.Int.Signed.{le_z}
use Rattle.float.specs.Ops.{◌-ᶠ◌, ◌/ᶠ◌}
use Rattle.float.specs.Whole.{floor, ceil, as_i64}
use Rattle.rounding.specs.Signed.{signed, nat, ◌⊕◌, ◌≼◌, ◌≺◌}
use Rattle.rounding.specs.Relative.{Under}
use Rattle.rounding.specs.Value.{U, U_pos, H, sgn, mag}
use Rattle.rounding.proofs.Errors.{div_of_finite}
use Rattle.rounding.specs.Bounds.{Sized, wider}
use Rattle.rounding.proofs.Bounds.{sub_sized, div_sized, div_sized_by}
use Rattle.rounding.specs.Signs.{zero_sized}
use Rattle.rounding.specs.Integers.{int, int_le}
use Rattle.rounding.specs.Whole.{ones}
use Rattle.rounding.specs.Casts.{floor_i64, ceil_i64}
use Rattle.rounding.specs.Row.{Step, step_above, two_sized, two_mag}
use Rattle.rounding.specs.Steps.{Reach, offset}

-- ---- numbers only: n whole numbers are within 1 of q, q is a / h rounded; k stands for H
far :
    (k u n q a h : ℕ) → 0 < u → 0 < k → n * u ≤ q + u → Under (k * 2) 1 (h * k) (q * h) (a * u) → a ≤ 90112 * u → h ≤ 36864 * u
    → 1048576 ≤ u → 1048576 ≤ k → n * h ≤ 131072 * u
far k u n q a h u0 k0 p w A B U0 K0 =
    le_of_mul-le-mul_right {k = u * (k * 2)}
    (omega (
      arith,
      w,
      mul-le-mul_right (h * (k * 2)) p,
      mul-le-mul_right (u * (k * 2 + 1)) A,
      mul-le-mul_right k B,
      mul-le-mul_right (u * (k * 2)) B,
      mul-le-mul_left (u * u) K0,
      mul-le-mul_left (u * k) U0,
    ))
    (mul-pos u0 (mul-pos k0 (lit< {n = 2} tt)))

-- the size of a whole number near x
floor_size : (z : ℤ) (s : Bool) (m : ℕ) → ones z ≼ signed s m → signed s m ≺ ones z ⊕ nat U → nat_abs z * U ≤ m + U
floor_size (pos n) false m p q = omega (arith, p)
floor_size (pos n) true m p q = omega (arith, p)
floor_size (negsuc n) false m p q = omega (arith, q)
floor_size (negsuc n) true m p q = omega (arith, q)

ceil_size : (z : ℤ) (s : Bool) (m : ℕ) → signed s m ≼ ones z → ones z ≺ signed s m ⊕ nat U → nat_abs z * U ≤ m + U
ceil_size (pos n) false m p q = omega (arith, q)
ceil_size (pos n) true m p q = omega (arith, q)
ceil_size (negsuc n) false m p q = omega (arith, p)
ceil_size (negsuc n) true m p q = omega (arith, p)

-- what lies between two numbers within reach
between_reach : (lo i hi : ℤ) (h : Float) → int lo ≼ int i → int i ≼ int hi → Reach lo h → Reach hi h → Reach i h
between_reach lo (pos n) (pos m) h p q r r' = le_trans (mul-le-mul_right (mag h) (omega (arith, q))) r'
between_reach lo (pos n) (negsuc m) h p q r r' = absurd (omega (arith, q))
between_reach (pos m) (negsuc n) hi h p q r r' = absurd (omega (arith, p))
between_reach (negsuc m) (negsuc n) hi h p q r r' = le_trans (mul-le-mul_right (mag h) (omega (arith, p))) r

-- ---- the floats: from floor(a / h) to ceil(b / h)
module _ (h : Float) (st : Step h) (B : mag h ≤ 36864 * U) where
  quotient : (a : Float) → Sized a 90112 → Sized (a /ᶠ h) 377957122048
  quotient a A = div_sized A st.sized 4194304 st.least (lit< tt)

  reaches : (a : Float) → Sized a 90112 → (z : ℤ) → nat_abs z * U ≤ mag (a /ᶠ h) + U → Reach z h
  reaches a A z l =
      let w = div_of_finite a h A.num st.sized.num (step_above st) (quotient a A).num.fine in
      far H U (nat_abs z) (mag (a /ᶠ h)) (mag a) (mag h) U_pos (lit< tt) l w.near.above A.size B (unfold U in lit≤ tt) (lit≤ tt)

  pub walk_reach :
      (a b : Float) → Sized a 90112 → Sized b 90112 → (i : ℤ) → T (le_z (as_i64 (floor (a /ᶠ h))) i) → T (le_z i (as_i64 (ceil (b /ᶠ h))))
      → Reach i h
  walk_reach a b A C i p q =
      let lo = as_i64 (floor (a /ᶠ h)) in
      let hi = as_i64 (ceil (b /ᶠ h)) in
      let f = floor_i64 (a /ᶠ h) 377957122048 (quotient a A).num (quotient a A).size (lit< tt) in
      let c = ceil_i64 (b /ᶠ h) 377957122048 (quotient b C).num (quotient b C).size (lit< tt) in
      between_reach lo i hi h (int_le lo i p) (int_le i hi q)
      (reaches a A lo (floor_size lo (sgn (a /ᶠ h)) (mag (a /ᶠ h)) f.low f.high))
      (reaches b C hi (ceil_size hi (sgn (b /ᶠ h)) (mag (b /ᶠ h)) c.high c.low))

  -- rows: j from floor((lo - anchor) / h) to ceil((hi - anchor) / h)
  pub along_walk : (anchor lo hi : Float) → Sized anchor 65536 → Sized lo 1024 → Sized hi 1024
      → (j : ℤ) → T (le_z (as_i64 (floor ((lo -ᶠ anchor) /ᶠ h))) j) → T (le_z j (as_i64 (ceil ((hi -ᶠ anchor) /ᶠ h)))) → Reach j h
  along_walk anchor lo hi A L G =
      walk_reach (lo -ᶠ anchor) (hi -ᶠ anchor) (wider (lit≤ tt) (sub_sized L A (lit< tt))) (wider (lit≤ tt) (sub_sized G A (lit< tt)))

  -- cells of a row: i from floor((lo - offset - anchor) / s) to ceil((hi - offset - anchor) / s)
  pub across_walk : (odd : Bool) (anchor lo hi : Float) → Sized anchor 65536 → Sized lo 1024 → Sized hi 1024
      → (i : ℤ) → T (le_z (as_i64 (floor ((lo -ᶠ offset odd h -ᶠ anchor) /ᶠ h))) i)
      → T (le_z i (as_i64 (ceil ((hi -ᶠ offset odd h -ᶠ anchor) /ᶠ h)))) → Reach i h
  across_walk odd anchor lo hi A L G =
      walk_reach (lo -ᶠ offset odd h -ᶠ anchor) (hi -ᶠ offset odd h -ᶠ anchor)
      (wider (lit≤ tt) (sub_sized (sub_sized L (shifted odd) (lit< tt)) A (lit< tt)))
      (wider (lit≤ tt) (sub_sized (sub_sized G (shifted odd) (lit< tt)) A (lit< tt)))
    where
      shifted : (odd : Bool) → Sized (offset odd h) 18432
      shifted true = div_sized_by 18432 2 (record { num = st.sized.num; size = B }) two_sized (lit< tt) (le_of_eq (sym two_mag)) (lit< tt)
      shifted false = wider (lit≤ tt) zero_sized
