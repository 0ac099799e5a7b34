-- Whole numbers: an integer as a float, rounded or exact, a product with one, and floor as a whole number.
-- Rests on `Errors` (53 digits do not change) and float's laws of floor.
use Rattle.std.specs.Prelude.{◌≡◌, Bool, true, false, ℤ, pos, negsuc, nat_abs, T, Float}
use Rattle.std.proofs.Common.{sym, ap, ◌∙◌, inl, inr, mul-one, mul-le-mul_right, le_of_mul-le-mul_right}
use Rattle.std.proofs.Common.{lt_of_mul-lt-mul_right, mul-lt-mul_of_pos_right, div-mul-le_self, arith, lit<, pow_pos}
use Prim.Native.Nat.{ℕ, zero, suc, ◌+◌, ◌-◌, ◌*◌, ◌/◌, ◌^◌, ◌≤◌, ◌<◌}
use Rattle.std.proofs.Math.Nat.{eq_of_mul-eq-mul_right, lt-div-mul-add}
use Rattle.std.specs.Float.{nan, inf, fin, binary64}
use Rattle.std.specs.Float.Ieee.{up, down, round, of_int, fits}
use Rattle.std.specs.Float.Ieee.Fits.{down_pos}
use Rattle.std.specs.Float.Ieee.Exact.{HasValue}
use Rattle.std.specs.Float.Ieee.Scale.{round_same}
use Rattle.laws.specs.Orders.{lt_or_le}
use Rattle.float.specs.Whole.{floor}
use Rattle.float.specs.Laws.Whole.{under, over, Large, floor_large, floor_above, floor_below, floor_fits}
use Rattle.rounding.specs.Signed.{Exact, signed, nat, ◌⊕◌, ◌⊗◌, ◌≈◌, ◌≼◌, ◌≺◌}
use Rattle.rounding.specs.Integers.{int}
use Rattle.rounding.specs.Relative.{Near, cancel}
use Rattle.rounding.specs.Value.{U, U_pos, E, H, sgn, mag, val, Num, significand, own, value_mag, fine_of, sgn_of}
use Rattle.rounding.specs.Operations.{IsRound}
use Rattle.rounding.specs.Errors.{Product}

-- z whole ones, in units
abbrev pub ones : ℤ → Exact
ones z = int z ⊗ nat U

int_is : (s : Bool) (n : ℕ) (v : Exact) → v ≈ signed s (n * U) → IsRound (round binary64 s n 1) v
int_is s n v h = record { sign = s; size = n * U; is = round_same binary64 s n 1 (n * U) U (lit< tt) U_pos (sym (mul-one (n * U))); value = h }

-- `z as f64` is z, rounded
pub of_int_is : (z : ℤ) → IsRound (of_int binary64 z) (ones z)
unfolding of_int
of_int_is (pos n) = int_is false n (ones (pos n)) (omega arith)
of_int_is (negsuc n) = int_is true (suc n) (ones (negsuc n)) (omega arith)

-- x is the whole number z
pub record IsWhole (x : Float) (z : ℤ) : Type 0 where
  pub num : Num x
  pub is : val x ≈ ones z
  pub size : mag x ≡ nat_abs z * U
  pub sign : signed (sgn x) (nat_abs z) ≈ int z

-- a whole number times y
pub whole_product : (x y z : Float) (i : ℤ) → IsWhole x i → Product x y z → Near E 1 H (mag z) (nat_abs i * mag y)
whole_product x y z i w r = go (rw w.size at r.near)
  where
    go : Near E 1 (U * H) (mag z * U) (nat_abs i * U * mag y) → Near E 1 H (mag z) (nat_abs i * mag y)
    go n = cancel E 1 H (mag z) (nat_abs i * mag y) U U_pos (record { above = omega (arith, n.above); below = omega (arith, n.below) })

-- ---- floor. M is the size in units of a / d, which is cut, or rounded up
below_part : (a d M u : ℕ) → 0 < d → 0 < u → a * u ≡ M * d → (a / d * u ≤ M) × (M < a / d * u + u)
below_part a d M u d0 u0 e = (
  le_of_mul-le-mul_right (omega (arith, mul-le-mul_right u (div-mul-le_self a d))) d0,
  lt_of_mul-lt-mul_right d (omega (arith, e, mul-lt-mul_of_pos_right (lt-div-mul-add {a = a} d0) u0)),
)

above_part : (a d M u : ℕ) → 0 < d → 0 < u → a * u ≡ M * d → (M ≤ (a + d - 1) / d * u) × ((a + d - 1) / d * u < M + u)
above_part a d M u d0 u0 e =
    let b = a + d - 1 in
    let l : a ≤ b / d * d = omega (arith, lt-div-mul-add {a = b} d0) in
    let h : b / d * d < a + d = omega (arith, div-mul-le_self b d) in (
      le_of_mul-le-mul_right (omega (arith, e, mul-le-mul_right u l)) d0,
      lt_of_mul-lt-mul_right d (omega (arith, e, mul-lt-mul_of_pos_right h u0)),
    )

-- y is x cut down to n whole ones
pub record Floored (x y : Float) : Type 0 where
  pub num : Num y
  pub n : ℕ
  pub size : mag y ≡ n * U
  pub low : val y ≼ val x
  pub high : val x ≺ val y ⊕ nat U

-- by the value of y
floored :
    (x y : Float) (s : Bool) (n : ℕ) → T (fits binary64 y) → HasValue y s n 1
    → (val y ≡ signed s (n * U) → (val y ≼ val x) × (val x ≺ val y ⊕ nat U)) → Floored x y
floored x y s n f v h =
    let p : Num y = record { fit = f; fine = fine_of y s n 1 v } in
    let m : mag y ≡ n * U = sym (mul-one (mag y)) ∙ value_mag y s n 1 p v in
    let b = h (ap (λ (t : Bool). signed t (mag y)) (sgn_of y s n 1 v) ∙ ap (λ (z : ℕ). signed s z) m) in
    record { num = p; n = n; size = m; low = b.0; high = b.1 }

-- what is whole is its own floor
whole_floored : (x : Float) (n : ℕ) → Num x → mag x ≡ n * U → Floored x x
whole_floored x n p e = record { num = p; n = n; size = e; low = omega arith; high = omega (arith, U_pos) }

large : (s : Bool) (m : ℕ) (e : ℤ) → Num (fin s (suc m) e) → Large (suc m) e → Floored (fin s (suc m) e) (floor (fin s (suc m) e))
large s m (pos k) p h =
    let x = fin s (suc m) (pos k) in
    rw (floor_large s m (pos k) p.fit h) (whole_floored x (suc m * 2 ^ k) p (sym (mul-one (mag x)) ∙ sym (own x p).1))
large s m (negsuc k) p h = absurd (omega (arith, h, significand s (suc m) (negsuc k) p.fit, pow_pos (suc k)))

none : (s : Bool) (e : ℤ) → Num (fin s zero e) → mag (fin s zero e) ≡ 0 * U
none s e p =
    let x = fin s zero e in
    eq_of_mul-eq-mul_right (down e) (down_pos e) (mag x) (0 * U) (sym (own x p).1 ∙ zeros (up e) U (down e))
  where
    zeros : (a b d : ℕ) → 0 * a * b ≡ 0 * b * d
    zeros a b d = omega arith

pub floor_law : (x : Float) → Num x → Floored x (floor x)
unfolding sgn under over
floor_law nan p = absurd p.fine
floor_law (inf s) p = absurd p.fine
floor_law (fin s zero e) p = unfold floor in whole_floored (fin s zero e) 0 p (none s e p)
floor_law (fin false (suc m) e) p =
    let x = fin false (suc m) e in
    let b = below_part (suc m * up e) (down e) (mag x) U (down_pos e) U_pos (own x p).1 in
    elim (lt_or_le (suc m * up e) (2 ^ 53 * down e)) [
      | inl l ↦ floored x (floor x) false (under (suc m) e) (floor_fits x p.fit) (floor_above m e l) (λ v. rw v (omega (arith, b)))
      | inr l ↦ large false m e p l
    ]
floor_law (fin true (suc m) e) p =
    let x = fin true (suc m) e in
    let b = above_part (suc m * up e) (down e) (mag x) U (down_pos e) U_pos (own x p).1 in
    elim (lt_or_le (suc m * up e) (2 ^ 53 * down e)) [
      | inl l ↦ floored x (floor x) true (over (suc m) e) (floor_fits x p.fit) (floor_below m e l) (λ v. rw v (omega (arith, b)))
      | inr l ↦ large true m e p l
    ]
