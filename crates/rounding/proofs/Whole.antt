-- Whole numbers: an integer as a float, rounded or exact, a product with one, and floor as a whole number.
-- Rests on `Errors` (53 digits do not change) and float's laws of floor.
use Rattle.std.specs.Prelude.{◌≡◌, refl, Bool, true, false, ℤ, pos, negsuc, nat_abs, Float}
use Rattle.std.proofs.Common.{le_trans, le_of_eq, lt_of_le_of_lt, mul-le-mul_right, arith}
use Prim.Native.Nat.{ℕ, zero, suc, ◌+◌, ◌-◌, ◌*◌, ◌≤◌, ◌<◌}
use Rattle.std.specs.Float.{binary64}
use Rattle.std.specs.Float.Ieee.{of_int}
use Rattle.rounding.specs.Signed.{Exact, signed, same_size, ◌≈◌}
use Rattle.rounding.specs.Value.{U, U_pos, E, sgn, mag, val, digits_whole}
use Rattle.rounding.specs.Rounded.{B}
use Rattle.rounding.specs.Bounds.{Sized}
use Rattle.rounding.specs.Errors.{Rounding, size_bound}
use Rattle.rounding.proofs.Errors.{rounding}
use Rattle.rounding.specs.Whole.{IsWhole, of_int_is, ones}

pub of_int_law : (z : ℤ) → nat_abs z ≤ B → Rounding (of_int binary64 z) (ones z)
of_int_law z h = rounding (of_int binary64 z) (ones z) (of_int_is z) (size_bound (of_int binary64 z) (ones z) (of_int_is z) (room z h))
  where
    room : (z : ℤ) → nat_abs z ≤ B → ((ones z).p - (ones z).n) + ((ones z).n - (ones z).p) ≤ U * B
    room (pos n) h = omega (arith, mul-le-mul_right U h)
    room (negsuc n) h = omega (arith, mul-le-mul_right U h)

-- and exactly z below 2 ^ 53
pub of_int_exact : (z : ℤ) → nat_abs z < E → IsWhole (of_int binary64 z) z
of_int_exact z h = whole z h (of_int_law z (omega arith))
  where
    sign_of : (s t : Bool) (n u : ℕ) → 0 < u → signed s (n * u) ≈ signed t (n * u) → signed s n ≈ signed t n
    sign_of false false n u u0 e = refl
    sign_of true true n u u0 e = refl
    sign_of false true zero u u0 e = refl
    sign_of false true (suc n) u u0 e = absurd (omega (arith, e, u0))
    sign_of true false zero u u0 e = refl
    sign_of true false (suc n) u u0 e = absurd (omega (arith, e, u0))

    at :
        (x : Float) (t : Bool) (n : ℕ) (v : Exact) → v ≈ signed t (n * U) → n < E → Rounding x v
        → (val x ≈ signed t (n * U)) × (mag x ≡ n * U) × (signed (sgn x) n ≈ signed t n)
    at x t n v e h r =
        let d = digits_whole n h in
        let k : val x ≈ signed t (n * U) = omega (arith, e, r.least t (n * U) d (omega (arith, e)), r.most t (n * U) d (omega (arith, e))) in
        let m = same_size (sgn x) t (mag x) (n * U) k in
        (k, m, sign_of (sgn x) t n U U_pos (rw m at k))

    whole : (z : ℤ) → nat_abs z < E → Rounding (of_int binary64 z) (ones z) → IsWhole (of_int binary64 z) z
    whole (pos n) h r =
        let a = at (of_int binary64 (pos n)) false n (ones (pos n)) (omega arith) h r in record { num = r.num; is = omega (arith, a.0); size = a.1; sign = a.2 }
    whole (negsuc n) h r =
        let a =
        at (of_int binary64 (negsuc n)) true (suc n) (ones (negsuc n)) (omega arith) h r in
        record { num = r.num; is = omega (arith, a.0); size = a.1; sign = a.2 }

pub int_sized : (z : ℤ) (k : ℕ) → nat_abs z ≤ k → k < E → Sized (of_int binary64 z) k
int_sized z k h l = let w = of_int_exact z (lt_of_le_of_lt h l) in record { num = w.num; size = le_trans (le_of_eq w.size) (mul-le-mul_right U h) }
