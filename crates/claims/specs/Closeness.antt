-- Closeness of signed exact numbers: what a product and a quotient are off by, and how it carries through products and sums.
-- Rests on the rounding laws of one operation.
use Rattle.std.proofs.Common.{ap, le_of_mul-le-mul_right, mul-le-mul_left, mul-le-mul_right, arith}
use Rattle.std.specs.Prelude.{Bool, true, false, ℕ, ◌+◌, ◌*◌, ◌≤◌, ◌<◌, Float}
use Rattle.std.specs.Float.Ieee.{unlike}
use Rattle.rounding.specs.Signed.{Exact, signed, nat, ◌⊕◌, ◌⊗◌, ◌≼◌, ◌≈◌}
use Rattle.rounding.specs.Relative.{Close, close_signed}
use Rattle.rounding.specs.Value.{U, E, H, sgn, mag, val}
use Rattle.rounding.specs.Errors.{Product, Quotient}

-- ---- errors of products and quotients, by signed values
signs_agree : (s t : Bool) (a b : ℕ) → signed (unlike s t) (a * b) ≈ signed s a ⊗ signed t b
signs_agree false false a b = omega arith
signs_agree false true a b = omega arith
signs_agree true false a b = omega arith
signs_agree true true a b = omega arith

sign_scaled : (s : Bool) (a u : ℕ) → signed s (a * u) ≈ signed s a ⊗ nat u
sign_scaled false a u = omega arith
sign_scaled true a u = omega arith

pub close_same : (e : ℕ) (a b a' b' : Exact) → a ≈ a' → b ≈ b' → Close E e a b → Close E e a' b'
close_same e a b a' b' p q c = go E c
  where
    go : (E : ℕ) → Close E e a b → Close E e a' b'
    go E c =
        record {
          above = omega (arith, c.above, ap (λ (z : ℕ). z * E) p, ap (λ (z : ℕ). z * E) q);
          below = omega (arith, c.below, ap (λ (z : ℕ). z * E) p, ap (λ (z : ℕ). z * E) q);
        }

pub product_close : {x y z : Float} → Product x y z → Close E (mag x * mag y + U * H) (val z ⊗ nat U) (val x ⊗ val y)
product_close {x} {y} {z} r =
    let s = sgn z in
    let a = mag x * mag y in
    let c = close_signed E (U * H) (mag z * U) a s r.near in
    close_same (a + U * H) (signed s (mag z * U)) (signed s a) (val z ⊗ nat U) (val x ⊗ val y) (sign_scaled s (mag z) U)
    (rw r.sign (signs_agree (sgn x) (sgn y) (mag x) (mag y))) c

pub quotient_close : {x y z : Float} → Quotient x y z → Close E (mag x * U + mag y * H) (val z ⊗ val y) (val x ⊗ nat U)
quotient_close {x} {y} {z} r =
    let s = sgn x in
    let c = close_signed E (mag y * H) (mag z * mag y) (mag x * U) s r.near in
    close_same (mag x * U + mag y * H) (signed s (mag z * mag y)) (signed s (mag x * U)) (val z ⊗ val y) (val x ⊗ nat U)
    (rw r.sign (twice s (sgn y) (mag z) (mag y))) (sign_scaled s (mag x) U) c
  where
    twice : (s t : Bool) (m n : ℕ) → signed s (m * n) ≈ signed (unlike s t) m ⊗ signed t n
    twice false false m n = omega arith
    twice false true m n = omega arith
    twice true false m n = omega arith
    twice true true m n = omega arith

-- ---- closeness times a signed number of size m, and of a sum
pub scaled_sign : (e f : ℕ) (a b : Exact) (s : Bool) (k m : ℕ) → k ≤ m → Close f e a b → Close f (e * m) (a ⊗ signed s k) (b ⊗ signed s k)
scaled_sign e f a b false k m l c =
    record { above = omega (arith, mul-le-mul_right k c.above, mul-le-mul_left e l); below = omega (arith, mul-le-mul_right k c.below, mul-le-mul_left e l) }
scaled_sign e f a b true k m l c =
    record { above = omega (arith, mul-le-mul_right k c.below, mul-le-mul_left e l); below = omega (arith, mul-le-mul_right k c.above, mul-le-mul_left e l) }

pub sum_close : (f e e' : ℕ) (a b c d : Exact) → Close f e a b → Close f e' c d → Close f (e + e') (a ⊕ c) (b ⊕ d)
sum_close f e e' a b c d p q = record { above = omega (arith, p.above, q.above); below = omega (arith, p.below, q.below) }

-- what is off by e at most
pub near_enough : (f k e : ℕ) (a b : Exact) → 0 < f → k ≤ e * f → Close f k a b → (a ≼ b ⊕ nat e) × (b ≼ a ⊕ nat e)
near_enough f k e a b f0 h c = (le_of_mul-le-mul_right {k = f} (omega (arith, c.above)) f0, le_of_mul-le-mul_right {k = f} (omega (arith, c.below)) f0)
