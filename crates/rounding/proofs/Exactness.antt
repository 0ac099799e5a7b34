-- Where nothing is lost: sums and differences of multiples of 2 ^ j units whose counts stay below 2 ^ 53, and products and halves of such.
-- Rests on `Errors`: a result of 53 digits does not change. j is 1,064 for 1 / 1,024 and 1,058 for 1 / 65,536.
use Rattle.std.specs.Prelude.{◌≡◌, Bool, true, false, not, ℕ, ◌+◌, ◌*◌, ◌^◌, ◌≤◌, ◌<◌, ℤ, nat_abs, Float}
use Rattle.std.proofs.Common.{sym, ap, ◌∙◌, inl, inr, le_trans, le_of_eq, le_of_lt, le_antisymm, le_of_mul-le-mul_right}
use Rattle.std.proofs.Common.{lt_of_le_of_lt, add-mul, one-mul, mul_assoc, mul-le-mul, mul-le-mul_right, arith, pow-add, pow_pos, pow_mono}
use Rattle.std.proofs.Math.Nat.{le_dest, mul-mul-mul_comm}
use Rattle.std.specs.Float.{binary64}
use Rattle.std.specs.Float.Ieee.{low, of_int}
use Rattle.float.specs.Ops.{◌+ᶠ◌, ◌-ᶠ◌, ◌*ᶠ◌, ◌/ᶠ◌}
use Rattle.laws.specs.Orders.{lt_or_le}
use Rattle.rounding.specs.Signed.{Exact, signed, same_size, ◌⊕◌, ◌⊖◌, ◌≈◌}
use Rattle.rounding.specs.Value.{U, U-is, U_pos, E, sgn, mag, val, digits_at}
use Rattle.rounding.specs.Rounded.{B}
use Rattle.rounding.specs.Errors.{Rounding}
use Rattle.rounding.proofs.Errors.{add_law, sub_law, mul_law, div_law}
use Rattle.rounding.proofs.Whole.{of_int_exact}
use Rattle.rounding.specs.Exactness.{Multiple, Sum, exact}

-- ---- sums
record Counted (v : Exact) (G k : ℕ) : Type 0 where
  sign : Bool
  count : ℕ
  few : count ≤ k
  is : v ≈ signed sign (count * G)

counted : (s t : Bool) (a b G : ℕ) → Counted (signed s (a * G) ⊕ signed t (b * G)) G (a + b)
counted false false a b G = record { sign = false; count = a + b; few = omega arith; is = omega arith }
counted true true a b G = record { sign = true; count = a + b; few = omega arith; is = omega arith }
counted false true a b G = elim (lt_or_le a b) [
  | inl l ↦ let d = le_dest (le_of_lt l) in record { sign = true; count = d.0; few = omega (arith, d.1); is = omega (arith, ap (λ (z : ℕ). z * G) d.1) }
  | inr l ↦ let d = le_dest l in record { sign = false; count = d.0; few = omega (arith, d.1); is = omega (arith, ap (λ (z : ℕ). z * G) d.1) }
]
counted true false a b G = elim (lt_or_le b a) [
  | inl l ↦ let d = le_dest (le_of_lt l) in record { sign = true; count = d.0; few = omega (arith, d.1); is = omega (arith, ap (λ (z : ℕ). z * G) d.1) }
  | inr l ↦ let d = le_dest l in record { sign = false; count = d.0; few = omega (arith, d.1); is = omega (arith, ap (λ (z : ℕ). z * G) d.1) }
]

exact_sum : (z : Float) (v : Exact) (j k : ℕ) → Rounding z v → Counted v (2 ^ j) k → k < E → Sum z v j k
exact_sum z v j k r c h =
    let e = exact c.sign (c.count * 2 ^ j) r (digits_at c.count j (lt_of_le_of_lt c.few h)) c.is in
    record {
      value = e;
      count = c.count;
      few = c.few;
      multiple = record {
        num = r.num;
        is = same_size
            (sgn z) c.sign (mag z) (c.count * 2 ^ j) (omega (arith, e, c.is));
      };
    }

-- counts below 2 ^ 53 of units up to 1 keep every result finite
room : (k j : ℕ) → k < E → j ≤ low binary64 → k * 2 ^ j ≤ U * B
room k j h l = le_trans (mul-le-mul (le_of_lt h) (le_trans (pow_mono l) (le_of_eq (sym U-is)))) (omega arith)

module _ {x y : Float} {j a b : ℕ} (p : Multiple x j a) (q : Multiple y j b) (h : a + b < E) (l : j ≤ low binary64) where
  total : mag x + mag y ≤ U * B
  total = le_trans (le_of_eq (ap (λ (z : ℕ). z + mag y) p.is ∙ ap (λ (z : ℕ). a * 2 ^ j + z) q.is ∙ sym (add-mul a b (2 ^ j)))) (room (a + b) j h l)

  pub add_exact : Sum (x +ᶠ y) (val x ⊕ val y) j (a + b)
  add_exact =
      exact_sum (x +ᶠ y) (val x ⊕ val y) j (a + b) (add_law x y p.num q.num total)
      (rw (p.is, q.is) (counted (sgn x) (sgn y) a b (2 ^ j))) h

  pub sub_exact : Sum (x -ᶠ y) (val x ⊖ val y) j (a + b)
  sub_exact =
      let r = sub_law x y p.num q.num total in
      let c = counted (sgn x) (not (sgn y)) a b (2 ^ j) in
      exact_sum (x -ᶠ y) (val x ⊖ val y) j (a + b) r
      (record {
        sign = c.sign;
        count = c.count;
        few = c.few;
        is = turned (sgn x)
            (sgn y) (mag x) (mag y) (signed c.sign (c.count * 2 ^ j)) (rw (p.is, q.is) c.is);
      }) h
    where
      turned : (s t : Bool) (m n : ℕ) (w : Exact) → signed s m ⊕ signed (not t) n ≈ w → signed s m ⊖ signed t n ≈ w
      turned s true m n w e = omega (arith, e)
      turned s false m n w e = omega (arith, e)

-- ---- products, and quotients by a power of two
module _ {x y : Float} {i j a b : ℕ} (k : ℕ) (p : Multiple x i a) (q : Multiple y j b) where
  pub mul_exact : a * b < E → i + j ≡ k + low binary64 → k ≤ low binary64 → Multiple (x *ᶠ y) k (a * b)
  mul_exact h e l =
      let g : mag x * mag y ≡ a * b * 2 ^ k * U =
      ap (λ (z : ℕ). z * mag y) p.is ∙ ap (λ (z : ℕ). a * 2 ^ i * z) q.is ∙ mul-mul-mul_comm a (2 ^ i) b (2 ^ j)
      ∙ ap (λ (z : ℕ). a * b * z)
      (sym (pow-add 2 i j) ∙ ap (λ (z : ℕ). 2 ^ z) e ∙ pow-add 2 k (low binary64) ∙ ap (λ (z : ℕ). 2 ^ k * z) (sym U-is))
      ∙ sym (mul_assoc (a * b) (2 ^ k) U) in
      let d = digits_at (a * b) k h in
      let r = mul_law x y p.num q.num (le_trans (le_of_eq g) (le_trans (mul-le-mul_right U (room (a * b) k h l)) (omega arith))) in
      record { num = r.num; is = le_antisymm (r.most (a * b * 2 ^ k) d (le_of_eq g)) (r.least (a * b * 2 ^ k) d (le_of_eq (sym g))) }

  pub div_exact : b ≡ 1 → a < E → i + low binary64 ≡ k + j → k ≤ low binary64 → Multiple (x /ᶠ y) k a
  div_exact one h e l =
      let y' : mag y ≡ 2 ^ j = q.is ∙ ap (λ (z : ℕ). z * 2 ^ j) one ∙ one-mul (2 ^ j) in
      let g : mag x * U ≡ a * 2 ^ k * mag y =
      ap (λ (z : ℕ). z * U) p.is ∙ ap (λ (z : ℕ). a * 2 ^ i * z) U-is ∙ mul_assoc a (2 ^ i) (2 ^ low binary64)
      ∙ ap (λ (z : ℕ). a * z) (sym (pow-add 2 i (low binary64)) ∙ ap (λ (z : ℕ). 2 ^ z) e ∙ pow-add 2 k j) ∙ sym (mul_assoc a (2 ^ k) (2 ^ j))
      ∙ ap (λ (z : ℕ). a * 2 ^ k * z) (sym y') in
      let d = digits_at a k h in
      let r =
      div_law x y p.num q.num (le_trans (pow_pos j) (le_of_eq (sym y')))
      (le_of_mul-le-mul_right {k = U} (le_trans (le_of_eq g) (le_trans (mul-le-mul_right (mag y) (room a k h l)) (omega arith))) U_pos) in
      record { num = r.num; is = le_antisymm (r.most (a * 2 ^ k) d (le_of_eq g)) (r.least (a * 2 ^ k) d (le_of_eq (sym g))) }

-- ---- an integer
pub int_multiple : (z : ℤ) → nat_abs z < E → Multiple (of_int binary64 z) (low binary64) (nat_abs z)
int_multiple z h = let w = of_int_exact z h in record { num = w.num; is = w.size ∙ ap (λ (u : ℕ). nat_abs z * u) U-is }
