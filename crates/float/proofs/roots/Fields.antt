-- The bit pattern of r * 2 ^ k of the smallest values, for an r of 53 digits, or the next power of two: k in the exponent's field, and r added to it.
-- Rests on `Laws/Pattern.antt`.
use Rattle.std.proofs.Common.{◌≡◌, ℕ, suc, ◌+◌, ◌-◌, ◌*◌, ◌/◌, ◌^◌, ◌<◌, ◌≤◌, true, false, sym, ap, ◌∙◌}
use Rattle.std.proofs.Common.{subst, inl, inr, true≢false, le_trans, le_of_eq, lt_of_lt_of_le, mul-le-mul_right, mul_assoc, eq-or-lt_of_le}
use Rattle.std.proofs.Common.{mul-lt-mul_of_pos_right, lt_of_not-le, not-le_of_lt, mul-div_cancel, arith, lit<, lit≤, pow_pos, pow_mono, pow-add}
use native.Mathlib.Nat.{pow-succ'}
use lib.Ieee.{Float, nan, inf, fin, binary64, down, size, units, to_bits}
use lib.Ieee.Digits.{size-lt, size-le}
use lib.Ieee.Fits.{down_pos}
use lib.Ieee.Exact.{HasValue, units_val}
use Rattle.float.specs.Laws.Pattern.{of_units, pattern_units}

-- ---- the pattern of a value by the fraction of 2 ^ 1074 that it equals
pattern_value : (x : Float) (n : ℕ) → HasValue x false n (2 ^ 1074) → to_bits binary64 x ≡ of_units n
pattern_value nan n h = absurd h
pattern_value (inf s) n h = absurd h
pattern_value (fin true m e) n h = absurd (true≢false h.0)
pattern_value (fin false m e) n h = pattern_units m e ∙ ap of_units (ap (λ (x : ℕ). x / down e) h.1 ∙ mul-div_cancel n (down_pos e))

-- ---- how many digits r * 2 ^ k has, and what is kept of them
dropped : (r k : ℕ) → 2 ^ 52 ≤ r → r < 2 ^ 53 → size (r * 2 ^ k) - 53 ≡ k
dropped r k l h =
    let n = r * 2 ^ k in
    let few : size n ≤ 53 + k = size-le n (53 + k) (lt_of_lt_of_le (mul-lt-mul_of_pos_right h (pow_pos k)) (le_of_eq (sym (pow-add 2 53 k)))) in
    let many : 52 + k < size n =
    lt_of_not-le
    (λ (g : size n ≤ 52 + k). not-le_of_lt (lt_of_lt_of_le (size-lt n) (pow_mono g)) (le_trans (le_of_eq (pow-add 2 52 k)) (mul-le-mul_right (2 ^ k) l))) in
    omega arith

plain : (r k : ℕ) → 2 ^ 52 ≤ r → r < 2 ^ 53 → of_units (r * 2 ^ k) ≡ k * 2 ^ 52 + r
unfolding of_units
plain r k l h = ap (λ (j : ℕ). j * 2 ^ 52 + r * 2 ^ k / 2 ^ j) (dropped r k l h) ∙ ap (λ (x : ℕ). k * 2 ^ 52 + x) (mul-div_cancel r (pow_pos k))

-- 2 ^ 53 * 2 ^ k is 2 ^ 52 * 2 ^ (k + 1)
carried : (k : ℕ) → of_units (2 ^ 53 * 2 ^ k) ≡ k * 2 ^ 52 + 2 ^ 53
carried k =
    let moved : 2 ^ 53 * 2 ^ k ≡ 2 ^ 52 * 2 ^ suc k = mul_assoc (2 ^ 52) 2 (2 ^ k) ∙ ap (λ (x : ℕ). 2 ^ 52 * x) (sym (pow-succ' 2 k)) in
    ap of_units moved ∙ plain (2 ^ 52) (suc k) (lit≤ tt) (lit< tt) ∙ omega arith

pub units_pattern : (r k : ℕ) → 2 ^ 52 ≤ r → r ≤ 2 ^ 53 → r * 2 ^ k < 2 ^ 2098 → to_bits binary64 (units binary64 false r k) ≡ k * 2 ^ 52 + r
units_pattern r k l h fine =
    pattern_value (units binary64 false r k) (r * 2 ^ k) (units_val binary64 false r k fine)
    ∙ elim (eq-or-lt_of_le h) [ inl e ↦ subst (λ (x : ℕ). of_units (x * 2 ^ k) ≡ k * 2 ^ 52 + x) (sym e) (carried k) | inr g ↦ plain r k l g ]
