-- Bit patterns: the sign stands in front of the pattern of the value without its sign, and a number's pattern is at most the infinity's.
-- Rests on the kit's account of patterns.
use Rattle.std.specs.Prelude.{◌≡◌, ℕ, zero, suc, ◌+◌, ◌-◌, ◌*◌, ◌/◌, ◌%◌, ◌^◌, ◌<◌, ◌≤◌, Bool}
use Rattle.std.specs.Prelude.{true, false, cond, not, ◌&&◌, T, ℤ, ◌==◌, from_bits, nat_le, nat_lt, refl, Float}
use Rattle.std.proofs.Common.{sym, ap, ◌∙◌, subst, inl, inr, le_trans, le_of_eq, lt_of_lt_of_le, lt_of_le_of_lt}
use Rattle.std.proofs.Common.{not-le_of_lt, eq-or-lt_of_le, mul-pos, mul_right_comm, zero-mul, mul-le-mul_right}
use Rattle.std.proofs.Common.{mul-lt-mul_of_pos_right, div-lt_iff_lt-mul, le-div_iff_mul-le, arith, ltb→lt, pow-add, pow_pos}
use Rattle.std.proofs.Math.Nat.{le_refl, le_of_lt}
use Rattle.std.proofs.Math.Dec.{not_T}
use Rattle.std.proofs.Math.Pow.{shr_mono}
use Rattle.std.specs.Float.{nan, inf, fin, binary64}
use Rattle.std.specs.Float.Ieee.{up, down, size, fits, is_nan, lt, le, nan_bits, to_bits}
use Rattle.std.specs.Float.Ieee.Bits.{nan_bits_above, of_bits-to_bits}
use Rattle.std.specs.Float.Ieee.Digits.{size-lt, size-le, size_reaches}
use Rattle.std.specs.Float.Ieee.Fits.{down_pos, and_r, kept-lt}
use Rattle.std.specs.Float.Ieee.Nearest.{div_mono}
use Rattle.float.specs.Order.{abs}
use Rattle.float.specs.Laws.Nan.{Number, lt_number}
use Rattle.float.specs.Laws.Compare.{le_says, lt_le, lt_not_le, le_self}
use Rattle.float.specs.Laws.Zero.{Plain}

-- a number whose pattern is that of a normal one above zero
abbrev pub Normal : Float → Type 0
Normal x = Number x × (2 ^ 52 ≤ to_bits binary64 x) × (to_bits binary64 x < 0x7ff0_0000_0000_0000)

-- ---- a finite value's pattern is below the infinity's
bound : (m : ℕ) (e : ℤ) → T (fits binary64 (fin false m e)) → m * up e < 2 ^ 1024 * down e
unfolding fits
bound zero e t = lt_of_le_of_lt (le_of_eq (zero-mul (up e))) (mul-pos (pow_pos 1024) (down_pos e))
bound (suc m) e t =
    ltb→lt (suc m * up e) (2 ^ 1024 * down e)
    (and_r (suc m % 2 == 1 && nat_lt (suc m) (2 ^ 53) && nat_le (down e) (2 ^ 1074)) (nat_lt (suc m * up e) (2 ^ 1024 * down e)) t)

in_units : (m : ℕ) (e : ℤ) → T (fits binary64 (fin false m e)) → m * up e * 2 ^ 1074 / down e < 2 ^ 2098
in_units m e t =
    (div-lt_iff_lt-mul (down_pos e)).1
    (lt_of_lt_of_le (mul-lt-mul_of_pos_right (bound m e t) (pow_pos 1074)) (le_of_eq (mul_right_comm (2 ^ 1024) (down e) (2 ^ 1074))))

pub finite_pattern : (m : ℕ) (e : ℤ) → T (fits binary64 (fin false m e)) → to_bits binary64 (fin false m e) < 0x7ff0_0000_0000_0000
unfolding to_bits
finite_pattern m e t =
    let n = m * up e * 2 ^ 1074 / down e in
    let s : size n ≤ 2098 = size-le n 2098 (in_units m e t) in
    let k : n / 2 ^ (size n - 53) < 2 ^ 53 = kept-lt 53 n in
    omega arith

-- ---- the sign
abbrev pub negative : Float → Bool
negative nan = false
negative (inf s) = s
negative (fin s m e) = s

pub abs_fits : (x : Float) → T (fits binary64 x) → T (fits binary64 (abs x))
unfolding abs fits
abs_fits nan h = h
abs_fits (inf s) h = h
abs_fits (fin s zero e) h = h
abs_fits (fin s (suc m) e) h = h

pub pattern_sign : (x : Float) → to_bits binary64 x ≡ cond (negative x) (2 ^ 63) 0 + to_bits binary64 (abs x)
unfolding abs to_bits
pattern_sign nan = refl
pattern_sign (inf true) = refl
pattern_sign (inf false) = refl
pattern_sign (fin true m e) =
    let n = m * up e * 2 ^ 1074 / down e in
    let k = size n - 53 in
    omega arith
pattern_sign (fin false m e) =
    let n = m * up e * 2 ^ 1074 / down e in
    let k = size n - 53 in
    omega arith

pub pattern_most : (x : Float) → T (fits binary64 x) → Number x → to_bits binary64 (abs x) ≤ 0x7ff0_0000_0000_0000
unfolding is_nan abs
pattern_most nan h n = absurd n
pattern_most (inf s) h n = unfold to_bits in le_refl 0x7ff0_0000_0000_0000
pattern_most (fin s m e) h n = le_of_lt (finite_pattern m e (abs_fits (fin s m e) h))

-- the pattern without its sign
pub abs_pattern : (x : Float) → T (fits binary64 x) → Number x → to_bits binary64 x % 2 ^ 63 ≡ to_bits binary64 (abs x)
abs_pattern x h n = rw (pattern_sign x) (cleared (negative x) (to_bits binary64 (abs x)) (pattern_most x h n))
  where
    cleared : (s : Bool) (t : ℕ) → t ≤ 0x7ff0_0000_0000_0000 → (cond s (2 ^ 63) 0 + t) % 2 ^ 63 ≡ t
    cleared true t h = omega arith
    cleared false t h = omega arith

-- it is no NaN's
pub no_nan : (n : ℕ) → n % 2 ^ 63 ≤ 0x7ff0_0000_0000_0000 → T (not (nan_bits binary64 n))
no_nan n h =
    not_T (nan_bits binary64 n)
    (λ (t : T (nan_bits binary64 n)). not-le_of_lt (ltb→lt (2047 * 2 ^ 52) (n % 2 ^ 63) (subst T (nan_bits_above binary64 n) t)) h)

pub own_pattern : (x : Float) → T (fits binary64 x) → Number x → T (not (nan_bits binary64 (to_bits binary64 x)))
own_pattern x h n = no_nan (to_bits binary64 x) (rw (abs_pattern x h n) (pattern_most x h n))

pub pattern_number : (x : Float) → T (fits binary64 x) → Number x → T (not (nan_bits binary64 (to_bits binary64 x % 2 ^ 63)))
pattern_number x h n = rw (abs_pattern x h n) (no_nan (to_bits binary64 (abs x)) (omega (arith, pattern_most x h n)))

-- ---- patterns are ordered as the sizes are
-- the pattern of n of the smallest value, 2 ^ -1074
unfoldable pub of_units : ℕ → ℕ
of_units n = (size n - 53) * 2 ^ 52 + n / 2 ^ (size n - 53)

pub pattern_units : (m : ℕ) (e : ℤ) → to_bits binary64 (fin false m e) ≡ of_units (m * up e * 2 ^ 1074 / down e)
unfolding to_bits of_units
pattern_units m e =
    let n = m * up e * 2 ^ 1074 / down e in
    let k = size n - 53 in
    omega arith

-- either both drop as many digits, or the longer has a field that is larger by one at least
of_units_mono : (n n' : ℕ) → n ≤ n' → of_units n ≤ of_units n'
unfolding of_units
of_units_mono n n' h =
    let j = size n - 53 in
    let k = size n' - 53 in
    let longer : size n ≤ size n' = size-le n (size n') (lt_of_le_of_lt h (size-lt n')) in
    let fewer : j ≤ k = omega arith in
    elim (eq-or-lt_of_le fewer) [
      | inl e ↦ rw e (omega (arith, shr_mono k h))
      | inr l ↦
          let used : 52 + k < size n' = omega arith in
          let least : 2 ^ 52 ≤ n' / 2 ^ k = (le-div_iff_mul-le (pow_pos k)).1 (le_trans (le_of_eq (sym (pow-add 2 52 k))) (size_reaches n' (52 + k) used)) in
          omega (arith, kept-lt 53 n)
    ]

finite_le :
    (m : ℕ) (e : ℤ) (n : ℕ) (d : ℤ) → m * up e * down d ≤ n * up d * down e
    → to_bits binary64 (fin false m e) ≤ to_bits binary64 (fin false n d)
finite_le m e n d h =
    rw (pattern_units m e, pattern_units n d)
    (of_units_mono (m * up e * 2 ^ 1074 / down e) (n * up d * 2 ^ 1074 / down d)
    (div_mono (m * up e * 2 ^ 1074) (down e) (n * up d * 2 ^ 1074) (down d) (down_pos e)
    (down_pos d) (scaled (m * up e) (n * up d) (down e) (down d) (2 ^ 1074) h)))
  where
    scaled : (a b c d l : ℕ) → a * d ≤ b * c → a * l * d ≤ b * l * c
    scaled a b c d l h = omega (arith, mul-le-mul_right l h)

pub plain_le : (x y : Float) → T (fits binary64 x) → Plain x → Plain y → T (le x y) → to_bits binary64 x ≤ to_bits binary64 y
unfolding le
plain_le nan y t p q h = absurd p
plain_le (inf true) y t p q h = absurd p
plain_le (inf false) nan t p q h = absurd q
plain_le (inf false) (inf true) t p q h = absurd q
plain_le (inf false) (inf false) t p q h = le_refl (to_bits binary64 (inf false))
plain_le (inf false) (fin u n d) t p q h = absurd h
plain_le (fin true m e) y t p q h = absurd p
plain_le (fin false m e) nan t p q h = absurd q
plain_le (fin false m e) (inf true) t p q h = absurd q
plain_le (fin false m e) (inf false) t p q h = unfold to_bits in le_of_lt (finite_pattern m e t)
plain_le (fin false m e) (fin true n d) t p q h = absurd q
plain_le (fin false m e) (fin false n d) t p q h = finite_le m e n d (omega (arith, le_says false false (m * up e * down d) (n * up d * down e) h))

pub same_pattern : (x y : Float) → T (fits binary64 x) → T (fits binary64 y) → to_bits binary64 x ≡ to_bits binary64 y → x ≡ y
same_pattern x y p q h = sym (of_bits-to_bits binary64 x p) ∙ ap (from_bits binary64) h ∙ of_bits-to_bits binary64 y q

pub plain_lt : (x y : Float) → T (fits binary64 x) → T (fits binary64 y) → Plain x → Plain y → T (lt x y) → to_bits binary64 x < to_bits binary64 y
plain_lt x y t u p q h =
    elim (eq-or-lt_of_le (plain_le x y t p q (lt_le x y h))) [
      | inl e ↦ absurd (lt_not_le x y h (subst (λ (z : Float). T (le z x)) (same_pattern x y t u e) (le_self x (lt_number x y h).0)))
      | inr l ↦ l
    ]
