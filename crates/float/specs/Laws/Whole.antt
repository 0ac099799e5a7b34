-- The values of `floor` and `ceil`: a size below 2 ^ 53 is cut to a whole number that the format holds, and from there on
-- every value is whole. And what the casts to integers make of them.
-- Rests on the kit's account of whole numbers.
use Rattle.std.specs.Prelude.{◌≡◌, ℕ, zero, suc, ◌+◌, ◌-◌, ◌*◌, ◌/◌, ◌%◌, ◌^◌, ◌<◌, ◌≤◌, min, Bool, true}
use Rattle.std.specs.Prelude.{false, cond, not, ◌&&◌, T, ltb, ℤ, pos, negsuc, neg_ℤ, nat_eq, nat_le, nat_lt, refl, Float}
use Rattle.std.proofs.Common.{sym, ap, ◌∙◌, le_of_eq, le_of_lt, lt_of_le_of_lt, mul_assoc, mul-one, mul-div_cancel}
use Rattle.std.proofs.Common.{mul-lt-mul_of_pos_right, div-one, div-lt_iff_lt-mul, div-mul-le_self, zero-lt-suc, arith}
use Rattle.std.proofs.Common.{ltb→lt, nltb→le, T_not, pow-add, pow_pos, ltb-true, ltb-false}
use Rattle.std.proofs.Math.Nat.{div-eq_of_lt-le, lt-div-mul-add}
use Rattle.std.specs.Float.{nan, inf, fin, binary64}
use Rattle.std.specs.Float.Ieee.{up, down, fits, neg, round, lt, to_signed, to_unsigned}
use Rattle.std.specs.Float.Ieee.Fits.{down_pos, and_l, and_r, round-fits, neg-fits}
use Rattle.std.specs.Float.Ieee.Exact.{HasValue, round_exact}
use Rattle.std.specs.Float.Ieee.Back.{round_whole, whole_unique}
use mir.Val.{bool_byte}
use Rattle.float.specs.Whole.{floor, ceil, as_i64, as_usize}
use Rattle.float.specs.Laws.Zero.{origin, negative_below, positive_above}

-- ---- the size of m * 2 ^ e as a fraction, cut and rounded up
unfoldable pub under : ℕ → ℤ → ℕ
under m e = m * up e / down e

unfoldable pub over : ℕ → ℤ → ℕ
over m e = (m * up e + down e - 1) / down e

abbrev pub Small : ℕ → ℤ → Type 0
Small m e = m * up e < 2 ^ 53 * down e

abbrev pub Large : ℕ → ℤ → Type 0
Large m e = 2 ^ 53 * down e ≤ m * up e

up_by : (a d : ℕ) → 0 < d → a / d + bool_byte (nat_lt (a / d * d) a) ≡ (a + d - 1) / d
up_by a d D = go (a / d) (nat_lt (a / d * d) a) (ltb-true (a / d * d) a) (ltb-false (a / d * d) a) (div-mul-le_self a d) (lt-div-mul-add D)
  where
    go :
        (q : ℕ) (b : Bool) → (b ≡ true → q * d < a) → (b ≡ false → a ≤ q * d) → q * d ≤ a → a < q * d + d
        → q + bool_byte b ≡ (a + d - 1) / d
    go q true y n l h = let k = y refl in sym (div-eq_of_lt-le d (omega arith) (omega arith))
    go q false y n l h = let k = n refl in sym (div-eq_of_lt-le d (omega arith) (omega arith))

pub over_is : (m : ℕ) (e : ℤ) → under m e + bool_byte (nat_lt (under m e * down e) (m * up e)) ≡ over m e
unfolding under over
over_is m e = up_by (m * up e) (down e) (down_pos e)

pub under_lt : (m : ℕ) (e : ℤ) → Small m e → under m e < 2 ^ 53
unfolding under
under_lt m e h = (div-lt_iff_lt-mul (down_pos e)).1 h

pub over_le : (m : ℕ) (e : ℤ) → Small m e → over m e ≤ 2 ^ 53
over_le m e h = rw (← over_is m e) (most (nat_lt (under m e * down e) (m * up e)))
  where
    most : (b : Bool) → under m e + bool_byte b ≤ 2 ^ 53
    most true = omega (arith, under_lt m e h)
    most false = omega (arith, under_lt m e h)

-- ---- a value that is large is whole
digits_lt : (s : Bool) (m : ℕ) (e : ℤ) → T (fits binary64 (fin s (suc m) e)) → (suc m < 2 ^ 53) × (suc m * up e < 2 ^ 1024 * down e)
unfolding fits
digits_lt s m e t =
    let a = nat_eq (suc m % 2) 1 in
    let b = ltb (suc m) (2 ^ 53) in
    let c = nat_le (down e) (2 ^ 1074) in (
      ltb→lt (suc m) (2 ^ 53) (and_r a b (and_l (a && b) c (and_l (a && b && c) (nat_lt (suc m * up e) (2 ^ 1024 * down e)) t))),
      ltb→lt (suc m * up e) (2 ^ 1024 * down e) (and_r (a && b && c) (nat_lt (suc m * up e) (2 ^ 1024 * down e)) t),
    )

round_own : (s : Bool) (m k : ℕ) → T (fits binary64 (fin s (suc m) (pos k))) → round binary64 s (suc m * 2 ^ k) 1 ≡ fin s (suc m) (pos k)
round_own s m k t =
    let n = suc m * 2 ^ k in
    let d = digits_lt s m (pos k) t in
    let e : n * 2 ^ 1074 ≡ suc m * 2 ^ (k + 1074) = mul_assoc (suc m) (2 ^ k) (2 ^ 1074) ∙ ap (λ (x : ℕ). suc m * x) (sym (pow-add 2 k 1074)) in
    let top : suc m * 2 ^ (k + 1074) < 2 ^ 2098 = lt_of_le_of_lt (le_of_eq (sym e)) (mul-lt-mul_of_pos_right d.1 (pow_pos 1074)) in
    whole_unique binary64 (round binary64 s n 1) (fin s (suc m) (pos k)) s n (round-fits binary64 s n 1) t
    (round_exact binary64 s n 1 (suc m) (k + 1074) (zero-lt-suc 0) d.0 top (e ∙ sym (mul-one (suc m * 2 ^ (k + 1074))))) (refl, refl)

pub floor_large : (s : Bool) (m : ℕ) (e : ℤ) → T (fits binary64 (fin s (suc m) e)) → Large (suc m) e → floor (fin s (suc m) e) ≡ fin s (suc m) e
unfolding floor
floor_large false m (pos k) t h = ap (λ (n : ℕ). round binary64 false n 1) (div-one (suc m * 2 ^ k)) ∙ round_own false m k t
floor_large true m (pos k) t h = ap (λ (n : ℕ). round binary64 true n 1) (omega arith) ∙ round_own true m k t
floor_large s m (negsuc k) t h = absurd (omega (arith, (digits_lt s m (negsuc k) t).0, pow_pos (suc k)))

-- ---- the values below 2 ^ 53
pub floor_above : (m : ℕ) (e : ℤ) → Small (suc m) e → HasValue (floor (fin false (suc m) e)) false (under (suc m) e) 1
unfolding floor under
floor_above m e h = round_whole binary64 false (under (suc m) e) (le_of_lt (under_lt (suc m) e h))

pub floor_below : (m : ℕ) (e : ℤ) → Small (suc m) e → HasValue (floor (fin true (suc m) e)) true (over (suc m) e) 1
unfolding floor over
floor_below m e h = round_whole binary64 true (over (suc m) e) (over_le (suc m) e h)

pub neg_value : (x : Float) (s : Bool) (a c : ℕ) → HasValue x s a c → HasValue (neg x) (not s) a c
unfolding neg
neg_value nan s a c h = h
neg_value (inf t) s a c h = h
neg_value (fin t m e) s a c h = (ap not h.0, h.1)

pub ceil_above : (m : ℕ) (e : ℤ) → Small (suc m) e → HasValue (ceil (fin false (suc m) e)) false (over (suc m) e) 1
unfolding ceil neg
ceil_above m e h = neg_value (floor (fin true (suc m) e)) true (over (suc m) e) 1 (floor_below m e h)

pub ceil_below : (m : ℕ) (e : ℤ) → Small (suc m) e → HasValue (ceil (fin true (suc m) e)) true (under (suc m) e) 1
unfolding ceil neg
ceil_below m e h = neg_value (floor (fin false (suc m) e)) false (under (suc m) e) 1 (floor_above m e h)

-- ---- what fits
pub floor_fits : (x : Float) → T (fits binary64 x) → T (fits binary64 (floor x))
unfolding floor
floor_fits nan t = t
floor_fits (inf s) t = t
floor_fits (fin true zero e) t = t
floor_fits (fin false zero e) t = t
floor_fits (fin false (suc m) e) t = round-fits binary64 false (suc m * up e / down e) 1
floor_fits (fin true (suc m) e) t = round-fits binary64 true ((suc m * up e + down e - 1) / down e) 1

pub ceil_fits : (x : Float) → T (fits binary64 x) → T (fits binary64 (ceil x))
unfolding ceil
ceil_fits x t = neg-fits binary64 (floor (neg x)) (floor_fits (neg x) (neg-fits binary64 x t))

-- ---- the casts of a whole value
cut : (m : ℕ) (e : ℤ) (n : ℕ) → m * up e * 1 ≡ n * down e → m * up e / down e ≡ n
cut m e n h = ap (λ (x : ℕ). x / down e) (sym (mul-one (m * up e)) ∙ h) ∙ mul-div_cancel n (down_pos e)

pub signed_value : (x : Float) (s : Bool) (n : ℕ) → HasValue x s n 1 → as_i64 x ≡ cond s (neg_ℤ (pos (min n (2 ^ 63)))) (pos (min n (2 ^ 63 - 1)))
unfolding to_signed
signed_value nan s n h = absurd h
signed_value (inf t) s n h = absurd h
signed_value (fin t m e) s n h = rw (h.0, cut m e n h.1) refl

pub unsigned_value : (x : Float) (n : ℕ) → HasValue x false n 1 → n < 2 ^ 64 → as_usize x ≡ n
unfolding to_unsigned
unsigned_value nan n h l = absurd h
unsigned_value (inf t) n h l = absurd h
unsigned_value (fin t m e) n h l = rw (h.0, cut m e n h.1) (omega arith)

-- ---- floor() as i64 is x as i64 but for the fractions below zero, and ceil() as i64 but for those above
same_cast : (s : Bool) (m : ℕ) (e : ℤ) (y : Float) → HasValue y s (under (suc m) e) 1 → as_i64 y ≡ as_i64 (fin s (suc m) e)
unfolding to_signed under
same_cast s m e y h = signed_value y s (under (suc m) e) h

small_or : {X : Type 0} (m : ℕ) (e : ℤ) → (Small m e → X) → (Large m e → X) → X
small_or {X = X} m e f g = go (nat_lt (m * up e) (2 ^ 53 * down e)) (ltb-true (m * up e) (2 ^ 53 * down e)) (ltb-false (m * up e) (2 ^ 53 * down e))
  where
    go : (b : Bool) → (b ≡ true → Small m e) → (b ≡ false → Large m e) → X
    go true y n = f (y refl)
    go false y n = g (n refl)

floor_cast : (m : ℕ) (e : ℤ) → T (fits binary64 (fin false (suc m) e)) → as_i64 (floor (fin false (suc m) e)) ≡ as_i64 (fin false (suc m) e)
floor_cast m e t =
    small_or (suc m) e (λ h. same_cast false m e (floor (fin false (suc m) e)) (floor_above m e h)) (λ h. ap as_i64 (floor_large false m e t h))

ceil_large : (s : Bool) (m : ℕ) (e : ℤ) → T (fits binary64 (fin s (suc m) e)) → Large (suc m) e → ceil (fin s (suc m) e) ≡ fin s (suc m) e
unfolding ceil neg fits
ceil_large true m e t h = ap neg (floor_large false m e t h)
ceil_large false m e t h = ap neg (floor_large true m e t h)

ceil_cast : (m : ℕ) (e : ℤ) → T (fits binary64 (fin true (suc m) e)) → as_i64 (ceil (fin true (suc m) e)) ≡ as_i64 (fin true (suc m) e)
ceil_cast m e t = small_or (suc m) e (λ h. same_cast true m e (ceil (fin true (suc m) e)) (ceil_below m e h)) (λ h. ap as_i64 (ceil_large true m e t h))

-- 2 ^ 53 with a sign
abbrev pub bound : Bool → Float
bound s = fin s 1 (pos 53)

pub floor_cast_above : (x : Float) → T (fits binary64 x) → T (not (lt x origin)) → as_i64 (floor x) ≡ as_i64 x
unfolding floor
floor_cast_above nan t h = refl
floor_cast_above (inf s) t h = refl
floor_cast_above (fin true zero e) t h = refl
floor_cast_above (fin false zero e) t h = refl
floor_cast_above (fin false (suc m) e) t h = floor_cast m e t
floor_cast_above (fin true (suc m) e) t h = absurd (T_not (lt (fin true (suc m) e) origin) h (negative_below m e))

pub floor_cast_far : (x : Float) → T (fits binary64 x) → T (not (lt (bound true) x)) → as_i64 (floor x) ≡ as_i64 x
unfolding floor lt
floor_cast_far nan t h = refl
floor_cast_far (inf s) t h = refl
floor_cast_far (fin true zero e) t h = refl
floor_cast_far (fin false zero e) t h = refl
floor_cast_far (fin false (suc m) e) t h = floor_cast m e t
floor_cast_far (fin true (suc m) e) t h = ap as_i64 (floor_large true m e t (let k = nltb→le (suc m * up e * 1) (1 * 2 ^ 53 * down e) h in omega arith))

pub ceil_cast_below : (x : Float) → T (fits binary64 x) → T (not (lt origin x)) → as_i64 (ceil x) ≡ as_i64 x
unfolding ceil floor neg
ceil_cast_below nan t h = refl
ceil_cast_below (inf true) t h = refl
ceil_cast_below (inf false) t h = refl
ceil_cast_below (fin true zero e) t h = refl
ceil_cast_below (fin false zero e) t h = refl
ceil_cast_below (fin true (suc m) e) t h = ceil_cast m e t
ceil_cast_below (fin false (suc m) e) t h = absurd (T_not (lt origin (fin false (suc m) e)) h (positive_above m e))

pub ceil_cast_far : (x : Float) → T (fits binary64 x) → T (not (lt x (bound false))) → as_i64 (ceil x) ≡ as_i64 x
unfolding ceil floor neg lt
ceil_cast_far nan t h = refl
ceil_cast_far (inf true) t h = refl
ceil_cast_far (inf false) t h = refl
ceil_cast_far (fin true zero e) t h = refl
ceil_cast_far (fin false zero e) t h = refl
ceil_cast_far (fin true (suc m) e) t h = ceil_cast m e t
ceil_cast_far (fin false (suc m) e) t h = ap as_i64 (ceil_large false m e t (let k = nltb→le (suc m * up e * 1) (1 * 2 ^ 53 * down e) h in omega arith))
