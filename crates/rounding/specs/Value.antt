-- A finite f64 read as an exact number: a whole number of units of 2 ^ -1074, the least value above zero, with a sign. Of
-- its size the 53 leading digits are all.
-- Rests on the kit's `fits` and `HasValue`.
use Rattle.std.specs.Prelude.{◌≡◌, refl, Bool, true, false, not, ◌&&◌, ℕ, zero, suc, ◌+◌, ◌-◌, ◌*◌}
use Rattle.std.specs.Prelude.{◌/◌, ◌%◌, ◌^◌, ◌≤◌, ◌<◌, ℤ, pos, negsuc, T, ltb, eqb, leb, Float}
use Rattle.std.proofs.Common.{sym, ap, ◌∙◌, mul_left_comm, le_of_eq, le_of_suc-le-suc, lt_of_le_of_lt, lt_of_lt_of_le, lt_of_not-le}
use Rattle.std.proofs.Common.{not-le_of_lt, lt_of_mul-lt-mul_right, mul-lt-mul_of_pos_right, mul-pos, mul_assoc, mul_comm, mul_right_comm}
use Rattle.std.proofs.Common.{mul-one, zero-mul, mul-div_cancel, arith, ltb→lt, leb→le, lit<, pow-add, pow_pos}
use Rattle.std.proofs.Math.Nat.{pow-succ', eq_of_mul-eq-mul_right}
use Rattle.std.proofs.Math.Pow.{pow-lt}
use Rattle.std.specs.Float.{nan, inf, fin, binary64}
use Rattle.std.specs.Float.Ieee.{prec, emax, low, up, down, neg, fits}
use Rattle.std.specs.Float.Ieee.Digits.{back}
use Rattle.std.specs.Float.Ieee.Fits.{down_pos, neg-fits}
use Rattle.std.specs.Float.Ieee.Exact.{HasValue}
use Rattle.std.specs.Float.Ieee.Scale.{overflow, finite}
use Rattle.rounding.specs.Signed.{Exact, signed, opp}

-- 1 is U units. It stays shut, since `omega` reads no numeral of 40 digits
unfoldable pub U : ℕ
U = 2 ^ low binary64

pub U-is : U ≡ 2 ^ low binary64
unfolding U
U-is = refl

pub U_pos : 0 < U
unfolding U
U_pos = pow_pos (low binary64)

-- 2 ^ 53 and 2 ^ 52
abbrev pub E : ℕ
E = 9007199254740992

abbrev pub H : ℕ
H = 4503599627370496

-- ---- the reading
unfoldable pub sgn : Float → Bool
sgn nan = false
sgn (inf s) = false
sgn (fin s m e) = s

unfoldable pub mag : Float → ℕ
mag nan = 0
mag (inf s) = 0
mag (fin s m e) = m * up e * U / down e

abbrev pub val : Float → Exact
val x = signed (sgn x) (mag x)

-- a finite number that an f64 holds
pub record Num (x : Float) : Type 0 where
  pub fit : T (fits binary64 x)
  pub fine : T (finite x)

-- ---- x is M units in size
pub mag_of : (x : Float) (s : Bool) (M : ℕ) → HasValue x s M U → mag x ≡ M
unfolding mag
mag_of nan s M h = absurd h
mag_of (inf t) s M h = absurd h
mag_of (fin t m e) s M h = ap (λ (z : ℕ). z / down e) h.1 ∙ mul-div_cancel M (down_pos e)

pub sgn_of : (x : Float) (s : Bool) (a c : ℕ) → HasValue x s a c → sgn x ≡ s
unfolding sgn
sgn_of nan s a c h = absurd h
sgn_of (inf t) s a c h = absurd h
sgn_of (fin t m e) s a c h = h.0

pub fine_of : (x : Float) (s : Bool) (a c : ℕ) → HasValue x s a c → T (finite x)
fine_of nan s a c h = absurd h
fine_of (inf t) s a c h = absurd h
fine_of (fin t m e) s a c h = tt

-- ---- what is held has 53 digits at most: it is q times a power of two
pub record Digits (g : ℕ) : Type 0 where
  pub q : ℕ
  pub j : ℕ
  pub small : q < E
  pub is : g ≡ q * 2 ^ j

pub digits_at : (q j : ℕ) → q < E → Digits (q * 2 ^ j)
digits_at q j h = record { q = q; j = j; small = h; is = refl }

-- a whole number below 2 ^ 53
pub digits_whole : (n : ℕ) → n < E → Digits (n * U)
digits_whole n h = record { q = n; j = low binary64; small = h; is = ap (λ (z : ℕ). n * z) U-is }

pub digits_twice : {g : ℕ} → Digits g → Digits (2 * g)
digits_twice {g} d =
    record {
      q = d.q;
      j = suc d.j;
      small = d.small;
      is = ap (λ (z : ℕ). 2 * z) d.is ∙ mul_left_comm 2 d.q
          (2 ^ d.j) ∙ ap (λ (z : ℕ). d.q * z) (sym (pow-succ' 2 d.j));
    }

pub digits_zero : Digits 0
digits_zero = record { q = 0; j = 0; small = lit< tt; is = sym (zero-mul 1) }

pub pow_le_inv : (i j : ℕ) → 2 ^ i ≤ 2 ^ j → i ≤ j
pow_le_inv i j h = le_of_suc-le-suc (lt_of_not-le (λ (g : suc j ≤ i). not-le_of_lt (pow-lt g) h))

pub pow_split : (l k : ℕ) → k ≤ l → 2 ^ l ≡ 2 ^ (l - k) * 2 ^ k
pow_split l k h = ap (λ (z : ℕ). 2 ^ z) (sym (back l k h)) ∙ pow-add 2 (l - k) k

-- m * 2 ^ e is a whole number of 2 ^ -l
record Units (m : ℕ) (e : ℤ) (l : ℕ) : Type 0 where
  j : ℕ
  is : m * up e * 2 ^ l ≡ m * 2 ^ j * down e

units : (m : ℕ) (e : ℤ) (l : ℕ) → down e ≤ 2 ^ l → Units m e l
units m (pos k) l h =
    record { j = k + l; is = mul_assoc m (2 ^ k) (2 ^ l) ∙ ap (λ (z : ℕ). m * z) (sym (pow-add 2 k l)) ∙ sym (mul-one (m * 2 ^ (k + l))) }
units m (negsuc k) l h =
    let i : suc k ≤ l = pow_le_inv (suc k) l h in
    record { j = l - suc k; is = ap (λ (z : ℕ). m * 1 * z) (pow_split l (suc k) i) ∙ regroup m (2 ^ (l - suc k)) (2 ^ suc k) }
  where
    regroup : (m a b : ℕ) → m * 1 * (a * b) ≡ m * a * b
    regroup m a b = omega arith

record Held (s : Bool) (m : ℕ) (e : ℤ) : Type 0 where
  digits : Digits (mag (fin s m e))
  value : HasValue (fin s m e) s (mag (fin s m e)) U

held_at : (s : Bool) (m : ℕ) (e : ℤ) → m < E → Units m e (low binary64) → Held s m e
unfolding mag U
held_at s m e h u =
    let g : mag (fin s m e) ≡ m * 2 ^ u.j = ap (λ (z : ℕ). z / down e) u.is ∙ mul-div_cancel (m * 2 ^ u.j) (down_pos e) in
    record {
      digits = record { q = m; j = u.j; small = h; is = g };
      value = (refl, u.is ∙ ap (λ (z : ℕ). z * down e) (sym g));
    }

middle : (a b c d : Bool) → T (a && b && c && d) → T b × T c
middle true true true d h = (tt, tt)
middle true true false d h = (tt, h)
middle true false c d h = absurd h
middle false b c d h = absurd h

held : (s : Bool) (m : ℕ) (e : ℤ) → T (fits binary64 (fin s m e)) → Held s m e
unfolding fits
held s zero e h =
    held_at s zero e (lit< tt)
    (record { j = 0; is = ap (λ (z : ℕ). z * 2 ^ low binary64) (zero-mul (up e)) ∙ zero-mul (2 ^ low binary64) ∙ sym (zero-mul (down e)) })
held s (suc m) e h =
    let f =
    middle (eqb (suc m % 2) 1) (ltb (suc m) (2 ^ prec binary64)) (leb (down e) (2 ^ low binary64)) (ltb (suc m * up e) (2 ^ suc (emax binary64) * down e)) h in
    held_at s (suc m) e (ltb→lt (suc m) E f.0) (units (suc m) e (low binary64) (leb→le (down e) (2 ^ low binary64) f.1))

pub significand : (s : Bool) (m : ℕ) (e : ℤ) → T (fits binary64 (fin s m e)) → m < E
unfolding fits
significand s zero e h = lit< tt
significand s (suc m) e h =
    ltb→lt (suc m) E
    (middle (eqb (suc m % 2) 1) (ltb (suc m) (2 ^ prec binary64)) (leb (down e) (2 ^ low binary64)) (ltb (suc m * up e) (2 ^ suc (emax binary64) * down e)) h).0

pub own : (x : Float) → Num x → HasValue x (sgn x) (mag x) U
unfolding sgn
own nan h = absurd h.fine
own (inf t) h = absurd h.fine
own (fin t m e) h = (held t m e h.fit).value

pub digits : (x : Float) → Num x → Digits (mag x)
digits nan h = absurd h.fine
digits (inf t) h = absurd h.fine
digits (fin t m e) h = (held t m e h.fit).digits

-- it is below 2 ^ 1024
under : (s : Bool) (m : ℕ) (e : ℤ) → T (fits binary64 (fin s m e)) → HasValue (fin s m e) s (mag (fin s m e)) U → mag (fin s m e) < overflow binary64
unfolding fits U
under s zero e h v =
    lt_of_mul-lt-mul_right (down e)
    (lt_of_le_of_lt (le_of_eq (sym v.1 ∙ ap (λ (z : ℕ). z * U) (zero-mul (up e)) ∙ zero-mul U))
    (mul-pos (pow_pos (low binary64 + suc (emax binary64))) (down_pos e)))
under s (suc m) e h v =
    let l =
    ltb→lt (suc m * up e) (2 ^ suc (emax binary64) * down e)
    (last (eqb (suc m % 2) 1) (ltb (suc m) (2 ^ prec binary64)) (leb (down e) (2 ^ low binary64)) (ltb (suc m * up e) (2 ^ suc (emax binary64) * down e)) h) in
    lt_of_mul-lt-mul_right (down e)
    (lt_of_le_of_lt (le_of_eq (sym v.1))
    (lt_of_lt_of_le (mul-lt-mul_of_pos_right l U_pos)
    (le_of_eq (mul_right_comm (2 ^ suc (emax binary64)) (down e) U ∙ ap (λ (z : ℕ). z * down e) (mul_comm (2 ^ suc (emax binary64)) U)))))
  where
    last : (a b c d : Bool) → T (a && b && c && d) → T d
    last true true true d h = h
    last true true false d h = absurd h
    last true false c d h = absurd h
    last false b c d h = absurd h

pub mag_under : (x : Float) → Num x → mag x < overflow binary64
mag_under nan h = absurd h.fine
mag_under (inf t) h = absurd h.fine
mag_under (fin t m e) h = under t m e h.fit (held t m e h.fit).value

-- x is a / c: its units
pub value_mag : (x : Float) (s : Bool) (a c : ℕ) → Num x → HasValue x s a c → mag x * c ≡ a * U
value_mag nan s a c p h = absurd h
value_mag (inf t) s a c p h = absurd h
value_mag (fin t m e) s a c p h =
    let x = fin t m e in
    eq_of_mul-eq-mul_right (down e) (down_pos e) (mag x * c) (a * U)
    (omega (arith, ap (λ (z : ℕ). z * U) h.1, ap (λ (z : ℕ). z * c) (own x p).1))

-- ---- the sign turned over
pub neg_num : (x : Float) → Num x → Num (neg x)
neg_num nan p = absurd p.fine
neg_num (inf s) p = absurd p.fine
neg_num (fin s m e) p = record { fit = neg-fits binary64 (fin s m e) p.fit; fine = unfold neg in tt }

pub neg_mag : (x : Float) → mag (neg x) ≡ mag x
unfolding neg mag
neg_mag nan = refl
neg_mag (inf s) = refl
neg_mag (fin s m e) = refl

signed_not : (s : Bool) (m : ℕ) → signed (not s) m ≡ opp (signed s m)
signed_not true m = refl
signed_not false m = refl

pub neg_val : (x : Float) → Num x → val (neg x) ≡ opp (val x)
unfolding neg sgn
neg_val nan p = absurd p.fine
neg_val (inf s) p = absurd p.fine
neg_val (fin s m e) p = ap (λ (z : ℕ). signed (not s) z) (neg_mag (fin s m e)) ∙ signed_not s (mag (fin s m e))
