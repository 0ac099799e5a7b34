-- One rounding: what `round` makes of num / den with a sign, by exact values. It is near, it keeps the order, and a number
-- of 53 digits stays on its side; so such a number does not change.
-- Rests on `Nearest` (how far), the kit's `round_mono` (the order) and `round_exact` (no change).
use Rattle.std.specs.Prelude.{◌≡◌, refl, ◌⊎◌, Bool, true, false, cond, ℕ, suc, ◌+◌, ◌*◌, ◌^◌, ◌≤◌, ◌<◌, T, ltb, Float}
use Rattle.std.proofs.Common.{sym, ◌∙◌, subst, inl, inr, le_trans, le_of_eq, arith, ltb→lt, lit<}
use Rattle.std.specs.Float.{nan, inf, fin, binary64}
use Rattle.std.specs.Float.Ieee.{prec, low, odd, units, round, le}
use Rattle.std.specs.Float.Ieee.Fits.{round_is, round-fits}
use Rattle.std.specs.Float.Ieee.Exact.{HasValue, units_val}
use Rattle.std.specs.Float.Ieee.Order.{drop, kept, round_mono}
use Rattle.std.specs.Float.Ieee.Scale.{grid, overflow, finite}
use Rattle.rounding.specs.Signed.{signed}
use Rattle.rounding.specs.Relative.{Near}
use Rattle.rounding.specs.Value.{U, E, H, sgn, mag, Num, Digits, mag_of, sgn_of, fine_of}
use Rattle.rounding.specs.Comparison.{le→≼}

-- ---- the result in units, where it is finite
pub record Made (x : Float) (s : Bool) (g : ℕ) : Type 0 where
  pub num : Num x
  pub sign : sgn x ≡ s
  pub size : mag x ≡ g

pub of_value : (s : Bool) (num den g : ℕ) → HasValue (round binary64 s num den) s g U → Made (round binary64 s num den) s g
of_value s num den g v =
    let x = round binary64 s num den in
    record { num = record { fit = round-fits binary64 s num den; fine = fine_of x s g U v }; sign = sgn_of x s g U v; size = mag_of x s g v }

units_case : (s : Bool) (q k : ℕ) → (q * 2 ^ k < overflow binary64) ⊎ (units binary64 s q k ≡ inf s)
unfolding units
units_case s q k = go (ltb (q * 2 ^ k) (overflow binary64)) (ltb→lt (q * 2 ^ k) (overflow binary64))
  where
    go :
        (b : Bool) → (T b → q * 2 ^ k < overflow binary64)
        → (q * 2 ^ k < overflow binary64) ⊎ (cond b (odd (suc (prec binary64)) s q k (low binary64)) (inf s) ≡ inf s)
    go true h = inl (h tt)
    go false h = inr refl

-- a result is finite below `overflow` units, and else an infinity
grid_case : (s : Bool) (num den : ℕ) → (grid binary64 num den < overflow binary64) ⊎ (round binary64 s num den ≡ inf s)
grid_case s num den =
    elim (units_case s (kept 53 (num * 2 ^ low binary64) den) (drop 53 (num * 2 ^ low binary64) den)) [
      | inl h ↦ inl h
      | inr e ↦ inr (round_is binary64 s num den ∙ e)
    ]

pub under : (s : Bool) (num den : ℕ) → T (finite (round binary64 s num den)) → grid binary64 num den < overflow binary64
under s num den h = elim (grid_case s num den) [ inl g ↦ g | inr e ↦ absurd (subst (λ (z : Float). T (finite z)) e h) ]

pub made : (s : Bool) (num den : ℕ) → grid binary64 num den < overflow binary64 → Made (round binary64 s num den) s (grid binary64 num den)
unfolding U
made s num den h =
    of_value s num den (grid binary64 num den)
    (subst (λ (z : Float). HasValue z s (grid binary64 num den) (2 ^ low binary64)) (sym (round_is binary64 s num den))
    (units_val binary64 s (kept 53 (num * 2 ^ low binary64) den) (drop 53 (num * 2 ^ low binary64) den) h))

-- finite, or the infinity of its sign: never a NaN
pub round_case : (s : Bool) (num den : ℕ) → T (finite (round binary64 s num den)) ⊎ (round binary64 s num den ≡ inf s)
round_case s num den = elim (grid_case s num den) [ inl h ↦ inl (made s num den h).num.fine | inr e ↦ inr e ]

-- ---- the order
pub not_above : (y : Float) → T (finite y) → T (le (inf false) y) → ⊥
unfolding le
not_above nan f h = f
not_above (inf s) f h = f
not_above (fin s m e) f h = h

plain_le : (s t : Bool) (a b : ℕ) → s ≡ false → t ≡ false → (signed s a).p + (signed t b).n ≤ (signed t b).p + (signed s a).n → a ≤ b
plain_le true t a b e f h = absurd (subst (λ (z : Bool). T z) e tt)
plain_le false true a b e f h = absurd (subst (λ (z : Bool). T z) f tt)
plain_le false false a b e f h = omega arith

-- of two fractions the smaller is finite once the larger is, and its size is no larger; whatever their signs
pub record Ordered (x y : Float) : Type 0 where
  pub fine : T (finite x)
  pub size : mag x ≤ mag y

pub ordered :
    (s t : Bool) (a b c d : ℕ) → 0 < b → 0 < d → a * d ≤ c * b → T (finite (round binary64 t c d))
    → Ordered (round binary64 s a b) (round binary64 t c d)
ordered s t a b c d B D h f =
    let hi = made false c d (under t c d f) in
    let l = round_mono binary64 a b c d B D h in
    elim (grid_case false a b) [
      | inl g ↦
          let lo = made false a b g in
          let x = made s a b g in
          record {
            fine = x.num.fine;
            size =
                le_trans (le_of_eq (x.size ∙ sym lo.size))
                (le_trans (plain_le (sgn (round binary64 false a b)) (sgn (round binary64 false c d)) (mag (round binary64 false a b))
                (mag (round binary64 false c d)) lo.sign hi.sign (le→≼ (round binary64 false a b) (round binary64 false c d) lo.num hi.num l))
                (le_of_eq (hi.size ∙ sym (made t c d (under t c d f)).size)));
          }
      | inr e ↦ absurd (not_above (round binary64 false c d) hi.num.fine (subst (λ (z : Float). T (le z (round binary64 false c d))) e l))
    ]

pub round_finite :
    (s t : Bool) (a b c d : ℕ) → 0 < b → 0 < d → a * d ≤ c * b → T (finite (round binary64 t c d)) → T (finite (round binary64 s a b))
round_finite s t a b c d B D h f = (ordered s t a b c d B D h f).fine

pub round_mag :
    (s t : Bool) (a b c d : ℕ) → 0 < b → 0 < d → a * d ≤ c * b → T (finite (round binary64 t c d))
    → mag (round binary64 s a b) ≤ mag (round binary64 t c d)
round_mag s t a b c d B D h f = (ordered s t a b c d B D h f).size

-- up to 2 ^ 64 there is no overflow
abbrev pub B : ℕ
B = 18446744073709551616

pub round_bounded : (s : Bool) (num den : ℕ) → 0 < den → num ≤ den * B → T (finite (round binary64 s num den))
unfolding round
round_bounded s num den d0 h = round_finite s false num den B 1 d0 (lit< tt) (omega arith) tt

-- z is n / den units with the sign s, rounded once
pub record Rounded (z : Float) (s : Bool) (n den : ℕ) : Type 0 where
  pub num : Num z
  pub sign : sgn z ≡ s
  pub near : Near E 1 (den * H) (mag z * den) n
  pub least : (g : ℕ) → Digits g → g * den ≤ n → g ≤ mag z
  pub most : (g : ℕ) → Digits g → n ≤ g * den → mag z ≤ g

-- the same of a whole number of units, w, where nothing below a unit is lost
pub record RoundedUnits (z : Float) (s : Bool) (w : ℕ) : Type 0 where
  pub num : Num z
  pub sign : sgn z ≡ s
  pub near : Near E 1 0 (mag z) w
  pub least : (g : ℕ) → Digits g → g ≤ w → g ≤ mag z
  pub most : (g : ℕ) → Digits g → w ≤ g → mag z ≤ g
