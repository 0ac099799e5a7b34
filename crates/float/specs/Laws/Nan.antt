-- Numbers, which are the values that are no NaN: `x != x` tells them, and a comparison that holds is of two of them.
-- Assumes nothing.
use Rattle.std.specs.Prelude.{◌≡◌, ◌*◌, true, false, not, T, ◌⊎◌, refl, Float}
use Rattle.std.proofs.Common.{sym, ◌∙◌, inl, inr, eq-eqb}
use Rattle.std.specs.Float.{nan, inf, fin}
use Rattle.std.specs.Float.Ieee.{up, down, lt, le, eq, ne, is_nan}
use Rattle.laws.specs.Truth.{no}

abbrev pub Number : Float → Type 0
Number x = T (not (is_nan x))

pub ne_self : (x : Float) → ne x x ≡ is_nan x
unfolding ne eq is_nan
ne_self nan = refl
ne_self (inf true) = refl
ne_self (inf false) = refl
ne_self (fin true m e) = rw (eq-eqb (m * up e * down e) (m * up e * down e) refl) refl
ne_self (fin false m e) = rw (eq-eqb (m * up e * down e) (m * up e * down e) refl) refl

pub is_nan_lem : (x : Float) → ne x x ≡ true → is_nan x ≡ true
is_nan_lem x h = sym (ne_self x) ∙ h

pub not_nan : (x : Float) → ne x x ≡ false → is_nan x ≡ false
not_nan x h = sym (ne_self x) ∙ h

pub is_number : (x : Float) → ne x x ≡ false → Number x
is_number x h = no (not_nan x h)

pub nan_or : (x : Float) → (x ≡ nan) ⊎ Number x
unfolding is_nan
nan_or nan = inl refl
nan_or (inf s) = inr tt
nan_or (fin s m e) = inr tt

pub is_the_nan : (x : Float) → is_nan x ≡ true → x ≡ nan
unfolding is_nan
is_the_nan nan h = refl
is_the_nan (inf s) h = cc
is_the_nan (fin s m e) h = cc

pub lt_nan : (x : Float) → (lt x nan ≡ false) × (lt nan x ≡ false)
unfolding lt
lt_nan nan = (refl, refl)
lt_nan (inf s) = (refl, refl)
lt_nan (fin s m e) = (refl, refl)

-- ---- the two values of a comparison that holds
pub lt_number : (x y : Float) → T (lt x y) → Number x × Number y
unfolding lt is_nan
lt_number nan y h = absurd h
lt_number (inf s) nan h = absurd h
lt_number (inf s) (inf t) h = (tt, tt)
lt_number (inf s) (fin t n d) h = (tt, tt)
lt_number (fin s m e) nan h = absurd h
lt_number (fin s m e) (inf t) h = (tt, tt)
lt_number (fin s m e) (fin t n d) h = (tt, tt)

pub le_number : (x y : Float) → T (le x y) → Number x × Number y
unfolding le lt eq is_nan
le_number nan y h = absurd h
le_number (inf s) nan h = absurd h
le_number (inf s) (inf t) h = (tt, tt)
le_number (inf s) (fin t n d) h = (tt, tt)
le_number (fin s m e) nan h = absurd h
le_number (fin s m e) (inf t) h = (tt, tt)
le_number (fin s m e) (fin t n d) h = (tt, tt)
