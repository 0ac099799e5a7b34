-- What the tests of `root` say of its argument: above zero, infinite, zero, or none of these.
-- Rests on `Laws/Zero.antt`, `Laws/Pattern.antt` and the kit's account of bit patterns.
use Rattle.std.proofs.Common.{◌≡◌, zero, suc, ◌<◌, ◌≤◌, true, false, not, T, sym, refl, ap}
use Rattle.std.proofs.Common.{◌∙◌, subst, inl, inr, eq-zero-or-pos, not-le_of_lt, T_not}
use lib.Ieee.{Float, nan, inf, fin, binary64, fits, of_bits, to_bits, lt, eq, div}
use lib.Ieee.Bits.{of_bits-to_bits}
use Rattle.laws.specs.Truth.{yes, no}
use Rattle.float.specs.Root.{root_of}
use Rattle.float.specs.Laws.Nan.{Number, lt_number}
use Rattle.float.specs.Laws.Zero.{origin, origin_is, zero_not_above, zero_equal, positive_above, nonzero_unequal}
use Rattle.float.specs.Laws.Pattern.{finite_pattern}

-- ---- the test `x > 0.0`
abbrev Above : Float → Type 0
Above x = lt (of_bits binary64 0) x ≡ true

above_it : (x : Float) → Above x → T (lt origin x)
above_it x h = rw origin_is at (yes h)

pub above_number : (x : Float) → Above x → Number x
above_number x h = (lt_number (of_bits binary64 0) x (yes h)).1

pub above_pattern : (x : Float) → T (fits binary64 x) → Above x → 0 < to_bits binary64 x
above_pattern x f h =
    elim (eq-zero-or-pos (to_bits binary64 x)) [
      | inl z ↦
          let e : x ≡ origin = sym (of_bits-to_bits binary64 x f) ∙ ap (of_bits binary64) z ∙ origin_is in
          absurd (zero_not_above false _ (subst (λ (y : Float). T (lt origin y)) e (above_it x h)))
      | inr p ↦ p
    ]

-- ---- the values that are their own roots
large : (x : Float) → T (fits binary64 x) → T (lt origin x) → 0x7ff0_0000_0000_0000 ≤ to_bits binary64 x → x ≡ root_of binary64 x
unfolding lt root_of
large nan f t h = refl
large (inf true) f t h = absurd t
large (inf false) f t h = refl
large (fin true zero e) f t h = refl
large (fin true (suc m) e) f t h = absurd t
large (fin false zero e) f t h = refl
large (fin false (suc m) e) f t h = absurd (not-le_of_lt (finite_pattern (suc m) e f) h)

pub infinite : (x : Float) → T (fits binary64 x) → Above x → 0x7ff0_0000_0000_0000 ≤ to_bits binary64 x → x ≡ root_of binary64 x
infinite x f t h = large x f (above_it x t) h

-- ---- the test `x == 0.0`
zero_root : (x : Float) → T (eq x origin) → x ≡ root_of binary64 x
unfolding eq root_of
zero_root nan t = refl
zero_root (inf s) t = absurd t
zero_root (fin s zero e) t = refl
zero_root (fin true (suc m) e) t = absurd (nonzero_unequal true m e t)
zero_root (fin false (suc m) e) t = absurd (nonzero_unequal false m e t)

pub at_zero : (x : Float) → eq x (of_bits binary64 0) ≡ true → x ≡ root_of binary64 x
at_zero x h = zero_root x (rw origin_is at (yes h))

-- ---- neither above zero nor zero
nan_is : div binary64 (of_bits binary64 0) (of_bits binary64 0) ≡ nan
unfolding div of_bits
nan_is = refl

no_root : (x : Float) → T (not (lt origin x)) → T (not (eq x origin)) → nan ≡ root_of binary64 x
unfolding lt root_of
no_root nan a b = refl
no_root (inf true) a b = refl
no_root (inf false) a b = absurd a
no_root (fin s zero e) a b = absurd (T_not (eq (fin s zero e) origin) b (zero_equal s e))
no_root (fin true (suc m) e) a b = refl
no_root (fin false (suc m) e) a b = absurd (T_not (lt origin (fin false (suc m) e)) a (positive_above m e))

pub below_zero :
    (x : Float) → lt (of_bits binary64 0) x ≡ false → eq x (of_bits binary64 0) ≡ false
    → div binary64 (of_bits binary64 0) (of_bits binary64 0) ≡ root_of binary64 x
below_zero x a b = nan_is ∙ no_root x (rw origin_is at (no a)) (rw origin_is at (no b))

-- a root by its pattern is the root
pub own_root : (x r : Float) → T (fits binary64 x) → r ≡ root_of binary64 (of_bits binary64 (to_bits binary64 x)) → r ≡ root_of binary64 x
own_root x r f e = e ∙ ap (root_of binary64) (of_bits-to_bits binary64 x f)
