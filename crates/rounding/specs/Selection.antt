-- abs, min and max of finite numbers, by their exact values.
-- Rests on `Comparison`.
use Rattle.std.specs.Prelude.{◌≡◌, ◌⊎◌, Bool, not, cond, T, Float}
use Rattle.std.proofs.Math.Path.{refl}
use Rattle.std.proofs.Common.{sym, subst, arith}
use Rattle.std.proofs.Math.Logic.{inl, inr}
use Rattle.std.proofs.Math.Bool.{true, false}
use Rattle.std.specs.Float.{nan, inf, fin}
use Rattle.std.specs.Float.Ieee.{neg, is_nan}
use Rattle.std.specs.Float.Ieee.Scale.{finite}
use Rattle.float.specs.Ops.{◌<ᶠ◌, 0ᶠ}
use Rattle.float.specs.Order.{abs, min, max}
use Rattle.rounding.specs.Signed.{◌≼◌, ◌≺◌}
use Rattle.rounding.specs.Value.{sgn, mag, val, Num, neg_num}
use Rattle.rounding.specs.Comparison.{lt→≺, ¬lt→≼}
use Rattle.rounding.specs.Signs.{Nonneg, zero_num, zero_val}

pub finite_not_nan : (x : Float) → T (finite x) → is_nan x ≡ false
unfolding is_nan
finite_not_nan nan f = absurd f
finite_not_nan (inf s) f = absurd f
finite_not_nan (fin s m e) f = refl

-- ---- abs
pub abs_num : (x : Float) → Num x → Num (abs x)
unfolding abs
abs_num nan p = absurd p.fine
abs_num (inf s) p = absurd p.fine
abs_num (fin false m e) p = p
abs_num (fin true m e) p = unfold neg in neg_num (fin true m e) p

pub abs_mag : (x : Float) → mag (abs x) ≡ mag x
unfolding abs mag
abs_mag nan = refl
abs_mag (inf s) = refl
abs_mag (fin s m e) = refl

pub abs_plus : (x : Float) → sgn (abs x) ≡ false
unfolding abs sgn
abs_plus nan = refl
abs_plus (inf s) = refl
abs_plus (fin s m e) = refl

-- ---- one of two, by a test
module _ (a b : Float) (p : Num a) (q : Num b) where
  -- max: b only where it is larger
  pub max_case : ((max a b ≡ b) × (val a ≺ val b)) ⊎ ((max a b ≡ a) × (val b ≼ val a))
  unfolding max
  max_case = go (a <ᶠ b) (is_nan a) (finite_not_nan a p.fine) (lt→≺ a b p q) (¬lt→≼ a b p q)
    where
      go :
          (t n : Bool) → n ≡ false → (T t → val a ≺ val b) → (T (not t) → val b ≼ val a)
          → ((cond n b (cond t b a) ≡ b) × (val a ≺ val b)) ⊎ ((cond n b (cond t b a) ≡ a) × (val b ≼ val a))
      go true n e f g = inl (rw e refl, f tt)
      go false n e f g = inr (rw e refl, g tt)

  -- min: b only where it is smaller
  pub min_case : ((min a b ≡ b) × (val b ≺ val a)) ⊎ ((min a b ≡ a) × (val a ≼ val b))
  unfolding min
  min_case = go (b <ᶠ a) (is_nan a) (finite_not_nan a p.fine) (lt→≺ b a q p) (¬lt→≼ b a q p)
    where
      go :
          (t n : Bool) → n ≡ false → (T t → val b ≺ val a) → (T (not t) → val a ≼ val b)
          → ((cond n b (cond t b a) ≡ b) × (val b ≺ val a)) ⊎ ((cond n b (cond t b a) ≡ a) × (val a ≼ val b))
      go true n e f g = inl (rw e refl, f tt)
      go false n e f g = inr (rw e refl, g tt)

-- ---- max(x, 0.0)
pub max_zero_same : (x : Float) → Num x → Nonneg x → max x 0ᶠ ≡ x
max_zero_same x p h = elim (max_case x 0ᶠ p zero_num) [ inl c ↦ absurd (omega (arith, h, rw zero_val at c.1)) | inr c ↦ c.0 ]

pub max_zero_num : (x : Float) → Num x → Num (max x 0ᶠ)
max_zero_num x p = elim (max_case x 0ᶠ p zero_num) [ inl c ↦ subst Num (sym c.0) zero_num | inr c ↦ subst Num (sym c.0) p ]

pub max_zero_nonneg : (x : Float) → Num x → Nonneg (max x 0ᶠ)
max_zero_nonneg x p = elim (max_case x 0ᶠ p zero_num) [ inl c ↦ rw (c.0, zero_val) (omega arith) | inr c ↦ rw c.0 (rw zero_val at c.1) ]
