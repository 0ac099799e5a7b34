-- Quotas where there are no shares. No sum above 0, or a NaN: all to the first. An infinite sum: one each to the first, as far as the count goes.
-- Rests on `HandOut`, and on 0 / ∞ and the like being 0.
use Rattle.std.specs.Prelude.{◌≡◌, ◌⊎◌, true, false, T, get_or, set, replicate, Float}
use Rattle.std.proofs.Math.Path.{refl, sym}
use Rattle.std.proofs.Common.{◌∙◌, subst, ne_eqb}
use Rattle.std.proofs.Math.Logic.{inl, inr}
use mathlib.Core.List.{List, [], ◌∷◌, foldl}
use Prim.Native.Nat.{ℕ, zero, suc, ◌<◌}
use native.Mathlib.Omega.{arith}
use Rattle.std.proofs.Math.ListN.{length}
use Rattle.std.specs.Float.{nan, inf, fin}
use Rattle.std.specs.Float.Ieee.{add}
use Rattle.std.specs.Float.Ieee.Scale.{finite}
use Rattle.laws.specs.Sorted.{weigh}
use Rattle.float.specs.Ops.{◌+ᶠ◌, -0ᶠ}
use Rattle.rounding.proofs.Errors.{add_of_finite}
use Rattle.rounding.specs.Signs.{rounding_nonneg, add_case}
use Rattle.rounding.specs.Shares.{Weight, minus_zero}
use Rattle.glyphs.specs.Apportion.{total, no_weight, assigned, apportion}
use Rattle.claims.specs.HandOut.{assigned_sum}

-- ---- no weight: all to the first
pub all_first :
    (n : ℕ) (weights : List Float) → 0 < length weights → no_weight (total weights) ≡ true → apportion n weights ≡ set (replicate (length weights) 0) 0 n
unfolding apportion
all_first n weights l e = rw (ne_eqb (length weights) 0 (λ (z : length weights ≡ 0). omega (arith, l, z)), e) refl

pub first_sum : (n : ℕ) (weights : List Float) → 0 < length weights → no_weight (total weights) ≡ true → assigned (apportion n weights) ≡ n
unfolding weigh
first_sum n weights l e = rw (all_first n weights l e) (assigned_sum (set (replicate (length weights) 0) 0 n) ∙ go (length weights) l)
  where
    nothing : (k : ℕ) → weigh (λ (x : ℕ). x) (replicate k 0) ≡ 0
    nothing zero = refl
    nothing (suc k) = omega (arith, nothing k)

    go : (k : ℕ) → 0 < k → weigh (λ (x : ℕ). x) (set (replicate k 0) 0 n) ≡ n
    go zero l = absurd (omega (arith, l))
    go (suc k) l = omega (arith, nothing k)

-- ---- what is not negative and no NaN: a weight, or +∞
pub data Mass : Float → Type 0 where
  some : {w : Float} → Weight w → Mass w
  infinite : Mass (inf false)

pub data Masses : List Float → Type 0 where
  none : Masses []
  more : {w : Float} {ws : List Float} → Mass w → Masses ws → Masses (w ∷ ws)

-- ---- when the sum is infinite
inf_plus : (w : Float) → Mass w → inf false +ᶠ w ≡ inf false
unfolding add
inf_plus nan (some p) = absurd p.num.fine
inf_plus (inf s) (some p) = absurd p.num.fine
inf_plus (fin s m e) (some p) = refl
inf_plus w infinite = refl

plus_inf : (a : Float) → Mass a → a +ᶠ inf false ≡ inf false
unfolding add
plus_inf nan (some p) = absurd p.num.fine
plus_inf (inf s) (some p) = absurd p.num.fine
plus_inf (fin s m e) (some p) = refl
plus_inf a infinite = refl

plus_mass : (a w : Float) → Mass a → Mass w → Mass (a +ᶠ w)
plus_mass a w (some p) (some q) = elim (add_case a w p.num q.num p.nonneg q.nonneg) [
  | inl f ↦ let r = add_of_finite a w p.num q.num f in some (record { num = r.num; nonneg = rounding_nonneg r (omega (arith, p.nonneg, q.nonneg)) })
  | inr e ↦ subst Mass (sym e) infinite
]
plus_mass a w infinite m = subst Mass (sym (inf_plus w m)) infinite
plus_mass a w (some p) infinite = subst Mass (sym (plus_inf a (some p))) infinite

fold_mass : (a : Float) (ws : List Float) → Mass a → Masses ws → Mass (foldl ◌+ᶠ◌ a ws)
fold_mass a [] m none = m
fold_mass a (w ∷ ws) m (more k ks) = fold_mass (a +ᶠ w) ws (plus_mass a w m k) ks

fold_inf : (a : Float) (ws : List Float) → a ≡ inf false → Masses ws → foldl ◌+ᶠ◌ a ws ≡ inf false
fold_inf a [] e none = e
fold_inf a (w ∷ ws) e (more k ks) = fold_inf (a +ᶠ w) ws (rw e (inf_plus w k)) ks

fold_at : (a : Float) (ws : List Float) → Mass a → Masses ws → (i : ℕ) → i < length ws → get_or ws i nan ≡ inf false → foldl ◌+ᶠ◌ a ws ≡ inf false
fold_at a [] m none i l e = absurd (omega (arith, l))
fold_at a (w ∷ ws) m (more k ks) zero l e = fold_inf (a +ᶠ w) ws (rw e (plus_inf a m)) ks
fold_at a (w ∷ ws) m (more k ks) (suc i) l e = fold_at (a +ᶠ w) ws (plus_mass a w m k) ks i (omega (arith, l)) e

mass_case : (z : Float) → Mass z → T (finite z) ⊎ (z ≡ inf false)
mass_case z (some p) = inl p.num.fine
mass_case z infinite = inr refl

-- a sum of such is finite or +∞, never a NaN
pub total_case : (weights : List Float) → Masses weights → T (finite (total weights)) ⊎ (total weights ≡ inf false)
unfolding total
total_case weights ms = mass_case (foldl ◌+ᶠ◌ -0ᶠ weights) (fold_mass -0ᶠ weights (some minus_zero) ms)

-- and +∞ with an infinite weight
pub infinite_weight : (weights : List Float) → Masses weights → (i : ℕ) → i < length weights → get_or weights i nan ≡ inf false → total weights ≡ inf false
unfolding total
infinite_weight weights ms i l e = fold_at -0ᶠ weights (some minus_zero) ms i l e
