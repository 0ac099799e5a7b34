-- Quotas where there are no shares. No sum above 0, or a NaN: all to the first. An infinite sum: one each to the first, as far as the count goes.
-- Rests on `HandOut`, and on 0 / ∞ and the like being 0.
use Rattle.std.specs.Prelude.{◌≡◌, Bool, true, false, T, ltb, pos, get_or, Float}
use Rattle.std.proofs.Math.Path.{refl, sym, ap}
use Rattle.std.proofs.Common.{◌∙◌, le_of_lt, eq-zero-or-pos, zero-add, mul-pos, lit<, eq-eqb, ne_eqb}
use Rattle.std.proofs.Math.Logic.{inl, inr}
use Rattle.std.proofs.Math.Bool.{cond}
use mathlib.Core.List.{List, [], ◌∷◌, map}
use Prim.Native.Nat.{ℕ, zero, suc, ◌+◌, ◌-◌, ◌*◌, ◌/◌, ◌≤◌, ◌<◌, min, compare, Ordering}
use Rattle.std.proofs.Math.Nat.{sub-zero, min-eq_right, zero-div}
use native.Mathlib.Omega.{arith}
use Rattle.std.proofs.Math.Numerals.{add-one}
use Rattle.std.proofs.Math.Arith.{le-zero}
use Rattle.std.proofs.Math.ListN.{length, length-map}
use Rattle.std.specs.Float.{nan, inf, fin}
use Rattle.std.specs.Float.Ieee.{div, lt, le, eq, is_nan, up, down, fits, of_bits}
use Rattle.std.specs.Float.Ieee.Fits.{up_pos}
use Rattle.std.specs.Float.Ieee.Scale.{finite}
use Rattle.laws.specs.Orders.{Says, says, compared}
use Rattle.laws.specs.Sorted.{weigh, rank, if_lt}
use Rattle.laws.specs.Lists.{up_to, tabulate_at}
use Rattle.float.specs.Ops.{◌/ᶠ◌, 0ᶠ}
use Rattle.float.specs.Order.{max}
use Rattle.float.specs.Whole.{floor, as_f64}
use Rattle.float.specs.Total.{total_key}
use Rattle.rounding.specs.Signed.{signed, nat, ◌≼◌}
use Rattle.rounding.specs.Value.{U, U_pos, sgn, mag, Num, own, digits_zero}
use Rattle.rounding.proofs.Errors.{mul_law}
use Rattle.rounding.specs.Signs.{sub_none}
use Rattle.rounding.proofs.Whole.{of_int_exact}
use Rattle.rounding.specs.Casts.{floor_usize}
use Rattle.glyphs.specs.Apportion.{total, no_weight, share, whole_share, remainder, base, rems, assigned, by_remainder, apportion}
use Rattle.claims.specs.HandOut.{assigned_sum, handed_sum}
use Rattle.glyphs.specs.Quotas.{quota_of, left_over, rank_next, by_keys, by_rank, apportioned}
use Rattle.claims.specs.Unshared.{Mass, Masses, infinite, more, none, some}

-- ---- a share of an infinite sum is a zero, and its remainder +0
over_finite : (w : Float) → T (finite w) → (b : Bool) × (max (w /ᶠ inf false) 0ᶠ ≡ fin b 0 (pos 0))
unfolding div max is_nan lt of_bits
over_finite nan f = absurd f
over_finite (inf s) f = absurd f
over_finite (fin true m e) f = (true, refl)
over_finite (fin false m e) f = (false, refl)

over_infinity : (w : Float) → Mass w → (b : Bool) × (max (w /ᶠ inf false) 0ᶠ ≡ fin b 0 (pos 0))
unfolding div max is_nan of_bits
over_infinity w (some p) = over_finite w p.num.fine
over_infinity w infinite = (false, refl)

record Nought (z : Float) : Type 0 where
  num : Num z
  size : mag z ≡ 0

zero_nought : (b : Bool) → Nought (fin b 0 (pos 0))
unfolding fits mag U
zero_nought b = record { num = record { fit = tt; fine = tt }; size = refl }

share_nought : (n : ℕ) (w : Float) → n ≤ 2000 → Mass w → Nought (share n (inf false) w)
unfolding share
share_nought n w n0 m =
    let d = over_infinity w m in
    let f = as_f64 n in
    let i = of_int_exact (pos n) (omega (arith, n0)) in
    let z = zero_nought d.0 in
    let none : mag f * mag (fin d.0 0 (pos 0)) ≡ 0 = rw z.size (omega arith) in
    let r = mul_law f (fin d.0 0 (pos 0)) i.num z.num (rw none (omega arith)) in
    rw d.1 (record { num = r.num; size = le-zero (r.most 0 digits_zero (rw none (omega arith))) })

-- a zero is its own floor
nought_floor : (z : Float) → Nought z → floor z ≡ z
unfolding floor
nought_floor nan p = absurd p.num.fine
nought_floor (inf s) p = absurd p.num.fine
nought_floor (fin s zero e) p = refl
nought_floor (fin s (suc m) e) p =
    absurd (clash (suc m * up e) (mag (fin s (suc m) e)) (down e) (mul-pos (omega arith) (up_pos e)) p.size (own (fin s (suc m) e) p.num).1)
  where
    clash : (a g d : ℕ) → 0 < a → g ≡ 0 → a * U ≡ g * d → ⊥
    clash a g d a0 e h = omega (arith, mul-pos a0 U_pos, rw e at h)

nought_nonneg : (s : Bool) (m : ℕ) → m ≡ 0 → nat 0 ≼ signed s m
nought_nonneg true m e = omega (arith, e)
nought_nonneg false m e = omega arith

module _ (n : ℕ) (w : Float) (n0 : n ≤ 2000) (m : Mass w) where
  no_whole : whole_share n (inf false) w ≡ 0
  unfolding whole_share
  no_whole =
      let z = share n (inf false) w in
      let o = share_nought n w n0 m in
      floor_usize z 0 o.num (rw o.size (omega arith)) (lit< tt) (nought_nonneg (sgn z) (mag z) o.size) ∙ ap (λ (g : ℕ). g / U) o.size ∙ zero-div U

  no_remainder : remainder n (inf false) w ≡ 0ᶠ
  unfolding remainder
  no_remainder =
      let z = share n (inf false) w in
      let o = share_nought n w n0 m in
      rw (nought_floor z o) (sub_none z o.num.fine)

mass_at : (ws : List Float) → Masses ws → (i : ℕ) → i < length ws → Mass (get_or ws i nan)
mass_at [] none i l = absurd (omega (arith, l))
mass_at (w ∷ ws) (more m ms) zero l = m
mass_at (w ∷ ws) (more m ms) (suc i) l = mass_at ws ms i (omega (arith, l))

module _ (n : ℕ) (weights : List Float) (n0 : n ≤ 2000) (ms : Masses weights) where
  no_base : assigned (base n (inf false) weights) ≡ 0
  unfolding base weigh
  no_base = assigned_sum (map (whole_share n (inf false)) weights) ∙ go weights ms
    where
      go : (ws : List Float) → Masses ws → weigh (λ (x : ℕ). x) (map (whole_share n (inf false)) ws) ≡ 0
      go [] none = refl
      go (w ∷ ws) (more m ms) = omega (arith, no_whole n w n0 m, go ws ms)

  -- equal remainders leave the order to the indices
  by_index : (i j : ℕ) → i < length weights → j < length weights → by_remainder (rems n (inf false) weights) j i ≡ compare j i
  by_index i j l k =
      by_keys n (inf false) weights i j nan l k
      ∙ rw (
        no_remainder n (get_or weights i nan) n0 (mass_at weights ms i l),
        no_remainder n (get_or weights j nan) n0 (mass_at weights ms j k),
        compared (total_key 0ᶠ) (total_key 0ᶠ) Ordering.eq refl,
      )

  ranked : (i t : ℕ) → i < length weights → t ≤ length weights → rank (by_remainder (rems n (inf false) weights)) i (up_to t) ≡ min t i
  ranked i zero l h = unfold up_to weigh in omega arith
  ranked i (suc t) l h =
      let r = rems n (inf false) weights in
      rw (← add-one t)
      (rank_next r i t ∙ rw (by_index i t l h) (next (compare t i) (says t i) (rank (by_remainder r) i (up_to t)) (ranked i t l (omega (arith, h)))))
    where
      next : (o : Ordering) → Says t i o → (r : ℕ) → r ≡ min t i → r + if_lt o ≡ min (t + 1) i
      next Ordering.lt s r e = omega (arith, s, e)
      next Ordering.eq s r e = omega (arith, s, e)
      next Ordering.gt s r e = omega (arith, s, e)

  module _ (t : total weights ≡ inf false) where
    some_weight : no_weight (total weights) ≡ false
    unfolding no_weight is_nan le lt eq of_bits
    some_weight = rw t refl

    -- ONE EACH, to the first of them
    pub one_each : (i : ℕ) → i < length weights → get_or (apportion n weights) i 0 ≡ cond (ltb i n) 1 0
    unfolding left_over
    one_each i l =
        let left = left_over n (total weights) weights in
        rw (
          apportioned n weights,
          tabulate_at (quota_of n (total weights) left weights) (length weights) i 0 l,
          by_rank n (total weights) left weights i some_weight l,
          t,
        )
        (rw (no_whole n (get_or weights i nan) n0 (mass_at weights ms i l), ranked i (length weights) l (omega arith), no_base) (last (length weights) i l))
      where
        last : (k i : ℕ) → i < k → 0 + cond (ltb (min k i) (n - 0)) 1 0 ≡ cond (ltb i n) 1 0
        last k i l = rw (min-eq_right (le_of_lt l), sub-zero n) (zero-add (cond (ltb i n) 1 0))

    pub one_each_sum : assigned (apportion n weights) ≡ min n (length weights)
    unfolding apportion
    one_each_sum = elim (eq-zero-or-pos (length weights)) [
      | inl e ↦ rw (eq-eqb (length weights) 0 e) (unfold assigned in omega (arith, e))
      | inr l ↦
          rw (ne_eqb (length weights) 0 (λ (z : length weights ≡ 0). omega (arith, l, z)), some_weight, t)
          (handed_sum (base n (inf false) weights) (rems n (inf false) weights) (n - assigned (base n (inf false) weights))
          (unfold base rems in (length-map weights (whole_share n (inf false)) ∙ sym (length-map weights (remainder n (inf false)))))
          ∙ rw (no_base, length_rems) (omega arith))
    ]
      where
        length_rems : length (rems n (inf false) weights) ≡ length weights
        length_rems = unfold rems in length-map weights (remainder n (inf false))
