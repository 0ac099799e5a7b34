-- QUOTAS, of up to 2,000 marks by up to 16 finite weights of at least 0 and a finite computed sum above 0: they add up, each within 1 + 2 ^ -20 of its share.
-- Rests on `Shares` (a computed share is 2 ^ -25 from the exact one at most), so no sum is taken to be exact; and on `HandOut`.
use Rattle.std.specs.Prelude.{◌≡◌, Bool, true, false, cond, ℕ, zero, suc, ◌+◌, ◌-◌, ◌*◌, ◌/◌, ◌≤◌, ◌<◌, ltb, get_or, Float}
use Rattle.std.proofs.Math.Path.{sym}
use Rattle.std.proofs.Common.{ap, ◌∙◌, le_refl, lt_of_not-le, le_of_suc-le-suc, le_of_mul-le-mul_right, lt_of_mul-lt-mul_right, mul-le-mul, mul-le-mul_right}
use Rattle.std.proofs.Common.{mul-lt-mul_of_pos_right, mul-pos, div-mul-le_self, lit<, ne_eqb}
use mathlib.Core.List.{List, [], ◌∷◌, map}
use Rattle.std.proofs.Math.Nat.{lt-div-mul-add}
use native.Mathlib.Omega.{arith}
use Rattle.std.proofs.Math.Dec.{not_T}
use Rattle.std.proofs.Math.ListN.{length}
use Rattle.std.proofs.lemmas.List.{length-map}
use Rattle.std.specs.Float.{nan}
use Rattle.std.specs.Float.Ieee.{le}
use Rattle.std.specs.Float.Ieee.Bits.{is_false}
use Rattle.laws.specs.Sorted.{weigh, rank}
use Rattle.laws.specs.Lists.{up_to, tabulate_at}
use Rattle.float.specs.Ops.{0ᶠ}
use Rattle.float.specs.Laws.Compare.{lt_not_le}
use Rattle.rounding.specs.Signed.{signed, nat, ◌≺◌}
use Rattle.rounding.specs.Value.{U, U_pos, E, sgn, mag}
use Rattle.rounding.specs.Comparison.{lt→≺}
use Rattle.rounding.specs.Signs.{zero_num, zero_val}
use Rattle.rounding.specs.Selection.{finite_not_nan}
use Rattle.rounding.specs.Casts.{floor_usize}
use Rattle.rounding.specs.Distance.{tiny_is}
use Rattle.rounding.specs.Shares.{Weight, Weights, none, more, sum, Summed, bit25, Share}
use Rattle.rounding.proofs.Shares.{summed, share_law}
use Rattle.claims.specs.HandOut.{assigned_sum, handed_sum}
use Rattle.glyphs.specs.Apportion.{total, no_weight, share, whole_share, remainder, base, rems, assigned, by_remainder, apportion}
use Rattle.glyphs.specs.Quotas.{quota_of, left_over, by_rank, apportioned}
use Rattle.claims.specs.Fair.{Fair, Weighed, member}

-- ---- one piece
-- f is the floor of its share
record Floor (f n w W : ℕ) : Type 0 where
  low : f * (U * W) ≤ n * w * U + W * bit25
  high : n * w * U ≤ f * (U * W) + U * W + W * bit25

floor_at : (n : ℕ) (sum w : Float) (W : ℕ) → n ≤ 2000 → 0 < W → mag w ≤ W → Share (share n sum w) n (mag w) W → Floor (whole_share n sum w) n (mag w) W
unfolding whole_share
floor_at n sum w W n0 W0 l s =
    let z = share n sum w in
    let small : mag z ≤ 2001 * U =
    le_of_mul-le-mul_right {k = W} (omega (arith, s.low, mul-le-mul_right U (mul-le-mul n0 l), ap (λ (t : ℕ). W * t) tiny_is)) W0 in
    let e = floor_usize z 2001 s.num small (lit< tt) s.nonneg in
    rw e (record { low = cut (mag z) n (mag w) s.low; high = next (mag z) n (mag w) s.high })
  where
    cut : (z n w : ℕ) → z * W ≤ n * w * U + W * bit25 → z / U * (U * W) ≤ n * w * U + W * bit25
    cut z n w h = omega (arith, h, mul-le-mul_right W (div-mul-le_self z U))

    next : (z n w : ℕ) → n * w * U ≤ z * W + W * bit25 → n * w * U ≤ z / U * (U * W) + U * W + W * bit25
    next z n w h = omega (arith, h, mul-lt-mul_of_pos_right (lt-div-mul-add {a = z} U_pos) W0)

-- ---- all pieces
record Floors (F n s W k : ℕ) : Type 0 where
  low : F * (U * W) ≤ n * s * U + k * (W * bit25)
  high : n * s * U ≤ F * (U * W) + k * (U * W) + k * (W * bit25)

module _ (n : ℕ) (t : Float) (W : ℕ) (n0 : n ≤ 2000) (W0 : 0 < W) (T0 : 0 < mag t) (S : Summed t W) where
  -- the shares that are computed with the definition's words
  share_at : (w : Float) → Weight w → mag w ≤ W → Share (share n t w) n (mag w) W
  unfolding share
  share_at w p l = share_law n t w W n0 p l S T0

  floors_at : (ws : List Float) → Weights ws → sum ws ≤ W → Floors (weigh (λ (x : ℕ). x) (map (whole_share n t) ws)) n (sum ws) W (length ws)
  unfolding weigh sum
  floors_at [] none l = record { low = omega arith; high = omega arith }
  floors_at (w ∷ ws) (more p ps) l =
      let r = floors_at ws ps (omega (arith, l)) in
      let f = floor_at n t w W n0 W0 (omega (arith, l)) (share_at w p (omega (arith, l))) in
      record { low = omega (arith, r.low, f.low); high = omega (arith, r.high, f.high) }

-- a floor, or one more
fair : (f : ℕ) (b : Bool) (n w W : ℕ) → 0 < W → Floor f n w W → Fair (f + cond b 1 0) n w W
fair f b n w W W0 r = go b
  where
    -- 2 ^ -25 is less than 2 ^ -20
    e : W * bit25 * 1048576 < U * W
    e = omega (arith, ap (λ (t : ℕ). W * t) tiny_is, mul-pos U_pos W0)

    go : (b : Bool) → Fair (f + cond b 1 0) n w W
    go true = record { low = lt_of_mul-lt-mul_right U (omega (arith, r.low, e)); high = lt_of_mul-lt-mul_right U (omega (arith, r.high, e)) }
    go false = record { low = lt_of_mul-lt-mul_right U (omega (arith, r.low, e)); high = lt_of_mul-lt-mul_right U (omega (arith, r.high, e)) }

-- F is between n - k and n
floors_sum : (F n W k : ℕ) → 0 < W → k ≤ 16 → Floors F n W W k → (F ≤ n) × (n ≤ F + k)
floors_sum F n W k W0 k0 f = (
  le_of_suc-le-suc (lt_of_not-le (λ (g : n < F). absurd (omega (arith, f.low, e, mul-le-mul_right (U * W) g, mul-pos U_pos W0)))),
  le_of_suc-le-suc (lt_of_not-le (λ (g : F + k < n). absurd (omega (arith, f.high, e, mul-le-mul_right (U * W) g, mul-pos U_pos W0)))),
)
  where
    -- 16 times 2 ^ -25 is less than 1
    e : k * (W * bit25) * 2 ≤ U * W
    e = omega (arith, ap (λ (t : ℕ). W * t) tiny_is, mul-le-mul_right (W * bit25) k0)

module _ (n : ℕ) (weights : List Float) (n0 : n ≤ 2000) (h : Weighed weights) where
  total_sum : Summed (total weights) (sum weights)
  unfolding total
  total_sum = summed weights h.few h.each h.fine

  total_above : 0 < mag (total weights)
  total_above = sign_free (sgn (total weights)) (mag (total weights)) (rw zero_val at (lt→≺ 0ᶠ (total weights) zero_num total_sum.num h.above))
    where
      sign_free : (s : Bool) (m : ℕ) → nat 0 ≺ signed s m → 0 < m
      sign_free true m l = absurd (omega (arith, l))
      sign_free false m l = omega (arith, l)

  sum_above : 0 < sum weights
  sum_above = go (sum weights) total_sum.near.above
    where
      go : (W : ℕ) → mag (total weights) * E ≤ W * (E + 32) + 0 → 0 < W
      go zero l = absurd (omega (arith, l, total_above))
      go (suc W) l = omega arith

  some_weight : no_weight (total weights) ≡ false
  unfolding no_weight
  some_weight =
      rw (finite_not_nan (total weights) h.fine) (is_false (le (total weights) 0ᶠ) (not_T (le (total weights) 0ᶠ) (lt_not_le 0ᶠ (total weights) h.above)))

  abbrev floors : List ℕ
  floors = base n (total weights) weights

  floors_add_up : (assigned floors ≤ n) × (n ≤ assigned floors + length weights)
  unfolding base
  floors_add_up =
      let f = floors_at n (total weights) (sum weights) n0 sum_above total_above total_sum weights h.each (le_refl (sum weights)) in
      rw (assigned_sum floors) (floors_sum (weigh (λ (x : ℕ). x) floors) n (sum weights) (length weights) sum_above h.few f)

  -- THE SUM
  pub quotas_sum : assigned (apportion n weights) ≡ n
  unfolding apportion base rems sum
  quotas_sum =
      let t = total weights in
      let b = floors_add_up in
      rw (ne_eqb (length weights) 0 (some weights sum_above), some_weight)
      (handed_sum floors (rems n t weights) (n - assigned floors) (length-map weights (whole_share n t) ∙ sym (length-map weights (remainder n t)))
      ∙ rw (length-map weights (remainder n t)) (omega (arith, b)))
    where
      some : (ws : List Float) → 0 < sum ws → length ws ≡ 0 → ⊥
      some [] l e = omega (arith, l)
      some (w ∷ ws) l e = omega (arith, e)

  -- EACH
  pub quotas_fair : (i : ℕ) → i < length weights → Fair (get_or (apportion n weights) i 0) n (mag (get_or weights i nan)) (sum weights)
  quotas_fair i l =
      let t = total weights in
      let w = get_or weights i nan in
      let left = left_over n t weights in
      let m = member weights h.each i l in
      let f = floor_at n t w (sum weights) n0 sum_above m.1 (share_at n t (sum weights) n0 sum_above total_above total_sum w m.0 m.1) in
      rw (apportioned n weights, tabulate_at (quota_of n t left weights) (length weights) i 0 l, by_rank n t left weights i some_weight l)
      (fair (whole_share n t w) (ltb (rank (by_remainder (rems n t weights)) i (up_to (length weights))) left) n (mag w) (sum weights) sum_above f)
