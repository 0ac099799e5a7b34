-- The radius that a search finds under a ceiling of 2 ^ -10 at least is a 1,024th of the ceiling at least, and the ceiling at most.
-- Rests on halving being exact: until a trial succeeds the upper end is the ceiling over a power of two, and the search ends once that is a 1,024th.
use Rattle.std.specs.Prelude.{◌≡◌, Bool, cond, Float, None, Some, Option}
use Rattle.std.proofs.Common.{sym, ◌∙◌, le_of_eq, mul-le-mul_left, lit<, pow-add, pow_mono}
use Rattle.std.proofs.Math.Path.{ap}
use Rattle.std.proofs.Math.Bool.{true, false}
use Prim.Native.Nat.{ℕ, zero, suc, ◌+◌, ◌*◌, ◌^◌, ◌≤◌}
use Rattle.std.proofs.Math.Nat.{le_trans, mul_left_comm}
use native.Mathlib.Omega.{arith}
use Rattle.std.proofs.Math.Dec.{T, lit≤}
use Rattle.std.specs.Float.Ieee.{of_bits, fits}
use Rattle.float.specs.Ops.{◌-ᶠ◌, ◌*ᶠ◌, ◌≤ᶠ◌, 0ᶠ}
use Rattle.rounding.specs.Signed.{signed, nat, plain, ◌⊖◌, ◌≼◌}
use Rattle.rounding.specs.Value.{U, sgn, mag, val, digits, digits_at}
use Rattle.rounding.specs.Comparison.{≼→le}
use Rattle.rounding.proofs.Errors.{sub_of_finite, mul_of_finite}
use Rattle.rounding.specs.Bounds.{Sized, wider}
use Rattle.rounding.proofs.Bounds.{sub_sized, mul_sized}
use Rattle.rounding.specs.Signs.{Nonneg, zero_num, zero_sized, zero_val, zero_mag, product_nonneg}
use Rattle.lattice.specs.Uniform.{1e-3ᶠ}
use Rattle.discs.specs.declared.radius.Search.{Search}
use Rattle.discs.specs.Radius.{halve, auto_radius}
use Rattle.claims.specs.Middle.{middle, middle_between, half_exact}
use Rattle.claims.specs.Halved.{Ceiling, Found, Good, part, part_is}

-- ---- 1e-3
thousandth_sized : Sized 1e-3ᶠ 1
thousandth_sized = record { num = unfold of_bits fits in record { fit = tt; fine = tt }; size = unfold of_bits mag U in lit≤ tt }

thousandth_nonneg : Nonneg 1e-3ᶠ
unfolding of_bits sgn
thousandth_nonneg = omega arith

thousandth_least : U ≤ mag 1e-3ᶠ * 1024
unfolding of_bits mag U
thousandth_least = lit≤ tt

-- ---- the search ends at a 1,024th
module _ (r-hi : Float) (c : Ceiling r-hi) where
  ends : (hi : Float) → Sized hi 65536 → mag hi ≤ part c → T (hi -ᶠ 0ᶠ ≤ᶠ 1e-3ᶠ *ᶠ r-hi)
  ends hi S h =
      let t = 1e-3ᶠ *ᶠ r-hi in
      let w = hi -ᶠ 0ᶠ in
      let T' : Sized t 65536 = mul_sized thousandth_sized c.sized (lit< tt) in
      let W : Sized w 65536 = sub_sized S zero_sized (lit< tt) in
      let p = mul_of_finite 1e-3ᶠ r-hi thousandth_sized.num c.sized.num T'.num.fine in
      let l : part c ≤ mag t =
      p.least (part c) (digits_at c.q c.b c.small)
      (le_trans (mul-le-mul_left (part c) thousandth_least)
      (le_trans (le_of_eq (turned (part c) (mag 1e-3ᶠ))) (le_of_eq (ap (λ (z : ℕ). mag 1e-3ᶠ * z) (sym (part_is c)))))) in
      let r = sub_of_finite hi 0ᶠ S.num zero_num W.num.fine in
      let m : val w ≼ signed false (mag hi) = r.most false (mag hi) (digits hi S.num) (rw zero_val (bare (sgn hi) (mag hi))) in
      ≼→le w t W.num T'.num (omega (arith, m, plain (sgn t) (mag t) (product_nonneg 1e-3ᶠ r-hi t p thousandth_nonneg c.nonneg)))
    where
      turned : (a m : ℕ) → a * (m * 1024) ≡ m * (1024 * a)
      turned a m = omega arith

      bare : (s : Bool) (m : ℕ) → signed s m ⊖ nat 0 ≼ signed false m
      bare true m = omega arith
      bare false m = omega arith

-- ---- the search, whatever the trials say
one_of : (P : Option Float → Type 0) (stop fit : Bool) (x y z : Search) → P x.best → P y.best → P z.best → P (cond stop x (cond fit y z)).best
one_of P true fit x y z p q r = p
one_of P false true x y z p q r = q
one_of P false false x y z p q r = r

module _ (fit : Float → Bool) (r-hi : Float) (c : Ceiling r-hi) where
  abbrev search : ℕ → Float → Float → Option Float → ℕ → Search
  search turns lo hi best made = halve fit r-hi turns lo hi best made

  abbrev ended : Float → Float → Bool
  ended lo hi = hi -ᶠ lo ≤ᶠ 1e-3ᶠ *ᶠ r-hi

  -- after a success
  after :
      (turns : ℕ) (lo hi : Float) (best : Option Float) (made : ℕ) → Found r-hi c lo → Sized hi 65536 → Nonneg hi → mag lo ≤ mag hi → mag hi ≤ mag r-hi
      → Good r-hi c best → Good r-hi c (search turns lo hi best made).best
  unfolding halve
  after zero lo hi best made L G o h t g = g
  after (suc turns) lo hi best made L G o h t g =
      let mid = middle lo hi in
      let m = middle_between lo hi 65536 L.sized G (lit< tt) L.nonneg o h in
      let M : Found r-hi c mid = record { sized = m.sized; nonneg = m.nonneg; low = le_trans L.low m.low; high = le_trans m.high t } in
      one_of (Good r-hi c) (ended lo hi) (fit mid) (record { best = best; trials = made }) (search turns mid hi (Some mid) (made + 1))
      (search turns lo mid best (made + 1)) g
      (after turns mid hi (Some mid) (made + 1) M G o m.high t M) (after turns lo mid best (made + 1) L m.sized m.nonneg m.low (le_trans m.high t) g)

  -- before the first
  before :
      (turns m : ℕ) (hi : Float) (made : ℕ) → Sized hi 65536 → Nonneg hi → mag hi ≤ mag r-hi → mag hi ≡ c.q * 2 ^ (c.b + m)
      → Good r-hi c (search turns 0ᶠ hi None made).best
  unfolding halve
  before zero m hi made G o t e = tt
  before (suc turns) zero hi made G o t e = at_end (ended 0ᶠ hi) (ends r-hi c hi G (le_of_eq (e ∙ ap (λ (z : ℕ). c.q * 2 ^ z) (omega arith)))) _
    where
      at_end : (stop : Bool) → T stop → (later : Search) → Good r-hi c (cond stop (record { best = None; trials = made }) later).best
      at_end true h later = tt
      at_end false h later = absurd h
  before (suc turns) (suc m) hi made G o t e =
      let mid = middle 0ᶠ hi in
      let w = middle_between 0ᶠ hi 65536 (wider (omega arith) zero_sized) G (lit< tt) (rw zero_val (omega arith)) o (rw zero_mag (omega arith)) in
      let half : mag mid ≡ c.q * 2 ^ (c.b + m) =
      half_exact hi 65536 (c.q * 2 ^ (c.b + m)) G (lit< tt) o (digits_at c.q (c.b + m) c.small) (e ∙ twice c.q c.b m) in
      let M : Found r-hi c mid =
      record {
        sized = w.sized;
        nonneg = w.nonneg;
        low = le_trans (mul-le-mul_left c.q (pow_mono (omega arith))) (le_of_eq (sym half));
        high = le_trans w.high t;
      } in
      one_of (Good r-hi c) (ended 0ᶠ hi) (fit mid) (record { best = None; trials = made }) (search turns mid hi (Some mid) (made + 1))
      (search turns 0ᶠ mid None (made + 1)) tt
      (after turns mid hi (Some mid) (made + 1) M G o w.high t M) (before turns m mid (made + 1) w.sized w.nonneg (le_trans w.high t) half)
    where
      twice : (q b m : ℕ) → q * 2 ^ (b + suc m) ≡ 2 * (q * 2 ^ (b + m))
      twice q b m = ap (λ (z : ℕ). q * 2 ^ z) (omega arith) ∙ ap (λ (z : ℕ). q * z) (pow-add 2 1 (b + m)) ∙ mul_left_comm q 2 (2 ^ (b + m))

  pub searched : Good r-hi c (auto_radius fit r-hi).best
  unfolding auto_radius
  searched = go (fit r-hi) (before 24 10 r-hi 1 c.sized c.nonneg (omega arith) c.is)
    where
      go :
          (a : Bool) → Good r-hi c (search 24 0ᶠ r-hi None 1).best
          → Good r-hi c (cond a (record { best = Some r-hi; trials = 1 }) (search 24 0ᶠ r-hi None 1)).best
      go true x = record { sized = c.sized; nonneg = c.nonneg; low = omega (arith, part_is c); high = omega arith }
      go false x = x
