-- The middle of two numbers that are not negative, as a bisection computes it, lies between them; that of 0 and a number is its half.
-- Rests on the rounding laws: twice a float is a float, so that rounding does not pass it.
use Rattle.std.specs.Prelude.{◌≡◌, refl, Bool, true, false, ℕ, ◌+◌, ◌*◌, ◌≤◌, ◌<◌, Float}
use Rattle.std.proofs.Common.{sym, ap, le_trans, le_of_eq, le_antisymm, mul-le-mul_left, arith}
use Rattle.std.proofs.Math.Dec.{lit≤}
use Rattle.std.specs.Float.Ieee.{of_bits, fits}
use Rattle.float.specs.Ops.{◌+ᶠ◌, ◌*ᶠ◌, 0ᶠ, ½ᶠ}
use Rattle.rounding.specs.Signed.{signed, nat, plain, ◌⊕◌, ◌≼◌}
use Rattle.rounding.specs.Value.{U, E, sgn, mag, val, Digits, digits, digits_twice}
use Rattle.rounding.specs.Errors.{Rounding, Product}
use Rattle.rounding.proofs.Errors.{add_of_finite, mul_of_finite}
use Rattle.rounding.specs.Bounds.{Sized, wider}
use Rattle.rounding.proofs.Bounds.{add_sized, mul_sized}
use Rattle.rounding.specs.Signs.{Nonneg, zero_mag, zero_val, zero_sized, rounding_nonneg, product_nonneg}

-- ---- one half
pub half_twice : mag ½ᶠ * 2 ≡ U
unfolding of_bits mag U
half_twice = refl

pub half_sized : Sized ½ᶠ 1
half_sized = record { num = unfold of_bits fits in record { fit = tt; fine = tt }; size = unfold of_bits mag U in lit≤ tt }

pub half_nonneg : Nonneg ½ᶠ
unfolding of_bits sgn
half_nonneg = omega arith

-- ½ * (lo + hi)
abbrev pub middle : Float → Float → Float
middle lo hi = ½ᶠ *ᶠ (lo +ᶠ hi)

pub record Middle (lo hi m : Float) (k : ℕ) : Type 0 where
  pub sized : Sized m k
  pub nonneg : Nonneg m
  pub low : mag lo ≤ mag m
  pub high : mag m ≤ mag hi

-- a number that is not negative, of size g at least or at most
at_least : (s : Bool) (m g : ℕ) → signed false g ≼ signed s m → g ≤ m
at_least false m g h = omega arith
at_least true m g h = omega arith

at_most : (s : Bool) (m g : ℕ) → nat 0 ≼ signed s m → signed s m ≼ signed false g → m ≤ g
at_most false m g o h = omega arith
at_most true m g o h = omega arith

-- half of t against m, where a is one half and u is 1
doubled : (m a t u : ℕ) → a * 2 ≡ u → 2 * m ≤ t → m * u ≤ a * t
doubled m a t u e l = le_trans (le_of_eq (ap (λ (z : ℕ). m * z) (sym e))) (omega (arith, mul-le-mul_left a l))

halved : (m a t u : ℕ) → a * 2 ≡ u → t ≤ 2 * m → a * t ≤ m * u
halved m a t u e l = le_trans (mul-le-mul_left a l) (omega (arith, ap (λ (z : ℕ). m * z) e))

module _ (lo hi : Float) (k : ℕ) (L : Sized lo k) (G : Sized hi k) (h : k + k < E) (ol : Nonneg lo) (og : Nonneg hi) (o : mag lo ≤ mag hi) where
  abbrev total : Float
  total = lo +ᶠ hi

  total_sized : Sized total (k + k)
  total_sized = add_sized L G h

  total_law : Rounding total (val lo ⊕ val hi)
  total_law = add_of_finite lo hi L.num G.num total_sized.num.fine

  total_nonneg : Nonneg total
  total_nonneg = rounding_nonneg total_law (omega (arith, ol, og))

  total_least : 2 * mag lo ≤ mag total
  total_least =
      at_least (sgn total) (mag total) (2 * mag lo)
      (total_law.least false (2 * mag lo) (digits_twice (digits lo L.num)) (omega (arith, plain (sgn lo) (mag lo) ol, plain (sgn hi) (mag hi) og)))

  total_most : mag total ≤ 2 * mag hi
  total_most =
      at_most (sgn total) (mag total) (2 * mag hi) total_nonneg
      (total_law.most false (2 * mag hi) (digits_twice (digits hi G.num)) (omega (arith, plain (sgn lo) (mag lo) ol, plain (sgn hi) (mag hi) og)))

  half_law : Product ½ᶠ total (middle lo hi)
  half_law = mul_of_finite ½ᶠ total half_sized.num total_sized.num (mul_sized half_sized total_sized (omega arith)).num.fine

  pub middle_between : Middle lo hi (middle lo hi) k
  middle_between =
      let low = half_law.least (mag lo) (digits lo L.num) (doubled (mag lo) (mag ½ᶠ) (mag total) U half_twice total_least) in
      let high = half_law.most (mag hi) (digits hi G.num) (halved (mag hi) (mag ½ᶠ) (mag total) U half_twice total_most) in
      record {
        sized = record { num = half_law.num; size = le_trans high G.size };
        nonneg = product_nonneg ½ᶠ total (middle lo hi) half_law half_nonneg total_nonneg;
        low = low;
        high = high;
      }

-- ---- of 0 and twice g
pub half_exact : (hi : Float) (k g : ℕ) → Sized hi k → k + k < E → Nonneg hi → Digits g → mag hi ≡ 2 * g → mag (middle 0ᶠ hi) ≡ g
half_exact hi k g G h o d e =
    let L : Sized 0ᶠ k = wider (omega arith) zero_sized in
    let oz : Nonneg 0ᶠ = rw zero_val (omega arith) in
    let l : mag 0ᶠ ≤ mag hi = rw zero_mag (omega arith) in
    let t = total_law 0ᶠ hi k L G h oz o l in
    let p = half_law 0ᶠ hi k L G h oz o l in
    let v = plain (sgn hi) (mag hi) o in
    let low : mag hi ≤ mag (0ᶠ +ᶠ hi) =
    at_least (sgn (0ᶠ +ᶠ hi)) (mag (0ᶠ +ᶠ hi)) (mag hi) (t.least false (mag hi) (digits hi G.num) (rw zero_val (omega arith))) in
    let high : mag (0ᶠ +ᶠ hi) ≤ mag hi =
    at_most (sgn (0ᶠ +ᶠ hi)) (mag (0ᶠ +ᶠ hi)) (mag hi) (total_nonneg 0ᶠ hi k L G h oz o l)
    (t.most false (mag hi) (digits hi G.num) (rw zero_val (omega arith))) in
    le_antisymm (p.most g d (halved g (mag ½ᶠ) (mag (0ᶠ +ᶠ hi)) U half_twice (omega arith)))
    (p.least g d (doubled g (mag ½ᶠ) (mag (0ᶠ +ᶠ hi)) U half_twice (omega arith)))
