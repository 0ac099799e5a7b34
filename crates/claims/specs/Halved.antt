-- The radius that a search finds under a ceiling of 2 ^ -10 at least is a 1,024th of the ceiling at least, and the ceiling at most.
-- Rests on halving being exact: until a trial succeeds the upper end is the ceiling over a power of two, and the search ends once that is a 1,024th.
use Rattle.std.specs.Prelude.{◌≡◌, Float, None, Some, Option}
use Rattle.std.proofs.Common.{◌∙◌, inl, inr, le_of_eq, le_of_lt, mul-le-mul, pow-add, pow_mono}
use Rattle.std.proofs.Math.Path.{ap}
use Prim.Native.Nat.{ℕ, ◌+◌, ◌-◌, ◌*◌, ◌^◌, ◌≤◌, ◌<◌}
use Rattle.std.proofs.Math.Nat.{le_trans}
use native.Mathlib.Omega.{arith}
use Rattle.std.proofs.Math.Dec.{lit≤}
use Rattle.laws.specs.Orders.{lt_or_le}
use Rattle.rounding.specs.Value.{U, E, mag, digits}
use Rattle.rounding.specs.Bounds.{Sized}
use Rattle.rounding.specs.Signs.{Nonneg}

-- ---- the ceiling: q * 2 ^ (b + 10) units, so that a 1,024th of it is q * 2 ^ b
pub record Ceiling (r : Float) : Type 0 where
  pub sized : Sized r 65536
  pub nonneg : Nonneg r
  pub q : ℕ
  pub b : ℕ
  pub small : q < E
  pub is : mag r ≡ q * 2 ^ (b + 10)
  pub least : U ≤ 1048576 * (q * 2 ^ b)

abbrev pub part : {r : Float} → Ceiling r → ℕ
part c = c.q * 2 ^ c.b

pub part_is : {r : Float} (c : Ceiling r) → mag r ≡ 1024 * part c
part_is c = c.is ∙ ap (λ (z : ℕ). c.q * z) (pow-add 2 c.b 10) ∙ regroup c.q (2 ^ c.b)
  where
    regroup : (q p : ℕ) → q * (p * 1024) ≡ 1024 * (q * p)
    regroup q p = omega arith

-- a ceiling of 2 ^ -10 at least is a whole number of 1,024 units: of fewer digits below it there is no such float
big : 1048576 * E * 2 ≤ U
unfolding U
big = lit≤ tt

fine_clash : (m : ℕ) → m ≤ E * 1024 → U ≤ 1024 * m → ⊥
fine_clash m h l = omega (arith, big)

least_part : (q b : ℕ) → 1024 * (q * 2 ^ (b + 10)) ≡ 1048576 * (q * 2 ^ b)
least_part q b = ap (λ (z : ℕ). 1024 * (q * z)) (pow-add 2 b 10) ∙ regroup q (2 ^ b)
  where
    regroup : (q p : ℕ) → 1024 * (q * (p * 1024)) ≡ 1048576 * (q * p)
    regroup q p = omega arith

pub ceiling : (r : Float) → Sized r 65536 → Nonneg r → U ≤ 1024 * mag r → Ceiling r
ceiling r S o l =
    let d = digits r S.num in
    elim (lt_or_le d.j 10) [
      | inl h ↦ absurd (fine_clash (mag r) (le_trans (le_of_eq d.is) (mul-le-mul (le_of_lt d.small) (pow_mono {j = 10} (le_of_lt h)))) l)
      | inr h ↦
          let e : mag r ≡ d.q * 2 ^ (d.j - 10 + 10) = d.is ∙ ap (λ (z : ℕ). d.q * 2 ^ z) (omega (arith, h)) in
          record {
            sized = S;
            nonneg = o;
            q = d.q;
            b = d.j - 10;
            small = d.small;
            is = e;
            least = le_trans l (le_of_eq (ap (λ (z : ℕ). 1024 * z) e ∙ least_part d.q (d.j - 10)));
          }
    ]

-- ---- what is found
pub record Found (r-hi : Float) (c : Ceiling r-hi) (r : Float) : Type 0 where
  pub sized : Sized r 65536
  pub nonneg : Nonneg r
  pub low : part c ≤ mag r
  pub high : mag r ≤ mag r-hi

abbrev pub Good : (r-hi : Float) → Ceiling r-hi → Option Float → Type 0
Good r-hi c None = Unit {0}
Good r-hi c (Some r) = Found r-hi c r
