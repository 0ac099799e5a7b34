-- How far `round` goes: in units of the format's smallest value it takes n / den to a whole number of units, off by a 2 ^
-- -prec-th of either and, where digits below a unit are lost, half a unit.
-- Rests on the kit's account of `round` (`kept`, `drop`, `closest`).
use Rattle.std.specs.Prelude.{◌≡◌, refl}
use Rattle.std.proofs.Common.{sym, ap, ◌∙◌, subst, le_trans, le_of_eq, mul_assoc, mul_comm, mul-pos}
use Rattle.std.proofs.Common.{le_of_mul-le-mul_right, le-div_iff_mul-le, div-add-mod', mod-lt, arith, pow-add, pow_pos}
use Prim.Native.Nat.{ℕ, zero, suc, ◌+◌, ◌-◌, ◌*◌, ◌/◌, ◌%◌, ◌^◌, ◌≤◌, ◌<◌, compare, Ordering}
use Rattle.std.specs.Float.Ieee.{size, nearest}
use Rattle.std.specs.Float.Ieee.Digits.{size_reaches}
use Rattle.std.specs.Float.Ieee.Nearest.{closest, nearest-ge}
use Rattle.std.specs.Float.Ieee.Order.{drop, kept}
use Rattle.laws.specs.Orders.{Says, says}
use Rattle.rounding.specs.Relative.{Near}
use Rattle.rounding.proofs.Nearest.{Half, full, no_drop}

tie : (w r u j : ℕ) → j < 2 → r * 2 ≡ u → r < u → Half ((w + j) * u * 2) ((w * u + r) * 2) u
tie w r u zero h e l = omega arith
tie w r u (suc zero) h e l = omega arith
tie w r u (suc (suc j)) h e l = absurd (omega arith)

half_at : (o : Ordering) (w r u : ℕ) → Says (r * 2) u o → r < u → Half (nearest w o * u * 2) ((w * u + r) * 2) u
half_at Ordering.lt w r u c l = omega arith
half_at Ordering.eq w r u c l = tie w r u (w % 2) (omega arith) c l
half_at Ordering.gt w r u c l = omega arith

half : (n u : ℕ) → 0 < u → Half (closest n u * u * 2) (n * 2) u
half n u h =
    subst (λ (x : ℕ). Half (closest n u * u * 2) (x * 2) u) (div-add-mod' n u)
    (half_at (compare (n % u * 2) u) (n / u) (n % u) u (says (n % u * 2) u) (mod-lt n h))

-- no digit is dropped, and the fraction is the whole number w: the result is w
whole : (q w den : ℕ) → 0 < den → Half (q * (den * 1) * 2) (w * den * 2) (den * 1) → q ≡ w
whole q w den D e =
    let a : q * 2 ≤ w * 2 + 1 = le_of_mul-le-mul_right (omega (arith, e.above)) D in
    let b : w * 2 ≤ q * 2 + 1 = le_of_mul-le-mul_right (omega (arith, e.below)) D in
    omega arith

-- how many digits are dropped: none, or the whole part has all p + 1
data Dropped (p n den : ℕ) : ℕ → Type 0 where
  none : Dropped p n den 0
  some : (k : ℕ) → 2 ^ p * 2 ^ k * den ≤ n → Dropped p n den k

dropped : (p n den : ℕ) → 0 < den → Dropped p n den (drop (suc p) n den)
dropped p n den D = go (drop (suc p) n den) refl
  where
    long : (z k : ℕ) → z - suc p ≡ suc k → p + suc k < z
    long z k e = omega arith

    go : (k : ℕ) → drop (suc p) n den ≡ k → Dropped p n den k
    go zero e = none
    go (suc k) e =
        some (suc k)
        ((le-div_iff_mul-le D).0
        (le_trans (le_of_eq (sym (pow-add 2 p (suc k)))) (size_reaches (n / den) (p + suc k) (long (size (n / den)) k e))))

-- n reaches h steps of den * K, and so does what is nearest
reaches : (h n den K : ℕ) → 0 < den → 0 < K → h * K * den ≤ n → h ≤ closest n (den * K)
reaches h n den K D K0 f =
    let u = den * K in
    let e : h * (den * K) ≡ h * K * den = ap (λ (z : ℕ). h * z) (mul_comm den K) ∙ sym (mul_assoc h K den) in
    le_trans ((le-div_iff_mul-le (mul-pos D K0)).1 (le_trans (le_of_eq e) f)) (nearest-ge (n / u) (compare (n % u * 2) u))

-- THE ROUNDING LAW, for a format of p + 1 digits: the result of rounding n / den against n / den, both times den
pub rounds : (p n den : ℕ) → 0 < den → Near (2 ^ p * 2) 1 (den * 2 ^ p) (kept (suc p) n den * 2 ^ drop (suc p) n den * den) n
rounds p n den D = go (drop (suc p) n den) (dropped p n den D)
  where
    go : (k : ℕ) → Dropped p n den k → Near (2 ^ p * 2) 1 (den * 2 ^ p) (closest n (den * 2 ^ k) * 2 ^ k * den) n
    go k none = no_drop (2 ^ p) (closest n (den * 1)) n den (half n (den * 1) (mul-pos D (pow_pos 0)))
    go k (some j h) =
        let w =
        full (2 ^ p) (closest n (den * 2 ^ j)) n den (2 ^ j) (half n (den * 2 ^ j) (mul-pos D (pow_pos j))) h (reaches (2 ^ p) n den (2 ^ j) D (pow_pos j) h) in
        record { above = omega (arith, w.above); below = omega (arith, w.below) }

-- where the fraction is a whole number of units, w, there is no error but the one in proportion
pub rounds_whole : (p w den : ℕ) → 0 < den → Near (2 ^ p * 2) 1 0 (kept (suc p) (w * den) den * 2 ^ drop (suc p) (w * den) den) w
rounds_whole p w den D = go (drop (suc p) (w * den) den) (dropped p (w * den) den D)
  where
    go : (k : ℕ) → Dropped p (w * den) den k → Near (2 ^ p * 2) 1 0 (closest (w * den) (den * 2 ^ k) * 2 ^ k) w
    go k none =
        let e : closest (w * den) (den * 1) ≡ w = whole (closest (w * den) (den * 1)) w den D (half (w * den) (den * 1) (mul-pos D (pow_pos 0))) in
        subst (λ (q : ℕ). Near (2 ^ p * 2) 1 0 (q * 1) w) (sym e) (omega arith)
    go k (some j h) =
        let q = closest (w * den) (den * 2 ^ j) in
        let x =
        full (2 ^ p) q (w * den) den (2 ^ j) (half (w * den) (den * 2 ^ j) (mul-pos D (pow_pos j))) h (reaches (2 ^ p) (w * den) den (2 ^ j) D (pow_pos j) h) in
        record {
          above = le_of_mul-le-mul_right (omega (arith, x.above)) D;
          below = le_of_mul-le-mul_right (omega (arith, x.below)) D;
        }
