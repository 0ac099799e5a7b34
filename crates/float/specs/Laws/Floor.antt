-- `floor_root` is the whole part of the root, and `nearest_root` of a * 4 ^ k, for an a whose root has all the digits that the format keeps, is r * 2 ^ k,
-- for the whole number r nearest to √a. Rests on the kit's count of digits.
use Rattle.std.specs.Prelude.{◌≡◌, ℕ, zero, suc, ◌+◌, ◌-◌, ◌*◌, ◌/◌, ◌^◌}
use Rattle.std.specs.Prelude.{◌<◌, ◌≤◌, Bool, true, false, cond, not, T, nat_le}
use Rattle.std.proofs.Common.{sym, ap, ◌∙◌, subst, le_trans, le_of_eq, lt_of_lt_of_le, lt_of_le_of_lt, lt_of_not-le, not-le_of_lt, mul-le-mul}
use Rattle.std.proofs.Common.{mul-le-mul_right, mul-lt-mul_of_pos_right, lt_of_mul-lt-mul_right, le_of_mul-le-mul_right, mul-pos, mul_assoc, pow-suc}
use Rattle.std.proofs.Common.{zero-lt-suc, div-lt_iff_lt-mul, div-mul-le_self, arith, leb→le, lit≤, pow-add, pow_pos, pow_mono}
use Prim.Native.Nat.{zero-le, compare, Ordering}
use Rattle.std.proofs.Math.Nat.{eq_of_mul-eq-mul_right, mul-mul-mul_comm, pow-le-pow_left, lt-div-mul-add}
use Rattle.std.proofs.Math.Dec.{nleb→lt}
use Rattle.std.specs.Float.{Format}
use Rattle.std.specs.Float.Ieee.{prec, size, nearest, units}
use Rattle.std.specs.Float.Ieee.Digits.{size-lt, size-le}
use Rattle.std.specs.Float.Ieee.Fits.{two, two-le_pos}
use Rattle.laws.specs.Orders.{Says, says}
use Rattle.float.specs.Root.{floor_root, nearest_root, Near}

-- ---- roots are compared by their squares
pub root_lt : {a b : ℕ} → a * a < b * b → a < b
root_lt {a} {b} h = lt_of_not-le (λ (g : b ≤ a). not-le_of_lt h (mul-le-mul g g))

-- ---- the whole part
abbrev pub Floor : ℕ → ℕ → Type 0
Floor n w = (w * w ≤ n) × (n < (w + 1) * (w + 1))

-- one digit: from the whole part s of √(n / 4) to that of √n
digit : (n s : ℕ) → Floor (n / 4) s → Floor n (cond (nat_le ((2 * s + 1) * (2 * s + 1)) n) (2 * s + 1) (2 * s))
digit n s h = go (nat_le ((2 * s + 1) * (2 * s + 1)) n) (leb→le ((2 * s + 1) * (2 * s + 1)) n) (nleb→lt ((2 * s + 1) * (2 * s + 1)) n)
  where
    go : (b : Bool) → (T b → (2 * s + 1) * (2 * s + 1) ≤ n) → (T (not b) → n < (2 * s + 1) * (2 * s + 1)) → Floor n (cond b (2 * s + 1) (2 * s))
    go true y z = (y tt, omega (arith, h.1))
    go false y z = (omega (arith, h.0), z tt)

pub floor_is : (d n : ℕ) → n < 4 ^ d → Floor n (floor_root d n)
unfolding floor_root
floor_is zero n h = (zero-le, h)
floor_is (suc d) n h = digit n (floor_root d (n / 4)) (floor_is d (n / 4) ((div-lt_iff_lt-mul (zero-lt-suc 3)).1 (lt_of_lt_of_le h (le_of_eq (pow-suc 4 d)))))

pub whole_part : (n : ℕ) → Floor n (floor_root (size n) n)
whole_part n = floor_is (size n) n (lt_of_lt_of_le (size-lt n) (pow-le-pow_left (lit≤ tt) (size n)))

-- ---- rounding the whole part q of √a: where r is nearest, `nearest` finds it, and a tie does not occur
rounded : (o : Ordering) (a q r : ℕ) → Floor a q → Near a r → Says (4 * a) ((2 * q + 1) * (2 * q + 1)) o → nearest q o ≡ r
rounded Ordering.lt a q r f n h =
    let x : 2 * q < 2 * r + 1 = root_lt (omega (arith, f.0, n.1)) in
    let y : 2 * r - 1 < 2 * q + 1 = root_lt (omega (arith, n.0, h)) in
    omega arith
rounded Ordering.eq a q r f n h =
    let x : 2 * q + 1 < 2 * r + 1 = root_lt (omega (arith, n.1, h)) in
    let y : 2 * r - 1 < 2 * q + 1 = root_lt (omega (arith, n.0, h)) in
    absurd (omega arith)
rounded Ordering.gt a q r f n h =
    let x : 2 * q + 1 < 2 * r + 1 = root_lt (omega (arith, n.1, h)) in
    let y : 2 * r - 1 < 2 * (q + 1) = root_lt (omega (arith, n.0, f.1)) in
    omega arith

-- ---- the whole part of √(a * (u * u)), cut to multiples of u, is that of √a
pub cut : (a u w : ℕ) → 0 < u → Floor (a * (u * u)) w → Floor a (w / u)
cut a u w U f = (
  le_of_mul-le-mul_right
      (le_trans (le_of_eq (mul-mul-mul_comm (w / u) (w / u) u u)) (le_trans (mul-le-mul (div-mul-le_self w u) (div-mul-le_self w u)) f.0)) (mul-pos U U),
  lt_of_mul-lt-mul_right (u * u) (lt_of_lt_of_le f.1 (le_trans (mul-le-mul next next) (le_of_eq (mul-mul-mul_comm (w / u + 1) u (w / u + 1) u)))),
)
  where
    next : w + 1 ≤ (w / u + 1) * u
    next = omega (arith, lt-div-mul-add {a = w} U)

-- ---- the digits that are dropped
size_gt : (n j : ℕ) → 2 ^ j ≤ n → j < size n
size_gt n j h = lt_of_not-le (λ (g : size n ≤ j). not-le_of_lt (lt_of_lt_of_le (size-lt n) (pow_mono g)) h)

shifted : (p k : ℕ) → 2 ^ p * 2 ^ p * (2 ^ k * 2 ^ k) ≡ 2 ^ (p + k) * 2 ^ (p + k)
shifted p k = mul-mul-mul_comm (2 ^ p) (2 ^ p) (2 ^ k) (2 ^ k) ∙ ap (λ (x : ℕ). x * x) (sym (pow-add 2 p k))

drops : (p a k w : ℕ) → 0 < p → 2 ^ (p - 1) * 2 ^ (p - 1) ≤ a → a < 2 ^ p * 2 ^ p → Floor (a * (2 ^ k * 2 ^ k)) w → size w - p ≡ k
drops p a k w P l h f =
    let u = 2 ^ k * 2 ^ k in
    let U : 0 < u = mul-pos (pow_pos k) (pow_pos k) in
    let x : size w ≤ p + k = size-le w (p + k) (root_lt (lt_of_le_of_lt f.0 (lt_of_lt_of_le (mul-lt-mul_of_pos_right h U) (le_of_eq (shifted p k))))) in
    let y : 2 ^ (p - 1 + k) < w + 1 = root_lt (lt_of_le_of_lt (le_trans (le_of_eq (sym (shifted (p - 1) k))) (mul-le-mul_right u l)) f.1) in
    let z : p - 1 + k < size w = size_gt w (p - 1 + k) (omega arith) in
    omega arith

-- the square of twice the point halfway between q and q + 1 steps of 2 ^ k
abbrev pub mid : ℕ → ℕ → ℕ
mid q k = (2 * q + 1) * (2 * q + 1) * (2 ^ k * 2 ^ k)

cancel : (o : Ordering) (a b u : ℕ) → 0 < u → Says (a * u) (b * u) o → Says a b o
cancel Ordering.lt a b u U h = lt_of_mul-lt-mul_right u h
cancel Ordering.eq a b u U h = eq_of_mul-eq-mul_right u U a b h
cancel Ordering.gt a b u U h = lt_of_mul-lt-mul_right u h

pub nearest_at :
    (f : Format) (a k r : ℕ) → 2 ^ (prec f - 1) * 2 ^ (prec f - 1) ≤ a → a < 2 ^ prec f * 2 ^ prec f → Near a r
    → nearest_root f (a * (2 ^ k * 2 ^ k)) ≡ units f false r k
unfolding nearest_root
nearest_at f a k r l h n =
    let N = a * (2 ^ k * 2 ^ k) in
    let w = floor_root (size N) N in
    let q = w / 2 ^ k in
    let o = compare (4 * N) (mid q k) in
    let c : Says (4 * a * (2 ^ k * 2 ^ k)) (mid q k) o =
    subst (λ (x : ℕ). Says x (mid q k) o) (sym (mul_assoc 4 a (2 ^ k * 2 ^ k))) (says (4 * N) (mid q k)) in
    ap (λ (j : ℕ). units f false (nearest (w / 2 ^ j) (compare (4 * N) (mid (w / 2 ^ j) j))) j)
    (drops (prec f) a k w (two-le_pos (prec f) (two f)) l h (whole_part N))
    ∙ ap (λ (x : ℕ). units f false x k)
    (rounded o a q r (cut a (2 ^ k) w (pow_pos k) (whole_part N)) n
    (cancel o (4 * a) ((2 * q + 1) * (2 * q + 1)) (2 ^ k * 2 ^ k) (mul-pos (pow_pos k) (pow_pos k)) c))

-- ---- how large such an r is
pub near_le : (a r b : ℕ) → a < b * b → Near a r → r ≤ b
near_le a r b h n = let x : 2 * r - 1 < 2 * b = root_lt (omega (arith, n.0)) in omega arith

pub near_ge : (a r b : ℕ) → b * b ≤ a → Near a r → b ≤ r
near_ge a r b h n = let x : 2 * b < 2 * r + 1 = root_lt (omega (arith, n.1)) in omega arith
