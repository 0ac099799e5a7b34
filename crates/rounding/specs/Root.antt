-- The nearest root in units, g, of a whole number n of units squared: it is near √n, and a number of 53 digits stays on its
-- side. A root is compared by squares.
-- Rests on the root being nearest, and its digits all there.
use Rattle.std.specs.Prelude.{◌≡◌, refl}
use Rattle.std.proofs.Common.{sym, ap, ◌∙◌, subst, inl, inr, le_trans, le_of_eq, le_of_lt, lt_of_lt_of_le, lt_of_le_of_lt, lt_of_not-le}
use Rattle.std.proofs.Common.{not-le_of_lt, le_of_suc-le-suc, div-mul-le_self, mul-pos, mul-le-mul, mul-le-mul_left, mul-le-mul_right}
use Rattle.std.proofs.Common.{le_of_mul-le-mul_right, mul-lt-mul_of_pos_right, mul_assoc, le-div_iff_mul-le, arith, pow-add, pow_pos, pow_mono}
use Prim.Native.Nat.{ℕ, zero, suc, ◌+◌, ◌-◌, ◌*◌, ◌/◌, ◌^◌, ◌≤◌, ◌<◌, zero-le, compare}
use Rattle.std.proofs.Math.Nat.{lt-div-mul-add, pow-succ', mul-mul-mul_comm}
use Rattle.std.specs.Float.Ieee.{size, nearest}
use Rattle.std.specs.Float.Ieee.Digits.{size_reaches}
use Rattle.std.specs.Float.Ieee.Nearest.{nearest-ge}
use Rattle.laws.specs.Orders.{says, lt_or_le}
use Rattle.float.specs.Root.{floor_root}
use Rattle.float.specs.Laws.Floor.{whole_part, mid}
use Rattle.float.specs.Laws.Nearest.{Nearest}
use Rattle.float.proofs.Laws.Nearest.{nearest_of}
use Rattle.rounding.specs.Relative.{Under}
use Rattle.rounding.specs.Value.{E, H, Digits, pow_split}

pub root_le : {a b : ℕ} → a * a ≤ b * b → a ≤ b
root_le {a} {b} h = le_of_suc-le-suc (lt_of_not-le (λ (g : suc b ≤ a). absurd (omega (arith, h, mul-le-mul g g))))

-- ---- the parts of a root: of its whole part the 53 leading digits, the number of digits dropped, and the digits rounded
abbrev pub part : ℕ → ℕ
part n = floor_root (size n) n

abbrev pub steps : ℕ → ℕ
steps n = size (part n) - 53

abbrev pub lead : ℕ → ℕ
lead n = part n / 2 ^ steps n

abbrev pub rest : ℕ → ℕ
rest n = nearest (lead n) (compare (4 * n) (mid (lead n) (steps n)))

-- the root in units
abbrev pub root : ℕ → ℕ
root n = rest n * 2 ^ steps n

-- ---- r steps of K are nearest to √n
module _ (n K r : ℕ) (c : Nearest n (K * K) r) where
  pub half_least : (a : ℕ) → a * a ≤ n → 2 * a ≤ 2 * (r * K) + K
  half_least a h =
      le_trans (root_le {a = 2 * a} {b = (2 * r + 1) * K} (le_trans (omega (arith, h, c.high)) (le_of_eq (mul-mul-mul_comm (2 * r + 1) (2 * r + 1) K K))))
      (omega arith)

  pub half_most : (b : ℕ) → n ≤ b * b → 2 * (r * K) ≤ 2 * b + K
  half_most b h = go r c.low
    where
      go : (r : ℕ) → (2 * r - 1) * (2 * r - 1) * (K * K) ≤ 4 * n → 2 * (r * K) ≤ 2 * b + K
      go zero l = omega arith
      go (suc p) l =
          let e : 2 * suc p - 1 ≡ 2 * p + 1 = omega arith in
          let m : (2 * p + 1) * (2 * p + 1) * (K * K) ≤ 4 * n = rw e at l in
          omega (
            arith,
            root_le {a = (2 * p + 1) * K} {b = 2 * b} (le_trans (le_of_eq (sym (mul-mul-mul_comm (2 * p + 1) (2 * p + 1) K K))) (omega (arith, h, m))),
          )

  -- a number of whole steps stays on its side
  step_least : (a : ℕ) → 0 < K → a * K * (a * K) ≤ n → a ≤ r
  step_least a K0 h = let l : 2 * a ≤ 2 * r + 1 = le_of_mul-le-mul_right {k = K} (omega (arith, half_least (a * K) h)) K0 in omega (arith, l)

  step_most : (b : ℕ) → 0 < K → n ≤ b * K * (b * K) → r ≤ b
  step_most b K0 h = let l : 2 * r ≤ 2 * b + 1 = le_of_mul-le-mul_right {k = K} (omega (arith, half_most (b * K) h)) K0 in omega (arith, l)

-- ---- the digits of n's own root
pub own : (n : ℕ) → Nearest n (2 ^ steps n * 2 ^ steps n) (rest n)
own n =
    let K = 2 ^ steps n in
    let q = lead n in
    let next : part n + 1 ≤ (q + 1) * K = omega (arith, lt-div-mul-add {a = part n} (pow_pos (steps n))) in
    nearest_of n (K * K) q (mul-pos (pow_pos (steps n)) (pow_pos (steps n)))
    (le_trans (le_of_eq (mul-mul-mul_comm q q K K)) (le_trans (mul-le-mul (div-mul-le_self (part n) K) (div-mul-le_self (part n) K)) (whole_part n).0))
    (lt_of_lt_of_le (whole_part n).1 (le_trans (mul-le-mul next next) (le_of_eq (mul-mul-mul_comm (q + 1) K (q + 1) K))))
    (compare (4 * n) (mid q (steps n))) (says (4 * n) (mid q (steps n)))

pub above : (n : ℕ) → lead n ≤ rest n
above n = nearest-ge (lead n) (compare (4 * n) (mid (lead n) (steps n)))

pub part_most : (n b : ℕ) → n ≤ b * b → part n ≤ b
part_most n b h = root_le (le_trans (whole_part n).0 h)

-- no digit is dropped, or the leading ones are all 53
pub data Dropped (n : ℕ) : ℕ → Type 0 where
  none : Dropped n 0
  some : (k : ℕ) → H * 2 ^ k ≤ part n → Dropped n k

pub dropped : (n : ℕ) → Dropped n (steps n)
dropped n = go (steps n) refl
  where
    long : (z k : ℕ) → z - 53 ≡ suc k → 52 + suc k < z
    long z k e = omega arith

    go : (k : ℕ) → steps n ≡ k → Dropped n k
    go zero e = none
    go (suc k) e = some (suc k) (le_trans (le_of_eq (sym (pow-add 2 52 (suc k)))) (size_reaches (part n) (52 + suc k) (long (size (part n)) k e)))

pub full_lead : (n k : ℕ) → H * 2 ^ k ≤ part n → H ≤ part n / 2 ^ k
full_lead n k h = (le-div_iff_mul-le (pow_pos k)).1 h

-- THE ROOT LAW: what is at most √n is at most g but for a 2 ^ -53th, what is at least √n is at least g but for that; and e is what is lost below a unit
pub record NearRoot (e n g : ℕ) : Type 0 where
  pub least : (a : ℕ) → a * a ≤ n → Under E 1 e a g
  pub most : (b : ℕ) → n ≤ b * b → Under E 1 e g b

-- ---- a number of 53 digits stays on its side
short : (q j k : ℕ) → q < E → j < k → q * 2 ^ j < H * 2 ^ k
short q j k h l =
    lt_of_lt_of_le (mul-lt-mul_of_pos_right h (pow_pos j))
    (le_trans (le_of_eq (mul_assoc H 2 (2 ^ j) ∙ ap (λ (z : ℕ). H * z) (sym (pow-succ' 2 j)))) (mul-le-mul_left H (pow_mono l)))

lead_full : (n : ℕ) → 0 < steps n → H * 2 ^ steps n ≤ part n
lead_full n l = go (steps n) l (dropped n)
  where
    go : (k : ℕ) → 0 < k → Dropped n k → H * 2 ^ k ≤ part n
    go k l none = absurd (omega (arith, l))
    go k l (some j h) = h

in_steps : (n q j : ℕ) → steps n ≤ j → q * 2 ^ j ≡ q * 2 ^ (j - steps n) * 2 ^ steps n
in_steps n q j l = ap (λ (z : ℕ). q * z) (pow_split j (steps n) l) ∙ sym (mul_assoc q (2 ^ (j - steps n)) (2 ^ steps n))

module _ (n : ℕ) where
  pub root_least : (a : ℕ) → Digits a → a * a ≤ n → a ≤ root n
  root_least a d h = subst (λ (z : ℕ). z ≤ root n) (sym d.is) (elim (lt_or_le d.j (steps n)) [
    | inl l ↦ le_trans (le_of_lt (short d.q d.j (steps n) d.small l))
        (mul-le-mul_right (2 ^ steps n) (le_trans (full_lead n (steps n) (lead_full n (lt_of_le_of_lt zero-le l))) (above n)))
    | inr l ↦
        let e = in_steps n d.q d.j l in
        let c = d.q * 2 ^ (d.j - steps n) in
        le_trans (le_of_eq e)
        (mul-le-mul_right (2 ^ steps n) (step_least n (2 ^ steps n) (rest n) (own n) c (pow_pos (steps n)) (subst (λ (z : ℕ). z * z ≤ n) (d.is ∙ e) h)))
  ])

  pub root_most : (b : ℕ) → Digits b → n ≤ b * b → root n ≤ b
  root_most b d h = elim (lt_or_le d.j (steps n)) [
    | inl l ↦
        absurd (not-le_of_lt (short d.q d.j (steps n) d.small l)
        (le_trans (lead_full n (lt_of_le_of_lt zero-le l)) (le_trans (part_most n b h) (le_of_eq d.is))))
    | inr l ↦
        let e = in_steps n d.q d.j l in
        let c = d.q * 2 ^ (d.j - steps n) in
        le_trans (mul-le-mul_right (2 ^ steps n)
        (step_most n (2 ^ steps n) (rest n) (own n) c (pow_pos (steps n)) (subst (λ (z : ℕ). n ≤ z * z) (d.is ∙ e) h))) (le_of_eq (sym (d.is ∙ e)))
  ]
