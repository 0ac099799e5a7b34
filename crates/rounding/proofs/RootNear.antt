-- The nearest root in units, g, of a whole number n of units squared: it is near √n, and a number of 53 digits stays on its
-- side. A root is compared by squares.
-- Rests on the root being nearest, and its digits all there.
use Rattle.std.specs.Prelude.{◌≡◌, refl}
use Rattle.std.proofs.Common.{le_trans, lt_of_lt_of_le, lt_of_le_of_lt, lt_of_not-le, not-le_of_lt, le_of_suc-le-suc, mul-le-mul_right, arith, pow_mono}
use Prim.Native.Nat.{ℕ, ◌+◌, ◌*◌, ◌/◌, ◌^◌, ◌≤◌}
use Rattle.std.specs.Float.Ieee.{size}
use Rattle.std.specs.Float.Ieee.Digits.{size-lt}
use Rattle.float.specs.Laws.Floor.{whole_part, root_lt}
use Rattle.float.specs.Laws.Nearest.{Nearest}
use Rattle.rounding.specs.Value.{E, H}
use Rattle.rounding.specs.Root.{Dropped, NearRoot, above, dropped, full_lead, half_least, half_most, none, own, part, part_most, rest, root, some, steps}
use Rattle.rounding.proofs.Root.{in_part}

part_least : (n a : ℕ) → a * a ≤ n → a ≤ part n
part_least n a h = le_of_suc-le-suc (lt_of_lt_of_le (root_lt (lt_of_le_of_lt h (whole_part n).1)) (omega arith))

of_part : (h b r K : ℕ) → 2 * (r * K) ≤ 2 * b + K → h * K ≤ b → r * K * (h * 2) ≤ b * (h * 2 + 1) + 0
of_part h b r K p q = omega (arith, mul-le-mul_right h p)

near_some : (n k r : ℕ) → H * 2 ^ k ≤ part n → H ≤ r → Nearest n (2 ^ k * 2 ^ k) r → NearRoot 0 n (r * 2 ^ k)
near_some n k r d f c = record {
  least = λ a h. in_part H a r (2 ^ k) (half_least n (2 ^ k) r c a h) (mul-le-mul_right (2 ^ k) f);
  most = λ b h. of_part H b r (2 ^ k) (half_most n (2 ^ k) r c b h) (le_trans d (part_most n b h));
}

near_none : (n r : ℕ) → Nearest n 1 r → NearRoot H n (r * 1)
near_none n r c = record { least = λ a h. omega (arith, half_least n 1 r c a h); most = λ b h. omega (arith, half_most n 1 r c b h) }

weaker : (e n g : ℕ) → NearRoot 0 n g → NearRoot e n g
weaker e n g r = record { least = λ a h. omega (arith, r.least a h); most = λ b h. omega (arith, r.most b h) }

pub near_root : (n : ℕ) → NearRoot H n (root n)
near_root n = go (steps n) (dropped n) (rest n) (above n) (own n)
  where
    go : (k : ℕ) → Dropped n k → (r : ℕ) → part n / 2 ^ k ≤ r → Nearest n (2 ^ k * 2 ^ k) r → NearRoot H n (r * 2 ^ k)
    go k none r l c = near_none n r c
    go k (some j h) r l c = weaker H n (r * 2 ^ j) (near_some n j r h (le_trans (full_lead n j h) l) c)

-- from 2 ^ 106 on nothing is lost below a unit
pub near_root_full : (n : ℕ) → E * E ≤ n → NearRoot 0 n (root n)
near_root_full n l = go (steps n) refl (dropped n) (rest n) (above n) (own n)
  where
    digits : 54 ≤ size (part n)
    digits = lt_of_not-le (λ (g : size (part n) ≤ 53). not-le_of_lt (lt_of_lt_of_le (size-lt (part n)) (pow_mono g)) (part_least n E l))

    go : (k : ℕ) → steps n ≡ k → Dropped n k → (r : ℕ) → part n / 2 ^ k ≤ r → Nearest n (2 ^ k * 2 ^ k) r → NearRoot 0 n (r * 2 ^ k)
    go k e none r i c = absurd (omega (arith, e, digits))
    go k e (some j h) r i c = near_some n j r h (le_trans (full_lead n j h) i) c
