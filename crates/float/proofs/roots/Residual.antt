-- What is left of m * 2 ^ 52 after a square; and that r is nearest to the root, by what is left.
-- Assumes nothing.
use Rattle.std.proofs.Common.{◌≡◌, ℕ, zero, suc, ◌+◌, ◌*◌, ◌/◌, ◌%◌, ◌^◌, ◌<◌}
use Rattle.std.proofs.Common.{◌≤◌, Bool, ltb, inl, inr, mul-le-mul, arith, le-ltb, lt-ltb}
use mir.Val.{bool_byte}
use Rattle.laws.specs.Truth.{flag_le}
use Rattle.laws.specs.Orders.{lt_or_le}
use Rattle.float.specs.Root.{Near}
use Rattle.float.proofs.roots.Digit.{near_suc}

-- ---- what is left, from the halves of 64 bits of the square and of m * 2 ^ 52
pub residual : (m n rest : ℕ) → rest < 2 ^ 64 → (rest + n % 2 ^ 64) % 2 ^ 64 ≡ m % 0x1000 * 2 ^ 52
    → n / 2 ^ 64 + bool_byte (ltb (m % 0x1000 * 2 ^ 52) (n % 2 ^ 64)) ≡ m / 0x1000 → n + rest ≡ m * 2 ^ 52
residual m n rest h e s = elim (lt_or_le (m % 0x1000 * 2 ^ 52) (n % 2 ^ 64)) [
  | inl l ↦ let b : bool_byte (ltb (m % 0x1000 * 2 ^ 52) (n % 2 ^ 64)) ≡ 1 = rw (lt-ltb _ _ l) in omega (arith, b)
  | inr g ↦ let b : bool_byte (ltb (m % 0x1000 * 2 ^ 52) (n % 2 ^ 64)) ≡ 0 = rw (le-ltb _ _ g) in omega (arith, b)
]

-- what is added fits
pub high_fits : (r h : ℕ) (b : Bool) → r < 2 ^ 54 → h ≡ r * r / 2 ^ 64 → h + bool_byte b < 2 ^ 64
high_fits r h b l e =
    let p : r ≤ 0x3f_ffff_ffff_ffff = omega arith in
    let q : h < 2 ^ 44 = omega (arith, mul-le-mul p p) in
    omega (arith, q, flag_le b)

pub rest_fits : (r d k : ℕ) → r < 2 ^ 54 → k < 2 ^ 60 → d ≤ r + k → d + r < 2 ^ 64
rest_fits r d k l m h = omega arith

-- ---- r is nearest where that is 2 ^ 53, give or take r, of 2 ^ 53 more
pub nearest : (y r d : ℕ) → r * r + d ≡ y + 2 ^ 53 → 2 ^ 53 < d + r → d ≤ r + 2 ^ 53 → Near y r
nearest y zero d e l h = absurd (omega arith)
nearest y (suc p) d e l h = near_suc y p (omega arith) (omega arith)
