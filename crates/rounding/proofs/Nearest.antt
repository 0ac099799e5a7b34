-- How far `round` goes: in units of the format's smallest value it takes n / den to a whole number of units, off by a 2 ^
-- -prec-th of either and, where digits below a unit are lost, half a unit.
-- Rests on the kit's account of `round` (`kept`, `drop`, `closest`).
use Rattle.std.proofs.Common.{mul-le-mul_right, arith}
use Prim.Native.Nat.{ℕ, ◌+◌, ◌*◌, ◌≤◌}
use Rattle.rounding.specs.Relative.{Near}

-- ---- the nearest whole number: at most half of the divisor away
pub record Half (a b e : ℕ) : Type 0 where
  pub above : a ≤ b + e
  pub below : b ≤ a + e

-- ---- from half a step to the error in proportion. The result is q steps of K units; h is the least q of full length, and 2 * h stands for 2 ^ prec
pub no_drop : (h q n den : ℕ) → Half (q * (den * 1) * 2) (n * 2) (den * 1) → Near (h * 2) 1 (den * h) (q * 1 * den) n
no_drop h q n den w = record { above = omega (arith, mul-le-mul_right h w.above); below = omega (arith, mul-le-mul_right h w.below) }

pub full : (h q n den K : ℕ) → Half (q * (den * K) * 2) (n * 2) (den * K) → h * K * den ≤ n → h ≤ q → Near (h * 2) 1 0 (q * K * den) n
full h q n den K w f g = record {
  above = omega (arith, mul-le-mul_right h w.above);
  below = omega (arith, mul-le-mul_right h w.below, mul-le-mul_right (K * den) g);
}
