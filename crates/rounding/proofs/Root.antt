-- The nearest root in units, g, of a whole number n of units squared: it is near √n, and a number of 53 digits stays on its
-- side. A root is compared by squares.
-- Rests on the root being nearest, and its digits all there.
use Rattle.std.proofs.Common.{mul-le-mul_right, arith}
use Prim.Native.Nat.{ℕ, ◌+◌, ◌*◌, ◌≤◌}

-- h stands for H, and 2 * h for E
pub in_part : (h a r K : ℕ) → 2 * a ≤ 2 * (r * K) + K → h * K ≤ r * K → a * (h * 2) ≤ r * K * (h * 2 + 1) + 0
in_part h a r K p q = omega (arith, mul-le-mul_right h p)
