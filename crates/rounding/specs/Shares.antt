-- A share n * max(w / total, 0), each operation rounded and the total too, against the exact share n * w / sum: 2 ^ -25 away at most.
-- Rests on `Errors` and `Relative`: a sum of up to 16 numbers is off by 32 / 2 ^ 53 at most, and n is 2,000 at most.
use Rattle.std.specs.Prelude.{ℕ, ◌+◌, ◌*◌, ◌≤◌, ◌<◌, Float}
use Rattle.std.proofs.Common.{le_of_mul-le-mul_right, mul-le-mul, mul-le-mul_right, mul-le-mul_left, arith}
use mathlib.Core.List.{List, [], ◌∷◌}
use Rattle.std.proofs.Math.Dec.{lit≤}
use Rattle.std.specs.Float.Ieee.{neg, of_bits, fits}
use Rattle.float.specs.Ops.{◌*ᶠ◌, ◌/ᶠ◌, 0ᶠ, -0ᶠ}
use Rattle.float.specs.Order.{max}
use Rattle.float.specs.Whole.{as_f64}
use Rattle.rounding.specs.Relative.{Under, Near, chain, scale}
use Rattle.rounding.specs.Value.{U, E, sgn, mag, Num}
use Rattle.rounding.specs.Bounds.{Sized}
use Rattle.rounding.specs.Signs.{Nonneg}
use Rattle.rounding.specs.Distance.{tiny}

-- ---- the sum of weights that are finite and not negative
pub record Weight (w : Float) : Type 0 where
  pub num : Num w
  pub nonneg : Nonneg w

pub data Weights : List Float → Type 0 where
  none : Weights []
  more : {w : Float} {ws : List Float} → Weight w → Weights ws → Weights (w ∷ ws)

-- their exact sum, in units
unfoldable pub sum : List Float → ℕ
sum [] = 0
sum (w ∷ ws) = mag w + sum ws

-- where a sum starts
pub minus_zero : Weight -0ᶠ
unfolding of_bits neg fits sgn mag U
minus_zero = record { num = record { fit = tt; fine = tt }; nonneg = lit≤ tt }

-- weights.iter().sum(), of 16 at most
pub record Summed (z : Float) (W : ℕ) : Type 0 where
  pub num : Num z
  pub nonneg : Nonneg z
  pub near : Near E 32 0 (mag z) W

-- bounds under which the sum is finite
pub data All (k : ℕ) : List Float → Type 0 where
  none : All k []
  more : {w : Float} {ws : List Float} → Sized w k → All k ws → All k (w ∷ ws)

-- ---- numbers only: d is w / T rounded, z is N * d rounded, T is W rounded. h stands for H, h * 2 for E
module _ (h z N d T w u W : ℕ) (h0 : 0 < h) (few : 96 ≤ h * 2) (q : Near (h * 2) 1 (T * h) (d * T) (w * u))
    (p : Near (h * 2) 1 h z (N * d)) (t : Near (h * 2) 32 0 T W) where
  e0 : 0 < h * 2
  e0 = omega (arith, h0)

  over : Under (h * 2) 36 (2 * (h * T + 2 * (T * h * N))) (z * W) (N * w * u)
  over =
      let a : Under (h * 2) 1 (h * T) (z * T) (N * d * T) = scale (h * 2) e0 1 h z (N * d) T p.above in
      let b : Under (h * 2) 1 (T * h * N) (N * d * T) (N * w * u) = omega (arith, mul-le-mul_left N q.above) in
      let c : Under (h * 2) 3 (h * T + 2 * (T * h * N)) (z * T) (N * w * u) =
      chain (h * 2) e0 1 1 (h * T) (T * h * N) (z * T) (N * d * T) (N * w * u) (omega (arith, h0)) (omega (arith, h0)) a b in
      let g : Under (h * 2) 32 0 (z * W) (z * T) = omega (arith, mul-le-mul_left z t.below) in
      omega (arith, chain (h * 2) e0 32 3 0 (h * T + 2 * (T * h * N)) (z * W) (z * T) (N * w * u) (omega (arith, few)) (omega (arith, few)) g c)

  under : Under (h * 2) 36 (T * h * N + 2 * (h * T)) (N * w * u) (z * W)
  under =
      let a : Under (h * 2) 1 (h * T) (N * d * T) (z * T) = scale (h * 2) e0 1 h (N * d) z T p.below in
      let b : Under (h * 2) 1 (T * h * N) (N * w * u) (N * d * T) = omega (arith, mul-le-mul_left N q.below) in
      let c : Under (h * 2) 3 (T * h * N + 2 * (h * T)) (N * w * u) (z * T) =
      chain (h * 2) e0 1 1 (T * h * N) (h * T) (N * w * u) (N * d * T) (z * T) (omega (arith, h0)) (omega (arith, h0)) b a in
      let g : Under (h * 2) 32 0 (z * T) (z * W) = omega (arith, mul-le-mul_left z t.above) in
      omega (arith, chain (h * 2) e0 3 32 (T * h * N + 2 * (h * T)) 0 (N * w * u) (z * T) (z * W) (omega (arith, few)) (omega (arith, few)) c g)

  -- r is the error allowed
  module _ (r : ℕ) (N0 : N ≤ 2000) (w0 : w ≤ W) (T0 : T ≤ W * 2) (room : 72000 * u + 36 * r + 32008 * h ≤ r * (h * 2)) where
    pub low : z * W ≤ N * w * u + W * r
    low =
        let a = mul-le-mul N0 w0 in
        let b = mul-le-mul T0 N0 in
        le_of_mul-le-mul_right {k = h * 2} (omega (arith, over, mul-le-mul_left W room, mul-le-mul_right u a, mul-le-mul_right h b, mul-le-mul_right h T0)) e0

    pub high : N * w * u ≤ z * W + W * r
    high =
        let a = mul-le-mul N0 w0 in
        let b = mul-le-mul T0 N0 in
        le_of_mul-le-mul_right {k = h * 2}
        (omega (arith, under, low, mul-le-mul_left W room, mul-le-mul_right u a, mul-le-mul_right h b, mul-le-mul_right h T0)) e0

-- ---- the floats
-- 2 ^ -25, in units
abbrev pub bit25 : ℕ
bit25 = 32 * tiny

-- n as f64 * (w / total).max(0.0)
abbrev pub share_of : ℕ → Float → Float → Float
share_of n total w = as_f64 n *ᶠ max (w /ᶠ total) 0ᶠ

-- z is n * w / W, but for 2 ^ -25; both times W
pub record Share (z : Float) (n w W : ℕ) : Type 0 where
  pub num : Num z
  pub nonneg : Nonneg z
  pub low : mag z * W ≤ n * w * U + W * bit25
  pub high : n * w * U ≤ mag z * W + W * bit25
