-- `nearest_root` is IEEE 754's rounding, for every n: its result is q steps of 2 ^ k, √n lies no further than half a step from it, and at a tie q is even.
-- Both sides of a comparison with √n are doubled and squared. Rests on `Laws/Floor.antt`.
use Rattle.std.specs.Prelude.{◌≡◌, ℕ, ◌+◌, ◌-◌, ◌*◌, ◌%◌, ◌≤◌}

-- q steps are nearest to √n, where u is the square of a step
pub record Nearest (n u q : ℕ) : Type 0 where
  pub low : (2 * q - 1) * (2 * q - 1) * u ≤ 4 * n
  pub high : 4 * n ≤ (2 * q + 1) * (2 * q + 1) * u
  pub even_low : (2 * q - 1) * (2 * q - 1) * u ≡ 4 * n → q % 2 ≡ 0
  pub even_high : 4 * n ≡ (2 * q + 1) * (2 * q + 1) * u → q % 2 ≡ 0
