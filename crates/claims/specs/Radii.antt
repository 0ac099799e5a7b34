-- The radius under a ceiling of 2 ^ -10 at least is 2 ^ -21 at least, and the ceiling at most.
-- Rests on the search's least success: a 1,024th of the ceiling, and half of it where there are obstacles.
use Rattle.std.specs.Prelude.{ℕ, ◌*◌, ◌≤◌}
use Rattle.std.specs.Float.Ieee.{Float}
use Rattle.rounding.specs.Value.{U, mag}
use Rattle.rounding.specs.Bounds.{Sized}
use Rattle.rounding.specs.Signs.{Nonneg}

-- a radius that spots are placed with, at most k
pub record Usable (r : Float) (k : ℕ) : Type 0 where
  pub sized : Sized r k
  pub nonneg : Nonneg r
  pub least : U ≤ mag r * 2097152
