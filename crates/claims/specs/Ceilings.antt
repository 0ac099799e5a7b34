-- The ceiling of a job's radius is 1,031 at most.
-- Rests on the bound of a deepest point's clearance: a zone's bound is no more than that.
use Rattle.std.specs.Float.Ieee.{Float}
use Rattle.rounding.specs.Bounds.{Sized}
use Rattle.rounding.specs.Signs.{Nonneg}

-- what is known of the ceiling
pub record Top (r-hi : Float) : Type 0 where
  pub sized : Sized r-hi 1031
  pub nonneg : Nonneg r-hi
