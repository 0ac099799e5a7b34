-- The numbers of a job: a coordinate counted in 1 / 1,024 or 1 / 65,536 is 1,024 at most; the spacing 2 * r * (1 + gap) is
-- from 2 ^ -20 to 36,864, as `Spacing`, `Lattice` and `Cells` ask, and the inset r * (1 + gap) is 17 times a bound of r.
-- Rests on `Bounds`. A radius above 0 is 2 ^ -21 to 1,084, and a gap 0 to 16.
use Rattle.std.specs.Prelude.{◌≤◌, Float}
use Rattle.rounding.specs.Value.{U, mag}
use Rattle.rounding.specs.Bounds.{Sized}
use Rattle.rounding.specs.Signs.{Nonneg}

-- 1 + gap is 1 to 17
pub record Factor (f : Float) : Type 0 where
  pub sized : Sized f 17
  pub nonneg : Nonneg f
  pub least : U ≤ mag f
