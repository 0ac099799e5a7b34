-- What is found once for a row and then asked of each of its cells. Definitions only.
use Rattle.std.specs.Prelude.{Float}
use Rattle.lattice.specs.Beside.{BesideOf}
use Rattle.lattice.specs.Level.{Levelled}
use Rattle.lattice.specs.declared.tables.Nearby.{Nearby}

-- what is found is that of the row of height y
pub record Found (y : Float) (nearby : Nearby) : Type 0 where
  pub levelled : Levelled y nearby.level nearby.site
  pub beside_of : BesideOf y nearby.pillars.now nearby.site
