-- `area_step` meets its contract: one turn of the shoelace.
-- Rests on nothing but the definition.
use mathlib.Core.Path.{refl}
use Rattle.regions.specs.Area.{area_step}
use Rattle.regions.proofs.area.area_step.Goals as goal

pub returns : goal.returns
unfolding area_step
returns c = refl
