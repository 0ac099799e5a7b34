-- `apart` meets its contract: one comparison.
-- Rests on what `squared_distance` ensures.
use Rattle.glyphs.specs.Spots.{apart}
use Rattle.glyphs.proofs.spots.apart.Goals as goal

pub returns : goal.returns
unfolding apart
returns c = rw c.squared_distance.ensures
