-- `spot` meets its contract: two floats of the list.
-- Rests on nothing but the definition.
use Rattle.std.proofs.Common.{refl}
use Rattle.glyphs.specs.Spots.{spot_at}
use Rattle.glyphs.proofs.spots.spot.Goals as goal

pub returns : goal.returns
unfolding spot_at
returns c = refl
