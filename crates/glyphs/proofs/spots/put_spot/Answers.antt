-- `put_spot` meets its contract: two floats of the list are written.
-- Rests on nothing but the definition.
use Rattle.std.proofs.Common.{refl, arith, length-set}
use Rattle.glyphs.specs.Spots.{put_spot}
use Rattle.glyphs.proofs.spots.put_spot.Goals as goal

pub bounds-spots-a-2 : goal.bounds-spots-a-2
unfolding put_spot
bounds-spots-a-2 c = simp length-set (omega arith)

pub returns : goal.returns
unfolding put_spot
returns c = refl
