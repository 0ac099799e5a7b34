-- `spots_before` meets its contract: the front of the list.
-- Rests on the law that the points of a list's front are the front of its points.
use Rattle.std.proofs.Common.{arith, length-take}
use Rattle.glyphs.specs.Spots.{spots_take}
use Rattle.glyphs.proofs.spots.spots_before.Goals as goal

pub slice_bounds-result-end : goal.slice_bounds-result-end
slice_bounds-result-end c = simp length-take (omega arith)

pub returns : goal.returns
returns c = rw spots_take
