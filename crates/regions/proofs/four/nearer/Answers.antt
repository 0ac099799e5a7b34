-- `nearer` meets its contract: an edge taken into account for each of four places.
-- Rests on the contracts of what it calls.
use Rattle.regions.specs.Four.{first, second, third, fourth, at}
use Rattle.regions.proofs.four.nearer.Goals as goal

pub returns : goal.returns
unfolding at
returns c first = c.closer_edge.ensures
returns c second = c.closer_edge-2.ensures
returns c third = c.closer_edge-3.ensures
returns c fourth = c.closer_edge-4.ensures
