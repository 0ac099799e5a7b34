-- `rings_square` meets its contract. The invariant: the answer is that of the rings which are left, from `best` on.
-- Rests on what the iterator yields.
use Rattle.regions.specs.Squares.{least_of_rings, infinite}
use Rattle.regions.proofs.clearance.rings_square.Goals as goal

pub loop-ring-init : goal.loop-ring-init
unfolding least_of_rings
loop-ring-init c = (tt, tt, rw (infinite, c.into_iter-ring-iterator.ensures.into_iter_gives))
