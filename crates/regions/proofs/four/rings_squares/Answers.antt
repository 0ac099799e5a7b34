-- `rings_squares` meets its contract. The invariant: the answers are those of the rings which are left, from `best` on.
-- Rests on what the iterator yields.
use Rattle.float.specs.Ops.{◌/ᶠ◌, 0ᶠ, 1ᶠ}
use Rattle.regions.specs.Squares.{least_of_rings, infinite}
use Rattle.regions.specs.Four.{all_at}
use Rattle.regions.proofs.four.rings_squares.Goals as goal

pub loop-ring-init : goal.loop-ring-init
unfolding least_of_rings
loop-ring-init c = (tt, tt, λ k. rw (all_at k (1ᶠ /ᶠ 0ᶠ), infinite, c.into_iter-ring-iterator.ensures.into_iter_gives))
