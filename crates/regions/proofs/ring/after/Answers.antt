-- `after` meets its contract: the next index of a ring.
-- Rests on the choice laws.
use Rattle.laws.specs.Choice.{picks}
use Rattle.regions.specs.Ring.{next}
use Rattle.regions.proofs.ring.after.Goals as goal

pub overflow_add-k : goal.overflow_add-k
unfolding next
overflow_add-k c = search picks

pub returns-then-k-n : goal.returns-then-k-n
unfolding next
returns-then-k-n c = search picks

pub returns : goal.returns
unfolding next
returns c = search picks
