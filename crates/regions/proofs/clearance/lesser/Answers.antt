-- `lesser` meets its contract: the first of two where it is strictly smaller.
-- Rests on the choice laws.
use Rattle.laws.specs.Choice.{picks}
use Rattle.regions.specs.Clearance.{closer}
use Rattle.regions.proofs.clearance.lesser.Goals as goal

pub returns-then-d-best : goal.returns-then-d-best
unfolding closer
returns-then-d-best c = search picks

pub returns : goal.returns
unfolding closer
returns c = search picks
