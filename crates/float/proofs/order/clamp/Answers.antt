-- `float::clamp` meets its contract: its tests are those of the definition.
-- Assumes nothing.
use Rattle.laws.specs.Choice.{picks}
use Rattle.float.specs.Order.{clamp}
use Rattle.float.proofs.order.clamp.Goals as goal

pub returns-then-x-low : goal.returns-then-x-low
unfolding clamp
returns-then-x-low c = search picks

pub returns-then-high-x : goal.returns-then-high-x
unfolding clamp
returns-then-high-x c = search picks

pub returns-else-high-x : goal.returns-else-high-x
unfolding clamp
returns-else-high-x c = search picks
