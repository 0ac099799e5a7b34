-- `float::max` meets its contract: its tests are those of the definition.
-- Rests on what the library's test for a NaN ensures.
use Rattle.laws.specs.Choice.{picks}
use Rattle.float.specs.Order.{max}
use Rattle.float.proofs.order.max.Goals as goal

pub returns-then-is_nan : goal.returns-then-is_nan
unfolding max
returns-then-is_nan c = rw (← c.is_nan.ensures.value, c.if-is_nan.true) (search picks)

pub returns-then-a-b : goal.returns-then-a-b
unfolding max
returns-then-a-b c = rw (← c.is_nan.ensures.value, c.if-is_nan.false) (search picks)

pub returns-else-a-b : goal.returns-else-a-b
unfolding max
returns-else-a-b c = rw (← c.is_nan.ensures.value, c.if-is_nan.false) (search picks)
