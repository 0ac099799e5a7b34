-- `float::min` meets its contract: its tests are those of the definition.
-- Rests on what the library's test for a NaN ensures.
use Rattle.laws.specs.Choice.{picks}
use Rattle.float.specs.Order.{min}
use Rattle.float.proofs.order.min.Goals as goal

pub returns-then-is_nan : goal.returns-then-is_nan
unfolding min
returns-then-is_nan c = rw (← c.is_nan.ensures.value, c.if-is_nan.true) (search picks)

pub returns-then-b-a : goal.returns-then-b-a
unfolding min
returns-then-b-a c = rw (← c.is_nan.ensures.value, c.if-is_nan.false) (search picks)

pub returns-else-b-a : goal.returns-else-b-a
unfolding min
returns-else-b-a c = rw (← c.is_nan.ensures.value, c.if-is_nan.false) (search picks)
