-- `high_square` meets its contract.
-- Rests on the contract of the root and the value of 0.0 / 0.0.
use Rattle.regions.specs.Margin.{high_square, none}
use Rattle.regions.proofs.margin.high_square.Goals as goal

pub returns-then-c-root : goal.returns-then-c-root
unfolding high_square
returns-then-c-root c = rw (← c.root.ensures, c.if-c-root.true)

pub returns : goal.returns
unfolding high_square
returns c = rw (← c.root.ensures, c.if-c-root.false, none)
