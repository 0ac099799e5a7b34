-- `low_square` meets its contract.
-- Rests on the contract of the root.
use Rattle.regions.specs.Margin.{low_square}
use Rattle.regions.proofs.margin.low_square.Goals as goal

pub returns-then-root-c : goal.returns-then-root-c
unfolding low_square
returns-then-root-c c = rw (← c.root.ensures, c.if-root-c.true)

pub returns : goal.returns
unfolding low_square
returns c = rw (← c.root.ensures, c.if-root-c.false)
