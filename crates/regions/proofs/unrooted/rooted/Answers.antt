-- `rooted` meets its contract, by its test.
-- Rests on the contract of `root`.
use Rattle.regions.specs.Unrooted.{rooted}
use Rattle.regions.proofs.unrooted.rooted.Goals as goal

pub returns-then-u : goal.returns-then-u
unfolding rooted
returns-then-u c = rw c.if-u.true

pub returns : goal.returns
unfolding rooted
returns c = rw c.if-u.false c.root.ensures
