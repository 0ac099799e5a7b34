-- `float::hypot` meets its contract: it is the root that the definition takes.
-- Rests on the contract of `root`.
use Rattle.float.specs.Order.{hypot}
use Rattle.float.proofs.roots.hypot.Goals as goal

pub returns : goal.returns
unfolding hypot
returns c = c.root.ensures
