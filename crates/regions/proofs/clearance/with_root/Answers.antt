-- `with_root` meets its contract, by its test.
-- Rests on the contracts of what it calls.
use Rattle.regions.specs.Unrooted.{rooted_if}
use Rattle.regions.proofs.clearance.with_root.Goals as goal

pub returns-then-always-inside : goal.returns-then-always-inside
unfolding rooted_if
returns-then-always-inside c = rw (c.if-always-inside.true, ← c.root.ensures) c.negate_unless.ensures

pub returns : goal.returns
unfolding rooted_if
returns c = rw c.if-always-inside.false
