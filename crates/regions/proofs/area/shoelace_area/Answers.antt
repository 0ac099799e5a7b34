-- `shoelace_area` meets its contract. The invariant: the sum is that of the definition after `i` turns.
-- Rests on the contracts of what it calls.
use native.Mathlib.Nat.{le_antisymm}
use native.Mathlib.Numerals.{add-one}
use borrow.Author.Rules.{rules}
use borrow.Author.Tests.{lt-ltb, le-ltb}
use Rattle.regions.specs.Area.{area_after, shoelace_area}
use Rattle.regions.proofs.area.shoelace_area.Goals as goal

pub returns-then-n-lt3 : goal.returns-then-n-lt3
unfolding area_after shoelace_area
returns-then-n-lt3 c = rw (lt-ltb _ _ c.if-n-lt3.true)

pub loop-i-init : goal.loop-i-init
unfolding area_after shoelace_area
loop-i-init c = search rules

pub loop-i-preserved : goal.loop-i-preserved
unfolding area_after
loop-i-preserved c = (search rules, rw add-one (cc))

pub returns : goal.returns
unfolding shoelace_area
returns c =
    rw (le-ltb _ _ c.if-n-lt3.false) (cc (le_antisymm c.loop-i.auto.i-end c.loop-i-test.false))
