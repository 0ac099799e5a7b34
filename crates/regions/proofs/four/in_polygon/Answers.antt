-- `in_polygon` meets its contract. The invariant: the flags are those of the definition after `i` turns.
-- Rests on the contract of `turned_all`.
use mathlib.Core.Bool.{false}
use native.Mathlib.Nat.{le_antisymm}
use native.Mathlib.Numerals.{add-one}
use borrow.Author.Rules.{rules}
use borrow.Author.Tests.{lt-ltb, le-ltb}
use Rattle.regions.specs.Inside.{inside_after, point_in_polygon}
use Rattle.regions.specs.Four.{all_at}
use Rattle.regions.proofs.four.in_polygon.Goals as goal

pub returns-then-n-lt3 : goal.returns-then-n-lt3
unfolding point_in_polygon
returns-then-n-lt3 c k = rw (all_at k false, lt-ltb _ _ c.if-n-lt3.true)

pub loop-i-init : goal.loop-i-init
unfolding inside_after
loop-i-init c = (search rules, λ k. all_at k false)

pub loop-i-preserved : goal.loop-i-preserved
unfolding inside_after
loop-i-preserved c = (search rules, λ k. rw add-one (cc (c.turned_all-inside.ensures k, c.loop-i.invariant.1 k)))

pub returns : goal.returns
unfolding point_in_polygon
returns c k = rw (le-ltb _ _ c.if-n-lt3.false) (cc (c.loop-i.invariant.1 k, le_antisymm c.loop-i.auto.i-end c.loop-i-test.false))
