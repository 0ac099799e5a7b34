-- `ring_squares` meets its contract. The invariant: the least are those of the definition after `i` edges.
-- Rests on the contract of `nearer`.
use mathlib.Core.Path.{refl}
use native.Mathlib.Nat.{le_antisymm}
use native.Mathlib.Numerals.{add-one}
use borrow.Author.Rules.{rules}
use borrow.Author.Tests.{lt-ltb, le-ltb}
use Rattle.regions.specs.Squares.{least_after, least_of_ring}
use Rattle.regions.proofs.four.ring_squares.Goals as goal

pub returns-then-n-lt2 : goal.returns-then-n-lt2
unfolding least_of_ring
returns-then-n-lt2 c k = rw (lt-ltb _ _ c.if-n-lt2.true)

pub loop-i-init : goal.loop-i-init
unfolding least_after
loop-i-init c = (search rules, λ k. refl)

pub loop-i-preserved : goal.loop-i-preserved
unfolding least_after
loop-i-preserved c = (search rules, λ k. rw add-one (cc (c.nearer-best.ensures k, c.loop-i.invariant.1 k)))

pub returns : goal.returns
unfolding least_of_ring
returns c k = rw (le-ltb _ _ c.if-n-lt2.false) (cc (c.loop-i.invariant.1 k, le_antisymm c.loop-i.auto.i-end c.loop-i-test.false))
