-- `turned_from` meets its contract. The invariant: the flag is that of the definition after k turns.
-- Rests on the law of a turn.
use native.Mathlib.Nat.{le_antisymm}
use lib.ListN.{length}
use borrow.Author.Rules.{rules}
use Rattle.regions.specs.Sides.{next_turn}
use Rattle.regions.proofs.inside.turned_from.Goals as goal

pub loop-k-preserved : goal.loop-k-preserved
loop-k-preserved c =
    let a = c.args in
    let k = c.loop-k.k in
    (search rules, search rules, search rules, cc (next_turn a.x a.y a.v.now (length a.v.now) k (search rules)))

pub returns : goal.returns
returns c = cc (le_antisymm c.loop-k.invariant.1 c.loop-k-test.false)
