-- `point_in_polygon` meets its contract. The invariant: the flag is that of the definition after the turns of the blocks.
-- Rests on the law of the first turn and the contracts of what it calls.
use lib.ListN.{length}
use borrow.Author.Tests.{lt-ltb, le-ltb}
use Rattle.regions.specs.Inside.{point_in_polygon}
use Rattle.regions.specs.Sides.{first_turn}
use Rattle.regions.proofs.inside.point_in_polygon.Goals as goal

pub returns-then-n-lt3 : goal.returns-then-n-lt3
unfolding point_in_polygon
returns-then-n-lt3 c = rw (lt-ltb _ _ c.if-n-lt3.true)

pub loop-block-init : goal.loop-block-init
loop-block-init c =
    let a = c.args in
    cc (first_turn a.x a.y a.v.now (length a.v.now))

pub returns : goal.returns
unfolding point_in_polygon
returns c = rw (le-ltb _ _ c.if-n-lt3.false) (cc c.turned_from.ensures)
