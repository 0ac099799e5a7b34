-- `turned_all` meets its contract: an edge taken into account for each of four places, or passed over for all.
-- Rests on the law of an edge on one side.
use Rattle.regions.specs.Four.{first, second, third, fourth, at}
use Rattle.regions.specs.Inside.{flip}
use Rattle.regions.specs.Sides.{same_side}
use Rattle.regions.proofs.four.turned_all.Goals as goal

pub returns-then-on_one_side_of_all : goal.returns-then-on_one_side_of_all
unfolding flip
returns-then-on_one_side_of_all c k = rw (same_side _ _ _ _ _ _ (c.on_one_side_of_all.ensures c.if-on_one_side_of_all.true k))

pub returns : goal.returns
unfolding at
returns c first = c.turned_by.ensures
returns c second = c.turned_by-2.ensures
returns c third = c.turned_by-3.ensures
returns c fourth = c.turned_by-4.ensures
