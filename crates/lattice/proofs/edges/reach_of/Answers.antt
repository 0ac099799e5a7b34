-- `reach_of` meets its contract: the reach is sure by the tests, and a NaN is no number.
-- Rests on what the tests say.
use Rattle.laws.specs.Truth.{yes}
use Rattle.lattice.specs.Far.{unsure}
use Rattle.lattice.proofs.edges.reach_of.Goals as goal

pub returns-then-not-is_modest : goal.returns-then-not-is_modest
returns-then-not-is_modest c = unsure _ _

pub returns-then-not-is_modest-2 : goal.returns-then-not-is_modest-2
returns-then-not-is_modest-2 c = unsure _ _

pub returns-then-reach-margin : goal.returns-then-reach-margin
returns-then-reach-margin c = λ n.
    record {
      place = c.is_modest.ensures (c.if-not-is_modest.false);
      sized = c.is_modest-2.ensures (c.if-not-is_modest-2.false);
      least = yes c.if-reach.true;
      square = rw (c.args.margin.high_is) at (yes c.if-reach-margin.true);
    }

pub returns : goal.returns
returns c = unsure _ _
