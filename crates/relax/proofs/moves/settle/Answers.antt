-- `settle` meets its contract, by the move's two cases.
-- Rests on the law of a mark written to a list.
use Rattle.std.proofs.Common.{arith}
use Rattle.laws.specs.Lists.{map_set}
use Rattle.glyphs.specs.Spots.{spots_put}
use Rattle.relax.specs.Moves.{settled, told_of}
use Rattle.relax.proofs.moves.settle.Goals as goal

pub returns-in_default-clause-moved : goal.returns-in_default-clause-moved
unfolding settled told_of
returns-in_default-clause-moved c = rw c.in_default.is

pub returns-clause-moved : goal.returns-clause-moved
unfolding settled told_of
returns-clause-moved c =
    let w = c.args.marks.now in
    rw (c.in-Some.is, c.put_spot.ensures, spots_put w.spots.now c.args.i _ (omega (arith, w.pairs, w.flags)), map_set)
