-- `move_of` meets its contract: the push on the mark, and where it moves it to.
-- Rests on the law that a mark's part of a sweep is such a move.
use Rattle.std.proofs.Common.{arith}
use Rattle.std.specs.Float.{nan}
use Rattle.laws.specs.Lists.{get_d_map}
use Rattle.regions.specs.Unrooted.{rooted}
use Rattle.relax.specs.Moves.{relax_point_lem}
use Rattle.relax.proofs.moves.move_of.Goals as goal

pub returns : goal.returns
returns c =
    let a = c.args in
    let w = a.marks.now in
    rw (relax_point_lem, get_d_map rooted w.unrooted.now a.i nan nan (omega (arith, w.flags)), ← c.force_on-f.ensures, ← c.pushed_to.ensures)
