-- `put_below` meets its contract: the cell is put, or nothing is.
-- Rests on what the definition is on either side of the cap.
use Rattle.std.proofs.Common.{sym, ◌∙◌}
use Rattle.lattice.specs.Flat.{put_is}
use Rattle.lattice.specs.Run.{put_in, put_out}
use Rattle.lattice.proofs.nearest.put_below.Goals as goal

pub returns-then-e-cap : goal.returns-then-e-cap
returns-then-e-cap c =
    let a = c.args in
    c.put_spot.ensures ∙ put_is _ _ _ ∙ sym (put_in a.cap a.cells.now a.e a.p c.if-e-cap.true)

pub returns-else-e-cap : goal.returns-else-e-cap
returns-else-e-cap c =
    let a = c.args in
    sym (put_out a.cap a.cells.now a.e a.p c.if-e-cap.false)
