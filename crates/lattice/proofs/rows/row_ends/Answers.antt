-- `row_ends` meets its contract: the first and the last cell of the row of a rank.
-- Rests on the contracts of its calls.
use Rattle.lattice.proofs.rows.row_ends.Goals as goal

pub returns : goal.returns
returns c row_h = rw (c.floor_rank-first.ensures, c.ceil_rank-last.ensures, c.row_offset-offset.ensures)
