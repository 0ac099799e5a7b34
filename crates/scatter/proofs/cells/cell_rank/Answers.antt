-- `cell_rank` meets its contract: the rank of `floor() as i64`.
-- Rests on the contract of `floor_rank`.
use Rattle.scatter.specs.LowDiscrepancy.{cell_number}
use Rattle.scatter.proofs.cells.cell_rank.Goals as goal

pub returns : goal.returns
unfolding cell_number
returns c = c.floor_rank.ensures
