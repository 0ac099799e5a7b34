-- `Row::cell` meets its contract: the place of a cell.
-- Rests on the contract of `number`.
use Rattle.lattice.specs.Rows.{cell_x}
use Rattle.lattice.proofs.row.Row.cell.Goals as goal

pub returns : goal.returns
unfolding cell_x
returns c = rw c.number.ensures
