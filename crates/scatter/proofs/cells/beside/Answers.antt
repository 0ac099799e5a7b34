-- `beside` meets its contract: ranks at most one apart are numbers beside each other.
-- Rests on the law of numbers beside each other by rank.
use mathlib.Core.Path.{sym}
use Rattle.scatter.specs.Cells.{numbers_beside}
use Rattle.scatter.proofs.cells.beside.Goals as goal

pub returns : goal.returns
returns c = rw (c.abs_diff.ensures, c.cell_rank.ensures, c.cell_rank-2.ensures) (sym (numbers_beside _ _ _ _))
