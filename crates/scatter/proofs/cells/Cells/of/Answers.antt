-- `Cells::of` meets its contract: the spacing, no less than epsilon, and its square.
-- Rests on the contracts of its calls.
use Rattle.scatter.specs.Cells.{cells_of}
use Rattle.scatter.proofs.cells.Cells.of.Goals as goal

pub returns : goal.returns
unfolding cells_of
returns c = rw (c.max-size.ensures, c.spacing-spacing.ensures)
