-- `row_height` meets its contract: the source's choice.
-- Rests on the contract of the root.
use Rattle.laws.specs.Choice.{picks}
use Rattle.lattice.specs.Lattice.{row_height}
use Rattle.lattice.proofs.rows.row_height.Goals as goal

pub returns-then-lattice : goal.returns-then-lattice
unfolding row_height
returns-then-lattice c = search picks

pub returns : goal.returns
unfolding row_height
returns c = rw (c.if-lattice.false, c.root.ensures)
