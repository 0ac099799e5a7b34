-- `row_offset` meets its contract: the source's choice, by the parity of the rank.
-- Rests on the law that a number and its rank are odd together.
use Rattle.std.proofs.Common.{eq-eqb, ne_eqb}
use Rattle.lattice.specs.Lattice.{row_offset, is_shifted}
use Rattle.lattice.specs.Span.{parity}
use Rattle.lattice.proofs.rows.row_offset.Goals as goal

pub returns-then-lattice : goal.returns-then-lattice
unfolding row_offset is_shifted
returns-then-lattice c = rw c.if-lattice.true

pub returns-then-u-eq1 : goal.returns-then-u-eq1
unfolding row_offset is_shifted
returns-then-u-eq1 c = rw (c.if-lattice.false, parity, eq-eqb _ _ c.if-u-eq1.true)

pub returns : goal.returns
unfolding row_offset is_shifted
returns c = rw (c.if-lattice.false, parity, ne_eqb _ _ c.if-u-eq1.false)
