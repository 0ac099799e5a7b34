-- `row_within` meets its contract: cells of the row of a rank.
-- Rests on the contracts of its calls.
use Rattle.lattice.specs.Rows.{row_of}
use Rattle.lattice.proofs.rows.row_within.Goals as goal

pub returns-clause-x : goal.returns-clause-x
returns-clause-x c = c.row_at-line.ensures.x

pub returns-clause-y : goal.returns-clause-y
returns-clause-y c = c.row_at-line.ensures.y

pub returns-clause-first : goal.returns-clause-first
returns-clause-first c = c.row_at-line.ensures.first

pub returns-clause-count : goal.returns-clause-count
returns-clause-count c = rw (c.many.ensures, c.row_at-line.ensures.first, c.row_at-line.ensures.last)

pub returns-clause-cells : goal.returns-clause-cells
unfolding row_of
returns-clause-cells c =
    rw (c.many.ensures, c.row_at-line.ensures.first, c.row_at-line.ensures.last, c.row_at-line.ensures.x, c.row_at-line.ensures.y)
