-- `row_at` meets its contract: the row of a rank.
-- Rests on the contracts of its calls.
use Rattle.lattice.proofs.rows.row_at.Goals as goal

pub returns-clause-x : goal.returns-clause-x
returns-clause-x c = rw c.row_offset.ensures

pub returns-clause-y : goal.returns-clause-y
returns-clause-y c = rw c.number.ensures

pub returns-clause-first : goal.returns-clause-first
returns-clause-first c = rw (c.row_ends-first.ensures c.args.row_h)

pub returns-clause-last : goal.returns-clause-last
returns-clause-last c = rw (c.row_ends-first.ensures c.args.row_h)
