-- The next row: the first of the rows that were left, and the others are left.
-- Rests on the laws of a row taken off.
use Rattle.std.proofs.Common.{◌+◌, ◌-◌, ◌<◌, suc, length, ap, arith, rules}
use Rattle.lattice.specs.Rows.{some_rows}
use Rattle.lattice.specs.Walk.{none_from, row_next, row_last, rows_left}
use Rattle.lattice.proofs.walk.RowsIterator.next.Goals as goal

pub returns-then-self-eq0-clause-steps : goal.returns-then-self-eq0-clause-steps
returns-then-self-eq0-clause-steps c =
    let s = c.args.self.now in
    let e = none_from s.field s.row_h s.rank (suc s.last - s.rank) in
    (rw c.if-self-eq0.true e, rw c.if-self-eq0.true e)

pub returns-then-self-clause-steps : goal.returns-then-self-clause-steps
returns-then-self-clause-steps c =
    let s = c.args.self.now in
    row_last s.field s.row_h s.rank s.last s.left c.row_within-row.result c.row_within-row.ensures.cells (omega arith) c.if-self.true

pub returns-then-self-clause-goes : goal.returns-then-self-clause-goes
returns-then-self-clause-goes c =
    let s = c.args.self.now in
    let e = row_last s.field s.row_h s.rank s.last s.left c.row_within-row.result c.row_within-row.ensures.cells (omega arith) c.if-self.true in
    let fewer : length (some_rows s.field s.row_h s.rank (suc s.last - s.rank) 0) < length (rows_left s) = omega (arith, ap length e) in
    search rules

pub returns-clause-steps : goal.returns-clause-steps
returns-clause-steps c =
    let s = c.args.self.now in
    row_next s.field s.row_h s.rank s.last s.left c.row_within-row.result c.row_within-row.ensures.cells (omega arith) s.in_order

pub returns-clause-goes : goal.returns-clause-goes
returns-clause-goes c =
    let s = c.args.self.now in
    let e = row_next s.field s.row_h s.rank s.last s.left c.row_within-row.result c.row_within-row.ensures.cells (omega arith) s.in_order in
    let fewer : length (some_rows s.field s.row_h (s.rank + 1) (suc s.last - (s.rank + 1)) (s.left - c.row_within-row.result.count))
    < length (rows_left s) = omega (arith, ap length e) in
    search rules
