-- `count_row` meets its contract. The invariant: the answer is that of the cells which are left, from `t` on.
-- Rests on the laws of a turn over a row.
use Rattle.std.proofs.Common.{sym, ◌∙◌, arith}
use Rattle.regions.specs.Pieces.{rings_of}
use Rattle.lattice.specs.Tally.{row_none, row_stop, row_next, row_end, counted_bound}
use Rattle.lattice.proofs.count.count_row.Goals as goal

pub returns-then-row-eq0 : goal.returns-then-row-eq0
returns-then-row-eq0 c = sym (row_none _ _ _ _ _ _ _ _ _ _ c.if-row-eq0.true)

pub returns-then-t-cap : goal.returns-then-t-cap
returns-then-t-cap c =
    let l = c.loop-k in
    let a = c.args in
    sym
    (l.invariant.2
    ∙ row_stop (rings_of a.site.piece) a.site.margin.least a.site.near.now a.cap l.t a.row.x a.row.y a.row.spacing a.row.first
    a.row.count l.k c.loop-k-test.true _ c.cell.ensures _ (rw c.find.ensures.site at c.count_cell-t.ensures) c.if-t-cap.true)

pub loop-k-preserved : goal.loop-k-preserved
loop-k-preserved c =
    let l = c.loop-k in
    let a = c.args in
    let b = counted_bound (rings_of a.site.piece) a.site.margin.least a.site.near.now l.t _ _ (rw c.find.ensures.site at c.count_cell-t.ensures) in (
      omega arith,
      omega arith,
      l.invariant.2
          ∙ row_next (rings_of a.site.piece) a.site.margin.least a.site.near.now a.cap l.t a.row.x a.row.y a.row.spacing a.row.first
          a.row.count l.k c.loop-k-test.true _ c.cell.ensures _ (rw c.find.ensures.site at c.count_cell-t.ensures) c.if-t-cap.false,
    )

pub returns : goal.returns
returns c = sym (c.loop-k.invariant.2 ∙ row_end _ _ _ _ _ _ _ _ _ _ c.loop-k.k c.loop-k-test.false)
