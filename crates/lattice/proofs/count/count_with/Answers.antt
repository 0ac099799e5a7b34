-- `count_with` meets its contract. The invariant: the answer is that of the rows which are left, from `t` on.
-- Rests on the laws of a turn over the rows, and on the law that the definition's numbers are those of the walk.
use Rattle.std.proofs.Common.{◌≡◌, sym, ap, ◌∙◌, arith, length, rules}
use mathlib.Core.List.{List}
use Rattle.glyphs.specs.declared.rect.Point.{Point}
use Rattle.regions.specs.Pieces.{rings_of}
use Rattle.lattice.specs.Rows.{joined, walk, walk_le}
use Rattle.lattice.specs.Tally.{none, tally, row_bound, rows_stop, rows_next, rows_none, cells_counted}
use Rattle.lattice.specs.Walk.{cells_left, rows_left, length_left}
use Rattle.lattice.proofs.count.count_with.Goals as goal

pub loop-row-init : goal.loop-row-init
loop-row-init c =
    let a = c.args in
    let e : cells_left c.into_iter-row-iterator.result ≡ walk a.field = search rules in
    let n = ap (λ (ps : List Point). length ps) e in
    let m = walk_le a.field in
    (tt, tt, omega arith, omega arith, c.requires, ap (tally (rings_of a.site.piece) a.site.margin.least a.site.near.now a.cap none) (sym e))

pub count_row-t-requires : goal.count_row-t-requires
count_row-t-requires c =
    let l = c.loop-row in
    let n = length_left l.row-iterator c.in-Some.row (rows_left c.next.new.self) c.in-Some.ensures.steps in
    (omega (arith, l.invariant.2), omega (arith, l.invariant.3))

pub returns-then-t-cap : goal.returns-then-t-cap
returns-then-t-cap c =
    let l = c.loop-row in
    let a = c.args in
    let rings = rings_of a.site.piece in
    let near = a.site.near.now in
    sym
    (cells_counted rings a.site.margin.least near a.field a.cap c.requires
    ∙ l.invariant.5
    ∙ ap (λ (rows : List (List Point)). tally rings a.site.margin.least near a.cap l.t (joined rows)) c.in-Some.ensures.steps
    ∙ rows_stop rings a.site.margin.least near a.cap l.t c.in-Some.row (rows_left c.next.new.self) _ c.count_row-t.ensures l.invariant.4 c.if-t-cap.true)

pub loop-row-preserved : goal.loop-row-preserved
loop-row-preserved c =
    let l = c.loop-row in
    let a = c.args in
    let rings = rings_of a.site.piece in
    let near = a.site.near.now in
    let n = length_left l.row-iterator c.in-Some.row (rows_left c.next.new.self) c.in-Some.ensures.steps in
    let b = row_bound rings a.site.margin.least near a.cap l.t _ _ _ _ _ _ c.count_row-t.ensures in (
      tt,
      tt,
      omega (arith, l.invariant.2),
      omega (arith, l.invariant.3),
      c.if-t-cap.false,
      l.invariant.5
          ∙ ap (λ (rows : List (List Point)). tally rings a.site.margin.least near a.cap l.t (joined rows)) c.in-Some.ensures.steps
          ∙ rows_next rings a.site.margin.least near a.cap l.t c.in-Some.row (rows_left c.next.new.self) _ c.count_row-t.ensures l.invariant.4 c.if-t-cap.false,
    )

pub returns : goal.returns
returns c =
    let l = c.loop-row in
    let a = c.args in
    let rings = rings_of a.site.piece in
    let near = a.site.near.now in
    sym
    (cells_counted rings a.site.margin.least near a.field a.cap c.requires
    ∙ l.invariant.5
    ∙ ap (λ (rows : List (List Point)). tally rings a.site.margin.least near a.cap l.t (joined rows)) c.in-None.ensures.steps.0
    ∙ rows_none rings a.site.margin.least near a.cap l.t)
