-- `gather_cells` meets its contract. The invariant: the cells are those gathered from what the slices hold and the rows which are left.
-- Rests on the laws of what two slices hold and of a turn over the rows, and on the law that the definition's nearest cells are those gathered in its walk.
use Rattle.std.proofs.Common.{◌≡◌, sym, refl, ap, ◌∙◌, rules}
use mathlib.Core.List.{List}
use Rattle.glyphs.specs.declared.rect.Point.{Point}
use Rattle.regions.specs.Pieces.{rings_of}
use Rattle.lattice.specs.Gather.{gather, gather_fit, rows_turn, cells_gathered}
use Rattle.lattice.specs.Gathered.{kept_of, held_by}
use Rattle.lattice.specs.Held.{held_in, held_none, holds_none, holds_as, ready_none, turn}
use Rattle.lattice.specs.Lattice.{HexCells, no_cells}
use Rattle.lattice.specs.Rows.{joined, walk}
use Rattle.lattice.specs.Walk.{cells_in, cells_left, rows_left}
use Rattle.lattice.proofs.gather.gather_cells.Goals as goal

pub loop-row-init : goal.loop-row-init
loop-row-init c =
    let a = c.args in
    let e : cells_left c.into_iter-row-iterator.result ≡ walk a.field = search rules in
    let rings = rings_of a.site.piece in
    let near = a.site.near.now in (
      tt,
      tt,
      refl,
      refl,
      refl,
      refl,
      ready_none a.field.anchor a.nf a.nb a.free.now a.blocked.now c.requires.0 c.requires.1,
      holds_as (holds_none a.free.now a.blocked.now) (sym (held_none a.free.now a.blocked.now)),
      ap (gather rings a.site.margin.least near a.field.anchor a.nf a.nb no_cells) (sym e)
          ∙ ap (λ (cells : HexCells). gather rings a.site.margin.least near a.field.anchor a.nf a.nb cells
          (cells_left c.into_iter-row-iterator.result)) (sym (held_none a.free.now a.blocked.now)),
    )

pub loop-row-preserved : goal.loop-row-preserved
loop-row-preserved c =
    let l = c.loop-row in
    let a = c.args in
    let anchor = a.field.anchor in
    let rings = rings_of a.site.piece in
    let near = a.site.near.now in
    let cells = held_in (kept_of l.gathering.t) l.gathering.free.now l.gathering.blocked.now in
    let held =
    turn anchor a.nf a.nb (kept_of l.gathering.t) l.gathering.free.now l.gathering.blocked.now l.invariant.6 a.free.now a.blocked.now l.invariant.7
    (gather rings a.site.margin.least near anchor a.nf a.nb cells (cells_in c.in-Some.row))
    (gather_fit rings a.site.margin.least near anchor a.nf a.nb cells (cells_in c.in-Some.row) l.invariant.6.fit) _ _ _ c.gather_row.ensures.cells in (
      tt,
      tt,
      c.gather_row.ensures.same_free ∙ l.invariant.2,
      c.gather_row.ensures.same_blocked ∙ l.invariant.3,
      held.3 ∙ l.invariant.4,
      held.4 ∙ l.invariant.5,
      held.1,
      held.2,
      l.invariant.8
          ∙ ap (λ (rows : List (List Point)). gather rings a.site.margin.least near anchor a.nf a.nb cells (joined rows)) c.in-Some.ensures.steps
          ∙ rows_turn rings a.site.margin.least near anchor a.nf a.nb cells c.in-Some.row (rows_left c.next.new.self)
          ∙ ap (λ (later : HexCells). gather rings a.site.margin.least near anchor a.nf a.nb later (cells_left c.next.new.self)) (sym held.0),
    )

pub returns : goal.returns
returns c =
    let l = c.loop-row in
    let a = c.args in
    let rings = rings_of a.site.piece in
    let near = a.site.near.now in
    let held =
    holds_as l.invariant.7
    (sym
    (cells_gathered rings a.site.margin.least near a.field.anchor a.nf a.nb a.field
    ∙ l.invariant.8
    ∙ ap (λ (rows : List (List Point)). gather rings a.site.margin.least near a.field.anchor a.nf a.nb (held_by l.gathering) (joined rows))
    c.in-None.ensures.steps.0)) in
    search rules
