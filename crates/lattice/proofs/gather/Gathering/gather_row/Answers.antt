-- `gather_row` meets its contract. The invariant: the cells are those gathered from what the slices and the run hold and the cells which are left.
-- Rests on the laws of what two slices and the run hold and of a turn over a row.
use Rattle.std.proofs.Common.{◌+◌, ◌≤◌, length, sym, refl, ap, ◌∙◌, arith}
use Rattle.regions.specs.Pieces.{rings_of}
use Rattle.lattice.specs.Flat.{front_number, spots_front}
use Rattle.lattice.specs.Gather.{gather, gather_from, row_start, row_none, row_turn, row_done}
use Rattle.lattice.specs.Gathered.{kept_of, gathered_in, waits_begun, begun_are, holds_merged, merged_fit}
use Rattle.lattice.specs.Held.{holds_start, holds_as, turn}
use Rattle.lattice.specs.Lattice.{HexCells}
use Rattle.lattice.specs.Walk.{cells_in}
use Rattle.lattice.proofs.gather.Gathering.gather_row.Goals as goal

pub returns-then-row-eq0-clause-cells : goal.returns-then-row-eq0-clause-cells
returns-then-row-eq0-clause-cells c =
    let a = c.args in
    holds_as (holds_start a.wanted.anchor a.wanted.free a.wanted.blocked (kept_of a.self.now.t) a.self.now.free.now a.self.now.blocked.now c.requires)
    (sym (row_none _ _ _ _ _ _ _ _ _ _ _ _ c.if-row-eq0.true))

pub loop-k-init : goal.loop-k-init
loop-k-init c =
    let a = c.args in
    let rings = rings_of a.site.piece in
    let near = a.site.near.now in (
      refl,
      refl,
      refl,
      refl,
      waits_begun a.wanted.anchor a.wanted.free a.wanted.blocked (kept_of a.self.now.t) a.self.now.free.now a.self.now.blocked.now a.self.now.run c.requires,
      holds_start a.wanted.anchor a.wanted.free a.wanted.blocked (kept_of a.self.now.t) a.self.now.free.now a.self.now.blocked.now c.requires,
      ap (λ (cells : HexCells). gather rings a.site.margin.least near a.wanted.anchor a.wanted.free a.wanted.blocked cells (cells_in a.row))
          (sym (begun_are a.wanted.anchor a.wanted.free a.wanted.blocked (kept_of a.self.now.t) a.self.now.free.now a.self.now.blocked.now
          a.self.now.run c.requires))
          ∙ row_start rings a.site.margin.least near a.wanted.anchor a.wanted.free a.wanted.blocked _ _ _ _ _ _,
    )

pub loop-k-preserved : goal.loop-k-preserved
loop-k-preserved c =
    let l = c.loop-k in
    let a = c.args in
    let rings = rings_of a.site.piece in
    let near = a.site.near.now in
    let cells = gathered_in a.wanted.anchor a.wanted.free l.self.t l.self.free.now l.self.blocked.now l.self.run in
    let g = rw c.find.ensures.site at c.gather_cell.ensures.cells in
    let held =
    turn a.wanted.anchor a.wanted.free a.wanted.blocked (kept_of l.self.t) l.self.free.now l.self.blocked.now l.invariant.4.ready a.self.now.free.now
    a.self.now.blocked.now l.invariant.5
    _ (g.waits.ready.fit, g.grown) _ _ _ g.holds in (
      c.gather_cell.ensures.same_free ∙ l.invariant.0,
      c.gather_cell.ensures.same_blocked ∙ l.invariant.1,
      held.3 ∙ l.invariant.2,
      held.4 ∙ l.invariant.3,
      g.waits,
      held.2,
      l.invariant.6
          ∙ row_turn rings a.site.margin.least near a.wanted.anchor a.wanted.free a.wanted.blocked cells a.row.x a.row.y a.row.spacing a.row.first a.row.count
          l.k c.loop-k-test.true _ c.cell.ensures
          ∙ ap (λ (later : HexCells). gather_from rings a.site.margin.least near a.wanted.anchor a.wanted.free a.wanted.blocked later
          a.row.x a.row.y a.row.spacing a.row.first a.row.count (l.k + 1))
          (sym g.cells_are),
    )

pub merge_run-self-requires : goal.merge_run-self-requires
merge_run-self-requires c =
    let l = c.loop-k in
    let w = l.invariant.4 in
    (w.line.kept_le, w.line.room, w.line.order, rw (spots_front l.self.t.free.waiting l.self.run) w.line.run_order)

pub returns-clause-cells : goal.returns-clause-cells
returns-clause-cells c =
    let l = c.loop-k in
    let a = c.args in
    let w = l.invariant.4 in
    let room : 64 ≤ length l.self.run = omega arith in
    let n = l.self.t.free.waiting in
    let number = front_number n l.self.run (omega (arith, w.line.waiting_le)) in
    let merged = rw (number, spots_front n l.self.run) at c.merge_run-self.ensures in
    let held =
    turn a.wanted.anchor a.wanted.free a.wanted.blocked (kept_of l.self.t) l.self.free.now l.self.blocked.now w.ready a.self.now.free.now
    a.self.now.blocked.now l.invariant.5
    (gathered_in a.wanted.anchor a.wanted.free l.self.t l.self.free.now l.self.blocked.now l.self.run)
    (merged_fit a.wanted.anchor a.wanted.free a.wanted.blocked l.self.t l.self.free.now l.self.blocked.now l.self.run w room) _ _ _
    (holds_merged a.wanted.anchor a.wanted.free a.wanted.blocked l.self.t l.self.free.now l.self.blocked.now l.self.run w room _ _
    merged.0 merged.1) in
    holds_as held.2 (held.0 ∙ sym (l.invariant.6 ∙ row_done _ _ _ _ _ _ _ _ _ _ _ _ l.k c.loop-k-test.false))
