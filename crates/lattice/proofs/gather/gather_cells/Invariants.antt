-- `gather_cells` meets its contract. The invariant: the cells are those gathered from what the slices hold and the rows which are left.
-- Rests on the laws of what two slices hold and of a turn over the rows.
use Rattle.std.proofs.Common.{◌≡◌, length}
use Rattle.regions.specs.Pieces.{rings_of}
use Rattle.lattice.specs.Gather.{gather}
use Rattle.lattice.specs.Gathered.{held_by, IsReady, HoldsNow}
use Rattle.lattice.specs.Lattice.{no_cells}
use Rattle.lattice.specs.Rows.{walk}
use Rattle.lattice.specs.Walk.{cells_left}
use Rattle.lattice.proofs.gather.gather_cells.Given as goal

abbrev pub invariant-loop-row : goal.invariant-loop-row
invariant-loop-row l =
    let rings = rings_of l.site.piece in
    let near = l.site.near.now in
    let w = l.wanted in
    (goal.iterator-loop-row).can_next l.row-iterator
    × (goal.iterator-loop-row).is_finite l.row-iterator
    × (l.gathering.free.ghost_name ≡ l.initial.gathering.free.ghost_name)
    × (l.gathering.blocked.ghost_name ≡ l.initial.gathering.blocked.ghost_name)
    × (length l.gathering.free.now ≡ length l.initial.gathering.free.now)
    × (length l.gathering.blocked.now ≡ length l.initial.gathering.blocked.now)
    × IsReady w l.gathering
    × HoldsNow (held_by l.gathering) l.initial.gathering l.gathering
    × (gather rings l.site.margin.least near w.anchor w.free w.blocked no_cells (walk l.fn.field)
    ≡ gather rings l.site.margin.least near w.anchor w.free w.blocked (held_by l.gathering) (cells_left l.row-iterator))
