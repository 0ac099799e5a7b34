-- `gather_row` meets its contract. The invariant: the cells are those gathered from what the slices and the run hold and the cells which are left.
-- Rests on the laws of what two slices and the run hold and of a turn over a row.
use Rattle.std.proofs.Common.{◌≡◌, length}
use Rattle.regions.specs.Pieces.{rings_of}
use Rattle.lattice.specs.Gather.{gather, gather_from}
use Rattle.lattice.specs.Gathered.{held_by, gathered_by, IsWaiting, HoldsNow}
use Rattle.lattice.specs.Walk.{cells_in}
use Rattle.lattice.proofs.gather.Gathering.gather_row.Given as goal

abbrev pub invariant-loop-k : goal.invariant-loop-k
invariant-loop-k l =
    let rings = rings_of l.site.piece in
    let near = l.site.near.now in
    let w = l.wanted in
    (l.self.free.ghost_name ≡ l.initial.self.free.ghost_name)
    × (l.self.blocked.ghost_name ≡ l.initial.self.blocked.ghost_name)
    × (length l.self.free.now ≡ length l.initial.self.free.now)
    × (length l.self.blocked.now ≡ length l.initial.self.blocked.now)
    × IsWaiting w l.self
    × HoldsNow (held_by l.self) l.initial.self l.self
    × (gather rings l.site.margin.least near w.anchor w.free w.blocked (held_by l.initial.self) (cells_in l.row)
    ≡ gather_from rings l.site.margin.least near w.anchor w.free w.blocked (gathered_by w l.self) l.row.x l.row.y l.row.spacing l.row.first l.row.count l.k)
