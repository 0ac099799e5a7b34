-- `seed` meets its contract. The invariant: the cells that wait are those of the grid up to the corner. The measure is the room.
-- Rests on the laws of the grid.
use Rattle.std.proofs.Common.{◌≡◌, ◌-◌, length}
use Rattle.regions.specs.Pieces.{rings_of}
use Rattle.deepest.specs.Plant.{Planting}
use Rattle.deepest.proofs.seeds.seed.Given as goal

abbrev pub invariant-loop-next : goal.invariant-loop-next
invariant-loop-next l =
    let w = l.initial.waiting in
    (length l.waiting.cells.now ≡ length w.cells.now)
    × (l.waiting.halves.now ≡ w.halves.now)
    × (l.waiting.entered ≡ l.waiting.len)
    × (l.waiting.cells.ghost_name ≡ w.cells.ghost_name)
    × Planting (rings_of l.piece) w.halves.now l.tiling.bounds l.tiling.side (length w.cells.now) l.waiting.cells.now l.waiting.len l.next

abbrev pub decreases-loop-next : goal.decreases-loop-next
decreases-loop-next l = length l.initial.waiting.cells.now - l.waiting.len
