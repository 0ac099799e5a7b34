-- `read_piece` reads the rings of a piece. Invariant: those left are at the place come to, and are still to be put.
-- Rests on what `read_ring` ensures and one turn of a run.
use mathlib.Core.Path.{◌≡◌}
use mathlib.Core.List.{◌++◌}
use Prim.Native.Nat.{◌+◌, ◌-◌, ◌*◌, ◌≤◌}
use lib.ListN.{length}
use Rattle.format.specs.Rows.{faults, past, each, flat}
use Rattle.format.specs.Numbers.{u16}
use Rattle.format.specs.Pieces.{ring_fault, ring_end, ring}
use Rattle.format.specs.Steps.{Room}
use Rattle.format.proofs.pieces.Pieces.read_piece.Given as goal

abbrev pub invariant-loop-i : goal.invariant-loop-i
invariant-loop-i g l =
    let s = l.initial.job.bytes.now in
    let from = l.initial.job.at in
    let left = l.rings - l._i in
    (l.job.bytes ≡ l.initial.job.bytes)
    × Room s l.job.at l.self
    × (length l.self.sizes.items + left ≤ g.row.RINGS)
    × (l.self.rings.items ≡ l.initial.self.rings.items)
    × (faults (ring_fault s) (ring_end s) l.rings from ≡ faults (ring_fault s) (ring_end s) left l.job.at)
    × (past (ring_end s) l.rings from ≡ past (ring_end s) left l.job.at)
    × (l.initial.self.points.items ++ flat (ring s) (ring_end s) l.rings from ≡ l.self.points.items ++ flat (ring s) (ring_end s) left l.job.at)
    × (l.initial.self.sizes.items ++ each (u16 s) (ring_end s) l.rings from ≡ l.self.sizes.items ++ each (u16 s) (ring_end s) left l.job.at)
    × (8 * length l.self.points.items + from ≤ 8 * length l.initial.self.points.items + l.job.at)
