-- `read_pieces` reads pieces one after the other. Invariant: those left are at the place come to, and are still to be put.
-- Rests on what `read_piece` ensures and one turn of a run.
use mathlib.Core.Path.{◌≡◌}
use mathlib.Core.List.{◌++◌}
use Prim.Native.Nat.{◌+◌, ◌-◌, ◌*◌, ◌≤◌}
use lib.ListN.{length}
use Rattle.format.specs.Rows.{faults, past, each, flat}
use Rattle.format.specs.Numbers.{u8}
use Rattle.format.specs.Pieces.{piece_fault, piece_end, piece_points, ring_sizes}
use Rattle.format.specs.Steps.{Room}
use Rattle.format.proofs.pieces.Pieces.read_pieces.Given as goal

abbrev pub invariant-loop-i : goal.invariant-loop-i
invariant-loop-i g l =
    let s = l.initial.job.bytes.now in
    let from = l.initial.job.at in
    let left = l.n - l._i in
    (l.job.bytes ≡ l.initial.job.bytes)
    × Room s l.job.at l.self
    × (length l.self.sizes.items + 9 * left ≤ g.row.RINGS)
    × (length l.self.rings.items + left ≤ g.row.PIECES)
    × (faults (piece_fault s) (piece_end s) l.n from ≡ faults (piece_fault s) (piece_end s) left l.job.at)
    × (past (piece_end s) l.n from ≡ past (piece_end s) left l.job.at)
    × (l.initial.self.points.items ++ flat (piece_points s) (piece_end s) l.n from ≡ l.self.points.items ++ flat (piece_points s) (piece_end s) left l.job.at)
    × (l.initial.self.sizes.items ++ flat (ring_sizes s) (piece_end s) l.n from ≡ l.self.sizes.items ++ flat (ring_sizes s) (piece_end s) left l.job.at)
    × (l.initial.self.rings.items ++ each (u8 s) (piece_end s) l.n from ≡ l.self.rings.items ++ each (u8 s) (piece_end s) left l.job.at)
    × (8 * length l.self.points.items + from ≤ 8 * length l.initial.self.points.items + l.job.at)
