-- `inside_piece` meets its contract. The invariant: the answer is that of the holes which are left.
-- Rests on what the iterator yields.
use Rattle.std.proofs.Common.{◌≡◌, not}
use Rattle.regions.specs.Pieces.{rings_of, rings_left}
use Rattle.regions.specs.Clearance.{in_any, within}
use Rattle.regions.proofs.clearance.inside_piece.Given as goal

abbrev pub invariant-loop-hole : goal.invariant-loop-hole
invariant-loop-hole l =
    (goal.iterator-loop-hole).can_next l.hole-iterator
    × (goal.iterator-loop-hole).is_finite l.hole-iterator
    × (within l.x l.y (rings_of l.piece) ≡ not (in_any l.x l.y (rings_left l.hole-iterator)))
