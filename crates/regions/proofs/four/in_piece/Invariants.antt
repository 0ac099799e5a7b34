-- `in_piece` meets its contract. The invariant: a flag is the answer, unless a hole that is left has the place.
-- Rests on what the iterator yields.
use Rattle.std.proofs.Common.{◌≡◌, not, ◌&&◌}
use Rattle.regions.specs.Pieces.{rings_of, rings_left}
use Rattle.regions.specs.Clearance.{in_any, within}
use Rattle.regions.specs.Four.{Which, at}
use Rattle.regions.proofs.four.in_piece.Given as goal

abbrev pub invariant-loop-hole : goal.invariant-loop-hole
invariant-loop-hole l =
    (goal.iterator-loop-hole).can_next l.hole-iterator
    × (goal.iterator-loop-hole).is_finite l.hole-iterator
    × ((k : Which)
    → within (at k l.places).x (at k l.places).y (rings_of l.piece)
    ≡ at k l.inside && not (in_any (at k l.places).x (at k l.places).y (rings_left l.hole-iterator)))
