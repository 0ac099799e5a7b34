-- `rings_squares` meets its contract. The invariant: the answers are those of the rings which are left, from `best` on.
-- Rests on what the iterator yields.
use Rattle.std.proofs.Common.{◌≡◌}
use mathlib.Core.List.{foldl}
use Rattle.regions.specs.Pieces.{rings_left}
use Rattle.regions.specs.Squares.{least_of_ring, least_of_rings}
use Rattle.regions.specs.Four.{Which, at}
use Rattle.regions.proofs.four.rings_squares.Given as goal

abbrev pub invariant-loop-ring : goal.invariant-loop-ring
invariant-loop-ring l =
    (goal.iterator-loop-ring).can_next l.ring-iterator
    × (goal.iterator-loop-ring).is_finite l.ring-iterator
    × ((k : Which)
    → least_of_rings (at k l.places).x (at k l.places).y (rings_left l.rings)
    ≡ foldl (least_of_ring (at k l.places).x (at k l.places).y) (at k l.best) (rings_left l.ring-iterator))
