-- `rings_square` meets its contract. The invariant: the answer is that of the rings which are left, from `best` on.
-- Rests on what the iterator yields.
use Rattle.std.proofs.Common.{◌≡◌}
use mathlib.Core.List.{foldl}
use Rattle.regions.specs.Pieces.{rings_left}
use Rattle.regions.specs.Squares.{least_of_ring, least_of_rings}
use Rattle.regions.proofs.clearance.rings_square.Given as goal

abbrev pub invariant-loop-ring : goal.invariant-loop-ring
invariant-loop-ring l =
    (goal.iterator-loop-ring).can_next l.ring-iterator
    × (goal.iterator-loop-ring).is_finite l.ring-iterator
    × (least_of_rings l.px l.py (rings_left l.rings) ≡ foldl (least_of_ring l.px l.py) l.best (rings_left l.ring-iterator))
