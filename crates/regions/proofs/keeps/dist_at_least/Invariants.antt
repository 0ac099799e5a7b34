-- `dist_at_least` meets its contract. The invariant: the least is that of the rings so far, and no root below the clearance is known.
-- Rests on the laws of a margin's squares, and that more rings never make the least greater.
use Rattle.std.proofs.Common.{◌≡◌}
use mathlib.Core.List.{foldl}
use Rattle.regions.specs.Pieces.{rings_left}
use Rattle.regions.specs.Squares.{least_of_ring, least_of_rings}
use Rattle.regions.specs.Least.{Good}
use Rattle.regions.proofs.keeps.dist_at_least.Given as goal

abbrev pub invariant-loop-ring : goal.invariant-loop-ring
invariant-loop-ring l =
    (goal.iterator-loop-ring).can_next l.ring-iterator
    × (goal.iterator-loop-ring).is_finite l.ring-iterator
    × Good l.best
    × (least_of_rings l.px l.py (rings_left l.rings) ≡ foldl (least_of_ring l.px l.py) l.best (rings_left l.ring-iterator))
