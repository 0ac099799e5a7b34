-- `piece_area` meets its contract. The invariant: the answer is that of the holes which are left, from `holes` on.
-- Rests on what the iterator yields.
use Rattle.std.proofs.Common.{◌≡◌}
use Rattle.float.specs.Ops.{◌-ᶠ◌, 0ᶠ}
use Rattle.float.specs.Order.{max}
use Rattle.regions.specs.Pieces.{rings_of, rings_left}
use Rattle.regions.specs.Area.{area_sum, piece_area}
use Rattle.regions.proofs.area.piece_area.Given as goal

abbrev pub invariant-loop-hole : goal.invariant-loop-hole
invariant-loop-hole l =
    (goal.iterator-loop-hole).can_next l.hole-iterator
    × (goal.iterator-loop-hole).is_finite l.hole-iterator
    × (piece_area (rings_of l.piece) ≡ max (l.outer -ᶠ area_sum l.holes (rings_left l.hole-iterator)) 0ᶠ)
