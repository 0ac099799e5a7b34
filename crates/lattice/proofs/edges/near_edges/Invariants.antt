-- `near_edges` meets its contract. The invariant: the edges written and the rings left say what the piece says.
-- Rests on the laws of the rings in turn.
use Rattle.std.proofs.Common.{◌≤◌, length, take}
use Rattle.regions.specs.Pieces.{rings_of, rings_left}
use Rattle.lattice.specs.Edges.{Left}
use Rattle.lattice.proofs.edges.near_edges.Given as goal

abbrev pub invariant-loop-ring : goal.invariant-loop-ring
invariant-loop-ring l =
    (goal.iterator-loop-ring).can_next l.ring-iterator
    × (goal.iterator-loop-ring).is_finite l.ring-iterator
    × (l.m ≤ length l.edges)
    × Left l.y l.reach (rings_of l.site.piece) (rings_left l.ring-iterator) (take l.m l.edges)
