-- `put_ring` meets its contract. The invariant: the edges visited so far are added.
-- Rests on the laws of a ring's edges in turn.
use Rattle.std.proofs.Common.{◌≡◌, ◌≤◌, length, take}
use Rattle.lattice.specs.Edges.{AddedAfter}
use Rattle.lattice.proofs.edges.put_ring.Given as goal

abbrev pub invariant-loop-i : goal.invariant-loop-i
invariant-loop-i l =
    (l.n ≡ length l.ring)
    × (l.m ≤ length l.edges)
    × AddedAfter l.y l.reach l.ring l.n l.i (take l.start l.initial.edges) (take l.m l.edges)
