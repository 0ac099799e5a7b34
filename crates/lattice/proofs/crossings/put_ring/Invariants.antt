-- `put_ring` meets its contract. The invariant: behind those from before are the crossings of the edges visited so far.
-- Rests on the laws of crossings written one after another.
use Rattle.std.proofs.Common.{◌≡◌, ◌≤◌, ◌++◌, length, take}
use Rattle.glyphs.specs.Points.{vertex_at}
use Rattle.regions.specs.Ring.{prev}
use Rattle.lattice.specs.Crossings.{crossings_after}
use Rattle.lattice.proofs.crossings.put_ring.Given as goal

abbrev pub invariant-loop-vertex : goal.invariant-loop-vertex
invariant-loop-vertex l =
    let i = l.vertex-index in
    (l.before ≡ vertex_at l.ring (prev (length l.ring) i))
    × (l.c ≤ length l.crossings)
    × (take l.c l.crossings ≡ take l.start l.initial.crossings ++ crossings_after l.y l.ring (length l.ring) i)
