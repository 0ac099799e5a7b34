-- `near_crossings` meets its contract. The invariant: all crossings are those written and those of the rings which are left; so are the ends.
-- Rests on the laws of the rings in turn, and on that of the whole.
use Rattle.std.proofs.Common.{◌≡◌, ◌+◌, ◌≤◌, ◌++◌, length, take}
use Rattle.std.specs.Iterator.Adapters.{enumerate_source, enumerate_count}
use Rattle.regions.specs.Pieces.{rings_of, rings_left}
use Rattle.lattice.specs.Crossings.{crossings_of_all, ends_of}
use Rattle.lattice.proofs.crossings.near_crossings.Given as goal

abbrev pub invariant-loop-k : goal.invariant-loop-k
invariant-loop-k l =
    let rings = enumerate_source l.k-iterator in
    let k = enumerate_count l.k-iterator in
    (k + length (rings_left rings) ≡ length l.piece.sizes.now)
    × (l.c ≤ length l.crossings)
    × (crossings_of_all l.y (rings_of l.piece) ≡ take l.c l.crossings ++ crossings_of_all l.y (rings_left rings))
    × (ends_of l.y 0 (rings_of l.piece) ≡ take k l.ends ++ ends_of l.y l.c (rings_left rings))
