-- `count_near` meets its contract. The invariant: the count and that of the marks from mark k on make up that of all.
-- Rests on the laws of the count over one mark and over none.
use Rattle.std.proofs.Common.{◌≡◌, ◌+◌, ◌/◌, ◌≤◌, length, drop}
use Rattle.glyphs.specs.Spots.{near_count, spots_of}
use Rattle.glyphs.proofs.spots.count_near.Given as goal

abbrev pub invariant-loop-k : goal.invariant-loop-k
invariant-loop-k l =
    (l.n ≡ length l.spots / 2)
    × (l.count ≤ l.k)
    × (l.count + near_count l.p l.least (drop l.k (spots_of l.spots)) ≡ near_count l.p l.least (spots_of l.spots))
