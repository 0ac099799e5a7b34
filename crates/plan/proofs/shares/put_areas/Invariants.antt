-- `put_areas` writes the areas. Invariant: those of the pieces left are still to be put.
-- Rests on one turn of a walk over pieces.
use mathlib.Core.Path.{◌≡◌}
use Prim.Native.Nat.{◌+◌}
use lib.ListN.{length}
use lib.Seq.{sets}
use Rattle.std.specs.Iterator.Adapters.{zip_first, zip_second}
use Rattle.discs.specs.Region.{areas}
use Rattle.discs.specs.Slices.{pieces_left}
use Rattle.plan.proofs.shares.put_areas.Given as goal

abbrev pub invariant-loop-k : goal.invariant-loop-k
invariant-loop-k l =
    (length l.out ≡ length l.initial.out)
    × ((zip_first l.k-iterator).end ≡ length (pieces_left l.pieces))
    × ((zip_first l.k-iterator).start + length (pieces_left (zip_second l.k-iterator)) ≡ length (pieces_left l.pieces))
    × (sets l.initial.out 0 (areas (pieces_left l.pieces)) ≡ sets l.out (zip_first l.k-iterator).start (areas (pieces_left (zip_second l.k-iterator))))
