-- `search_pieces` finds the deepest points. Invariant: those of the pieces left are still to be found and put.
-- Rests on one turn of a walk over pieces.
use mathlib.Core.Path.{◌≡◌}
use Prim.Native.Nat.{◌+◌}
use lib.ListN.{length}
use lib.Seq.{sets}
use Rattle.std.specs.Iterator.Adapters.{zip_first, zip_second}
use Rattle.std.specs.Slice.Iter.{iter_rest}
use Rattle.std.specs.Prelude.{true}
use Rattle.laws.specs.Any.{all}
use Rattle.discs.specs.Searches.{had_room}
use Rattle.discs.specs.Slices.{pieces_left}
use Rattle.plan.specs.Found.{found_in}
use Rattle.plan.proofs.searches.search_pieces.Given as goal

abbrev pub invariant-loop-k : goal.invariant-loop-k
invariant-loop-k l =
    (length l.deepest ≡ length l.initial.deepest)
    × ((zip_first l.k-iterator).end ≡ length (pieces_left l.pieces))
    × ((zip_first l.k-iterator).start + length (pieces_left (zip_first (zip_second l.k-iterator))) ≡ length (pieces_left l.pieces))
    × (all had_room (found_in l.options true (pieces_left l.pieces) l.quotas)
    ≡ all had_room (found_in l.options true (pieces_left (zip_first (zip_second l.k-iterator))) (iter_rest (zip_second (zip_second l.k-iterator)))))
    × (sets l.initial.deepest 0 (found_in l.options true (pieces_left l.pieces) l.quotas)
    ≡ sets l.deepest (zip_first l.k-iterator).start
    (found_in l.options true (pieces_left (zip_first (zip_second l.k-iterator))) (iter_rest (zip_second (zip_second l.k-iterator)))))
