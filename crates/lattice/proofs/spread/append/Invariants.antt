-- `append` meets its contract. The invariant: the first `k` floats are copied.
-- Rests on the kit's laws of a copy.
use Rattle.std.proofs.Common.{◌≡◌, ◌*◌, length}
use lib.Seq.{paste}
use Rattle.lattice.proofs.spread.append.Given as goal

abbrev pub invariant-loop-k : goal.invariant-loop-k
invariant-loop-k l =
    (l.a ≡ l.at * 2) × (length l.spots ≡ length l.initial.spots) × (l.spots ≡ paste l.initial.spots (l.at * 2) l.cells l.k)
