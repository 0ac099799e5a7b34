-- `put_key` copies bytes. Invariant: those left are still to be put.
-- Rests on one turn of a copy.
use mathlib.Core.Path.{◌≡◌}
use Prim.Native.Nat.{◌+◌, ◌-◌}
use lib.ListN.{length, take, drop}
use lib.Seq.{sets}
use Rattle.sheet.proofs.put_key.Given as goal

abbrev pub invariant-loop-k : goal.invariant-loop-k
invariant-loop-k l =
    (length l.out ≡ length l.initial.out)
    × (sets l.initial.out l.at l.key ≡ sets l.out (l.at + l.k) (take (length l.key - l.k) (drop l.k l.key)))
