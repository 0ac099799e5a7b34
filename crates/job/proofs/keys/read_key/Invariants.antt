-- `read_key` reads the bytes of a key. Invariant: those left are at the place come to.
-- Rests on what `read_letter` ensures and one turn of a run.
use mathlib.Core.Path.{◌≡◌}
use Prim.Native.Nat.{◌+◌, ◌-◌}
use Rattle.format.specs.Rows.{faults}
use Rattle.job.specs.Zones.{letter_fault, next_byte}
use Rattle.job.proofs.keys.read_key.Given as goal

abbrev pub invariant-loop-i : goal.invariant-loop-i
invariant-loop-i l =
    let s = l.initial.job.bytes.now in
    let from = l.initial.job.at in
    (l.job.bytes ≡ l.initial.job.bytes)
    × (l.job.at ≡ from + l._i)
    × (faults (letter_fault s) next_byte l.n from ≡ faults (letter_fault s) next_byte (l.n - l._i) l.job.at)
