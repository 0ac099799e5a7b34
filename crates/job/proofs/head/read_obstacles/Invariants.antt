-- `read_obstacles` reads obstacles one after the other. Invariant: those left are at the place come to, and are still to be put.
-- Rests on what `read_rectangle` ensures and one turn of a run.
use mathlib.Core.Path.{◌≡◌}
use mathlib.Core.List.{◌++◌}
use Prim.Native.Nat.{◌+◌, ◌-◌, ◌*◌}
use lib.ListN.{length}
use Rattle.format.specs.Rows.{faults, each}
use Rattle.job.specs.Head.{rectangle_fault, rectangle, next_rectangle}
use Rattle.job.proofs.head.read_obstacles.Given as goal

abbrev pub invariant-loop-i : goal.invariant-loop-i
invariant-loop-i g l =
    let s = l.initial.job.bytes.now in
    let from = l.initial.job.at in
    let left = l.n - l._i in
    record {
      same : l.job.bytes ≡ l.initial.job.bytes;
      at : l.job.at ≡ from + 16 * l._i;
      put : length l.out.items ≡ length l.initial.out.items + l._i;
      faults : faults (rectangle_fault s) next_rectangle l.n from ≡ faults (rectangle_fault s) next_rectangle left l.job.at;
      items : l.initial.out.items ++ each (rectangle s) next_rectangle l.n from ≡ l.out.items ++ each (rectangle s) next_rectangle left l.job.at;
    }
