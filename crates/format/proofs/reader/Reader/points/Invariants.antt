-- `points` reads points one after the other. Invariant: those left are at the place come to, and are still to be put.
-- Rests on what `point` ensures and one turn of a run.
use mathlib.Core.Path.{◌≡◌}
use mathlib.Core.List.{◌++◌}
use Prim.Native.Nat.{◌+◌, ◌-◌, ◌*◌, ◌/◌, ◌≤◌}
use Rattle.std.specs.Prelude.{min, length}
use Rattle.format.specs.Refusals.{number_of}
use Rattle.format.specs.Rows.{faults, each}
use Rattle.format.specs.Numbers.{point_in, point_at, next_point}
use Rattle.format.proofs.reader.Reader.points.Given as goal

abbrev pub invariant-loop-i : goal.invariant-loop-i
invariant-loop-i g l =
    let s = l.initial.self.bytes.now in
    let from = l.initial.self.at in
    (l.self.bytes ≡ l.initial.self.bytes)
    × (l.self.at ≡ from + 8 * l._i)
    × (length l.out.items + min (l.n - l._i) ((length s - l.self.at) / 8) ≤ g.row.N)
    × (faults (point_in s (number_of l.refusal)) next_point l.n from ≡ faults (point_in s (number_of l.refusal)) next_point (l.n - l._i) l.self.at)
    × (l.initial.out.items ++ each (point_at s) next_point l.n from ≡ l.out.items ++ each (point_at s) next_point (l.n - l._i) l.self.at)
