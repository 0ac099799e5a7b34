-- `sheet_room` adds up the rooms of rows. Invariant: the room so far and that of the rows left is all.
-- Rests on what `row_room` ensures.
use mathlib.Core.Path.{◌≡◌}
use Prim.Native.Nat.{◌+◌, ◌*◌, ◌≤◌}
use lib.ListN.{drop}
use Rattle.laws.specs.Every.{Every}
use Rattle.job.specs.Job.{rows_room}
use Rattle.job.specs.Rows.{Fits}
use Rattle.job.proofs.room.sheet_room.Given as goal

abbrev pub invariant-loop-row : goal.invariant-loop-row
invariant-loop-row l =
    (l.room ≤ 15 + 32037 * l.row-index) × Every Fits (drop l.row-index l.rows) × (l.room + rows_room (drop l.row-index l.rows) ≡ 15 + rows_room l.rows)
