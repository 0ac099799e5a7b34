-- `sheet_room` adds up the rooms of rows. Invariant: the room so far and that of the rows left is all.
-- Rests on what `row_room` ensures.
use mathlib.Core.Path.{◌≡◌, refl}
use mathlib.Core.List.{List}
use Prim.Native.Nat.{ℕ, ◌+◌, ◌<◌}
use native.Mathlib.Omega.{arith}
use native.Mathlib.Numerals.{add-one}
use lib.ListN.{length, drop, get_or}
use lib.Seq.{drop-cons}
use Rattle.laws.specs.Every.{Every}
use Rattle.discs.specs.declared.rows.Row.{Row}
use Rattle.job.specs.Job.{row_room, rows_room}
use Rattle.job.specs.Rows.{Fits, rooms_turn, rooms_end}
use Rattle.job.proofs.room.sheet_room.Goals as goal

fits_turn : (rows : List Row) (k : ℕ) (d : Row) → k < length rows → Every Fits (drop k rows) → Fits (get_or rows k d) × Every Fits (drop (k + 1) rows)
fits_turn rows k d h e = rw (add-one k) (rw (drop-cons rows k d h) at e)

fits_rest : (rows : List Row) (k : ℕ) → k < length rows → Every Fits (drop k rows) → Every Fits (drop (k + 1) rows)
fits_rest rows k h e = (fits_turn rows k (record { key = 0; len = 0; count = 0; pieces = 0 }) h e).1

-- the room with that of the row at hand
next_room :
    (rows : List Row) (k room part all : ℕ) (d : Row) → k < length rows → part ≡ row_room (get_or rows k d) → room + rows_room (drop k rows) ≡ all
    → room + part + rows_room (drop (k + 1) rows) ≡ all
next_room rows k room part all d h p e = omega (arith, rooms_turn rows k d h)

pub loop-row-init : goal.loop-row-init
loop-row-init c = (omega arith, c.requires.1, refl)

pub row_room-room-requires : goal.row_room-room-requires
row_room-room-requires c = (fits_turn _ _ _ c.loop-row-test.true c.loop-row.invariant.1).0

pub loop-row-preserved : goal.loop-row-preserved
loop-row-preserved c =
    let l = c.loop-row in
    let h = c.loop-row-test.true in
    let r = c.row_room-room.ensures in
    (omega (arith, r.1), fits_rest _ _ h l.invariant.1, next_room c.args.rows.now l.row-index l.room _ _ _ h r.0 l.invariant.2)

pub returns : goal.returns
returns c =
    let l = c.loop-row in
    omega (arith, rooms_end c.args.rows.now l.row-index c.loop-row-test.false, l.invariant.2)
