-- Laws of rows: what the rows of a job without fault say of its zones, and the room that its sheet may want.
-- Rests on the laws of runs and zones.
use Rattle.std.specs.Prelude.{ℕ, zero, suc, ◌+◌, ◌*◌, ◌<◌, ◌≤◌, ◌≡◌, Bool, true, false, cond, List, [], ◌∷◌, length, take, drop, get_or}
use Rattle.std.proofs.Math.Path.{refl, ap}
use Rattle.std.proofs.Common.{sym, ◌∙◌, arith, add-one, drop-cons, drop_of_length-le}
use Rattle.laws.specs.Every.{Every}
use Rattle.format.specs.Rows.{faults, each, past}
use Rattle.format.specs.Numbers.{u8, u16}
use Rattle.format.specs.Pieces.{piece, piece_end}
use Rattle.format.specs.RowLaws.{both, length_each}
use Rattle.format.specs.NumberLaws.{item_passed, length_part}
use Rattle.discs.specs.Region.{Zone}
use Rattle.discs.specs.PlaceGlyphs.{is_left_in, work_of}
use Rattle.discs.specs.Floor.{row_is_left_in}
use Rattle.discs.specs.declared.rows.Row.{Row}
use Rattle.job.specs.Zones.{Place, zone, zone_end, zone_next, zone_fault, opening_fault, key_fault, key_at, count_at, pieces_at, row_at}
use Rattle.job.specs.ZoneLaws.{key_inside, opening_passed}
use Rattle.job.specs.Job.{zones_at, first_zone, zones, zones_fault, items_fault, job_of, zones_room, sheet_room, row_room, rows_room, rows_of}

-- its key and its marks are few enough for a sheet
pub record Fits (row : Row) : Type 0 where
  pub short : row.len ≤ 32
  pub few : row.count ≤ 2000

-- the row is the zone's
pub record IsRow (s : List ℕ) (z : Zone) (row : Row) : Type 0 where
  pub key : take row.len (drop row.key s) ≡ z.key
  pub len : row.len ≡ length z.key
  pub count : row.count ≡ z.count
  pub pieces : row.pieces ≡ length z.pieces
  pub inside : row.key + row.len ≤ length s
  pub fits : Fits row
  pub some : row.pieces ≤ 16

is_row : (s : List ℕ) (z : Place) → zone_fault s z ≡ 0 → IsRow s (zone s z.at) (row_at s z.at)
unfolding zone_fault opening_fault key_fault row_at zone key_at
is_row s z e =
    let at = z.at in
    let o = (both _ _ e).0 in
    let k = (both _ _ o).0 in
    let c = opening_passed s z o in
    let l : at + 1 + u8 s at ≤ length s = key_inside s at z.last k in
    record {
      key = refl;
      len = sym (length_part s (at + 1) (u8 s at) l);
      count = refl;
      pieces = sym (length_each (piece_end s) (piece s) (pieces_at s at) (count_at s at + 3));
      inside = l;
      fits = record { short = (item_passed 1 s at 1 32 9 (omega arith) (both _ _ k).0).to; few = omega (arith, c.total) };
      some = c.pieces;
    }

-- each row is the zone's
unfoldable pub AreRows : List ℕ → List Zone → List Row → Type 0
AreRows s [] [] = Unit {0}
AreRows s [] (row ∷ rows) = ⊥
AreRows s (z ∷ zs) [] = ⊥
AreRows s (z ∷ zs) (row ∷ rows) = IsRow s z row × AreRows s zs rows

pub rows_fit : (s : List ℕ) (zs : List Zone) (rows : List Row) → AreRows s zs rows → Every Fits rows
unfolding AreRows
rows_fit s [] [] r = tt
rows_fit s [] (row ∷ rows) r = absurd r
rows_fit s (z ∷ zs) [] r = absurd r
rows_fit s (z ∷ zs) (row ∷ rows) r = (r.0.fits, rows_fit s zs rows r.1)

pub length_are : (s : List ℕ) (zs : List Zone) (rows : List Row) → AreRows s zs rows → length rows ≡ length zs
unfolding AreRows
length_are s [] [] r = refl
length_are s [] (row ∷ rows) r = absurd r
length_are s (z ∷ zs) [] r = absurd r
length_are s (z ∷ zs) (row ∷ rows) r = ap suc (length_are s zs rows r.1)

rows_are_lem :
    (s : List ℕ) (n : ℕ) (z : Place) → faults (zone_fault s) (zone_next s) n z ≡ 0
    → AreRows s (each (zone s) (zone_end s) n z.at) (each (row_at s) (zone_end s) n z.at)
unfolding faults AreRows each zone_next
rows_are_lem s zero z e = tt
rows_are_lem s (suc n) z e =
    let p = both (zone_fault s z) (faults (zone_fault s) (zone_next s) n (zone_next s z)) e in
    (is_row s z p.0, rows_are_lem s n (zone_next s z) p.1)

-- a row for each zone
pub rows_count : (s : List ℕ) → length (rows_of s) ≡ u16 s (zones_at s)
unfolding rows_of
rows_count s = length_each (zone_end s) (row_at s) (u16 s (zones_at s)) (zones_at s + 2)

-- ---- the room

left_in : (s : List ℕ) (z : Zone) (row : Row) → IsRow s z row → row_is_left_in row ≡ is_left_in z
unfolding row_is_left_in is_left_in
left_in s z row r = rw (r.count, r.pieces)

one_room : (b : Bool) (z : Zone) (n : ℕ) (zs : List Zone) → n ≡ 5 + length z.key + 16 * z.count → cond b n 0 + zones_room zs ≡ zones_room (cond b (z ∷ zs) zs)
unfolding zones_room
one_room true z n zs e = rw e
one_room false z n zs e = omega arith

row_room_lem : (s : List ℕ) (z : Zone) (row : Row) (zs : List Zone) → IsRow s z row → row_room row + zones_room (work_of zs) ≡ zones_room (work_of (z ∷ zs))
unfolding row_room work_of
row_room_lem s z row zs r = rw (left_in s z row r) (one_room (is_left_in z) z _ (work_of zs) (rw (r.len, r.count)))

rows_room_lem : (s : List ℕ) (zs : List Zone) (rows : List Row) → AreRows s zs rows → rows_room rows ≡ zones_room (work_of zs)
unfolding AreRows rows_room
rows_room_lem s [] [] r = unfold work_of zones_room in refl
rows_room_lem s [] (row ∷ rows) r = absurd r
rows_room_lem s (z ∷ zs) [] r = absurd r
rows_room_lem s (z ∷ zs) (row ∷ rows) r = ap (λ (x : ℕ). row_room row + x) (rows_room_lem s zs rows r.1) ∙ row_room_lem s z row zs r.0

-- ---- by number

past_at : (s : List ℕ) (i : ℕ) (z : Place) → (past (zone_next s) i z).at ≡ past (zone_end s) i z.at
unfolding past zone_next
past_at s zero z = refl
past_at s (suc i) z = past_at s i (zone_next s z)

-- ---- one turn of a walk over rows

pub rooms_turn : (rows : List Row) (k : ℕ) (d : Row) → k < length rows → rows_room (drop k rows) ≡ row_room (get_or rows k d) + rows_room (drop (k + 1) rows)
unfolding rows_room
rooms_turn rows k d h = rw (add-one k, drop-cons rows k d h)

pub rooms_end : (rows : List Row) (k : ℕ) → length rows ≤ k → rows_room (drop k rows) ≡ 0
unfolding rows_room
rooms_end rows k h = rw (drop_of_length-le rows h)

-- ---- the rows of a job without fault

module _ (s : List ℕ) (ok : items_fault s ≡ 0) where
  no_fault : faults (zone_fault s) (zone_next s) (u16 s (zones_at s)) (first_zone s) ≡ 0
  unfolding items_fault zones_fault
  no_fault = (both _ _ (both _ _ (both _ _ (both _ _ ok).1).1).1).0

  -- the rows that the reader leaves are the zones', one by one
  pub rows_are : AreRows s (zones s) (rows_of s)
  unfolding rows_of zones
  rows_are = rows_are_lem s (u16 s (zones_at s)) (first_zone s) no_fault

  pub room_is : 15 + rows_room (rows_of s) ≡ sheet_room (job_of s)
  unfolding sheet_room job_of
  room_is = ap (λ (x : ℕ). 15 + x) (rows_room_lem s (zones s) (rows_of s) rows_are)
