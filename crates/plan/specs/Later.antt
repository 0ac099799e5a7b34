-- Which numbers the rows refuse with: 1 and 2 by the lent slices, and neither by the rows after them.
-- Rests on how the table of refusals is read.
use Rattle.std.specs.Prelude.{ℕ, zero, suc, ◌+◌, ◌*◌, ◌≡◌, refl, Bool, true, false, ◌||◌, List, eqb, None, Some, Option, Float}
use Rattle.format.specs.Rows.{◌unless◌, ◌or_else◌, faults}
use Rattle.format.specs.Numbers.{u8, u16, item, coord_in, next_coord}
use Rattle.format.specs.Pieces.{ring_fault, ring_end, piece_fault, piece_end}
use Rattle.job.specs.Head.{lent_fault, work_fault, number_after, choices_fault, measures_fault, head_fault, obstacles_at, obstacles_fault}
use Rattle.job.specs.Zones.{Place, next_byte, letter_fault, key_fault, counts_fault, count_at, pieces_at, opening_fault, zone_fault, zone_next}
use Rattle.job.specs.Job.{Job, job_of, zones_at, first_zone, zones_fault, items_fault, sheet_fault}
use Rattle.job.specs.Plan.{search_fault, low_fault, ceiling_fault}
use Rattle.plan.specs.Called.{items_number}

-- the number is 1 or 2
abbrev pub is_early : ℕ → Bool
is_early number = eqb number 1 || eqb number 2

-- ---- rows 1 and 2

abbrev Early : ℕ → Type 0
Early number = (number ≡ 0 → ⊥) → is_early number ≡ true

early_unless : (number : ℕ) (test : Bool) → is_early number ≡ true → Early (number unless test)
unfolding ◌unless◌
early_unless number true h z = absurd (z refl)
early_unless number false h z = h

early_else : (x y : ℕ) → Early x → Early y → Early (x or_else y)
unfolding ◌or_else◌
early_else zero y h k = k
early_else (suc x) y h k = h

pub lent_early : (s : List ℕ) → (lent_fault s ≡ 0 → ⊥) → is_early (lent_fault s) ≡ true
unfolding lent_fault
lent_early s = early_else _ _ (early_unless 1 _ refl) (early_else _ _ (early_unless 1 _ refl) (early_unless 1 _ refl))

pub work_early : (first second : ℕ) → (work_fault first second ≡ 0 → ⊥) → is_early (work_fault first second) ≡ true
unfolding work_fault
work_early first second = early_else _ _ (early_unless 2 _ refl) (early_unless 2 _ refl)

-- ---- rows 3 to 16

abbrev Later : ℕ → Type 0
Later number = is_early number ≡ false

later_unless : (number : ℕ) (test : Bool) → Later number → Later (number unless test)
unfolding ◌unless◌
later_unless number true h = refl
later_unless number false h = h

later_else : (x y : ℕ) → Later x → Later y → Later (x or_else y)
unfolding ◌or_else◌
later_else zero y h k = k
later_else (suc x) y h k = h

later_faults : {S : Type 0} (fault : S → ℕ) (next : S → S) → ((at : S) → Later (fault at)) → (n : ℕ) (at : S) → Later (faults fault next n at)
unfolding faults
later_faults fault next h zero at = refl
later_faults fault next h (suc n) at = later_else (fault at) (faults fault next n (next at)) (h at) (later_faults fault next h n (next at))

later_item : (n : ℕ) (s : List ℕ) (at least most number : ℕ) → Later number → Later (item n s at least most number)
unfolding item
later_item n s at least most number h = later_else _ _ (later_unless 6 _ refl) (later_unless number _ h)

later_coord : (s : List ℕ) (number : ℕ) → Later number → (at : ℕ) → Later (coord_in s number at)
unfolding coord_in
later_coord s number h at = later_else _ _ (later_unless 6 _ refl) (later_unless number _ h)

later_after : (kind : ℕ) (s : List ℕ) (at most : ℕ) → Later (number_after kind s at most)
unfolding number_after
later_after zero s at most = later_item 4 s at 0 0 5 refl
later_after (suc kind) s at most = later_item 4 s at 0 most 4 refl

module _ (s : List ℕ) where
  later_choices : Later (choices_fault s)
  unfolding choices_fault
  later_choices =
      later_else _ _ (later_item 1 s _ 0 3 4 refl)
      (later_else _ _ (later_item 1 s _ 0 1 4 refl) (later_else _ _ (later_item 1 s _ 0 1 4 refl) (later_after _ s _ _)))

  later_measures : Later (measures_fault s)
  unfolding measures_fault
  later_measures =
      later_else _ _ (later_item 4 s _ 0 16384 4 refl)
      (later_else _ _ (later_item 1 s _ 0 1 4 refl)
      (later_else _ _ (later_after _ s _ _)
      (later_else _ _ (later_item 4 s _ 1 1048576 4 refl)
      (later_else _ _ (later_item 4 s _ 0 2000 4 refl) (later_unless 6 _ refl)))))

  later_head : Later (head_fault s)
  unfolding head_fault
  later_head = later_else _ _ (later_item 1 s _ 1 1 3 refl) (later_else (choices_fault s) (measures_fault s) later_choices later_measures)

  later_obstacles : Later (obstacles_fault s)
  unfolding obstacles_fault
  later_obstacles =
      later_else _ _ (later_item 2 s obstacles_at 0 64 8 refl)
      (later_faults (coord_in s 8) next_coord (later_coord s 8 refl) (4 * u16 s obstacles_at) (obstacles_at + 2))

  later_ring : (at : ℕ) → Later (ring_fault s at)
  unfolding ring_fault
  later_ring at = later_else _ _ (later_item 2 s at 0 256 9 refl) (later_faults (coord_in s 13) next_coord (later_coord s 13 refl) (2 * u16 s at) (at + 2))

  later_piece : (at : ℕ) → Later (piece_fault s at)
  unfolding piece_fault
  later_piece at = later_else _ _ (later_item 1 s at 1 9 9 refl) (later_faults (ring_fault s) (ring_end s) later_ring (u8 s at) (at + 1))

  later_letter : (at : ℕ) → Later (letter_fault s at)
  unfolding letter_fault
  later_letter at = later_else _ _ (later_unless 6 _ refl) (later_unless 10 _ refl)

  later_key : (at : ℕ) (last : List ℕ) → Later (key_fault s at last)
  unfolding key_fault
  later_key at last =
      later_else _ _ (later_item 1 s at 1 32 9 refl)
      (later_else _ _ (later_faults (letter_fault s) next_byte later_letter (u8 s at) (at + 1)) (later_unless 11 _ refl))

  later_counts : (at marks : ℕ) → Later (counts_fault s at marks)
  unfolding counts_fault
  later_counts at marks = later_else _ _ (later_item 2 s at 0 2000 9 refl) (later_else _ _ (later_unless 12 _ refl) (later_item 1 s (at + 2) 0 16 9 refl))

  later_opening : (z : Place) → Later (opening_fault s z)
  unfolding opening_fault
  later_opening z = later_else _ _ (later_key z.at z.last) (later_counts (count_at s z.at) z.marks)

  later_zone : (z : Place) → Later (zone_fault s z)
  unfolding zone_fault
  later_zone z = later_else _ _ (later_opening z) (later_faults (piece_fault s) (piece_end s) later_piece (pieces_at s z.at) (count_at s z.at + 3))

  later_zones : Later (zones_fault s)
  unfolding zones_fault
  later_zones =
      later_else _ _ (later_item 2 s (zones_at s) 0 64 9 refl)
      (later_else _ _ (later_faults (zone_fault s) (zone_next s) later_zone (u16 s (zones_at s)) (first_zone s)) (later_unless 7 _ refl))

  later_items : Later (items_fault s)
  unfolding items_fault
  later_items =
      later_else (head_fault s) (obstacles_fault s or_else zones_fault s) later_head
      (later_else (obstacles_fault s) (zones_fault s) later_obstacles later_zones)

later_low : (ceiling : Option Float) → Later (low_fault ceiling)
unfolding low_fault
later_low None = refl
later_low (Some r-hi) = later_unless 16 _ refl

later_sheet : (job : Job) (sheet : ℕ) → Later (sheet_fault job sheet)
unfolding sheet_fault
later_sheet job sheet = later_unless 14 _ refl

later_search : (job : Job) → Later (search_fault job)
unfolding search_fault
later_search job = later_unless 15 _ refl

later_ceiling : (job : Job) → Later (ceiling_fault job)
unfolding ceiling_fault
later_ceiling job = later_low _

pub items_later : (s : List ℕ) (sheet : ℕ) → is_early (items_number s sheet) ≡ false
items_later s sheet =
    let job = job_of s in
    later_else (items_fault s) (sheet_fault job sheet or_else search_fault job or_else ceiling_fault job) (later_items s)
    (later_else (sheet_fault job sheet) (search_fault job or_else ceiling_fault job) (later_sheet job sheet)
    (later_else (search_fault job) (ceiling_fault job) (later_search job) (later_ceiling job)))
