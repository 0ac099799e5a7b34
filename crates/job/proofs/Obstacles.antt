-- The obstacles, read one after the other, are those of the job: four coordinates each.
-- Rests on the laws of runs.
use Rattle.std.specs.Prelude.{ℕ, zero, suc, ◌+◌, ◌*◌, ◌/◌, ◌<◌, ◌≤◌, ◌≡◌, refl, List, length, slice_index_or, Float}
use Rattle.std.proofs.Common.{ap, ◌∙◌, arith}
use Rattle.std.specs.Float.{nan}
use Rattle.glyphs.specs.Rect.{rect_at, rects_from, rectangles}
use Rattle.format.specs.Rows.{faults, past, each}
use Rattle.format.specs.Numbers.{u16, coord_in, coord_at, next_coord, point_at}
use Rattle.format.specs.RowLaws.{faults_by, length_each, each_at}
use Rattle.job.specs.Head.{obstacles_from, rectangle_fault, rectangle, next_rectangle}

past_coords : (n at : ℕ) → past next_coord n at ≡ at + 4 * n
unfolding past
past_coords zero at = omega arith
past_coords (suc n) at = past_coords n (at + 4) ∙ omega arith

-- four coordinates at a time
pub faults_rectangles : (s : List ℕ) (n at : ℕ) → faults (coord_in s 8) next_coord (4 * n) at ≡ faults (rectangle_fault s) next_rectangle n at
unfolding rectangle_fault
faults_rectangles s = faults_by (coord_in s 8) next_coord next_rectangle 4 (past_coords 4)

module _ (s : List ℕ) (n at : ℕ) where
  coords : List Float
  coords = each (coord_at s) next_coord n at

  coord_is : (i to : ℕ) → i < n → at + 4 * i ≡ to → slice_index_or coords i nan ≡ coord_at s to
  unfolding coords
  coord_is i to h e = each_at next_coord (coord_at s) n at nan i h ∙ ap (coord_at s) (past_coords i at ∙ e)

  rects_are : (k m : ℕ) → 4 * (k + m) ≤ n → rects_from coords k m ≡ each (rectangle s) next_rectangle m (at + 16 * k)
  unfolding rects_from rect_at each rectangle point_at
  rects_are k zero h = refl
  rects_are k (suc m) few =
      let from = at + 16 * k in
      let x = coord_is (k * 4) from (omega arith) (omega arith) in
      let y = coord_is (k * 4 + 1) (from + 4) (omega arith) (omega arith) in
      let w = coord_is (k * 4 + 2) (from + 8) (omega arith) (omega arith) in
      let h = coord_is (k * 4 + 3) (from + 12) (omega arith) (omega arith) in
      let e : at + 16 * (k + 1) ≡ from + 16 = omega arith in
      rw (x, y, w, h, rects_are (k + 1) m (omega arith), e)

pub obstacles_are : (s : List ℕ) (at : ℕ) → rectangles (obstacles_from s at) ≡ each (rectangle s) next_rectangle (u16 s at) (at + 2)
unfolding rectangles coords
obstacles_are s at =
    let n = u16 s at in
    let l = length_each next_coord (coord_at s) (4 * n) (at + 2) in
    let q : length (obstacles_from s at) / 4 ≡ n = omega arith in
    let z : at + 2 + 16 * 0 ≡ at + 2 = omega arith in
    rw q (rw z at (rects_are s (4 * n) (at + 2) 0 n (omega arith)))
