-- The walk over a lattice as the code takes it: the cells of a row, and the rows that are still to come.
-- Rests on the laws of the rows by rank.
use Rattle.std.specs.Prelude.{◌≡◌, ℕ, zero, suc, ◌+◌, ◌-◌, ◌<◌, ◌≤◌, List, [], ◌∷◌, length, refl, Float}
use Rattle.std.proofs.Common.{sym, ap, ◌∙◌, arith, length-append}
use Rattle.glyphs.specs.declared.rect.Point.{Point}
use Rattle.lattice.specs.Rows.{cells_from, length_cells, row_of, some_rows, joined}
use Rattle.lattice.specs.declared.row.Row.{Row}
use Rattle.lattice.specs.declared.rows.Field.{Field}
use Rattle.lattice.specs.declared.walk.Rows.{Rows}

abbrev pub cells_in : Row → List Point
cells_in row = cells_from row.x row.y row.spacing row.first row.count

abbrev pub rows_left : Rows → List (List Point)
rows_left rows = some_rows rows.field rows.row_h rows.rank (suc rows.last - rows.rank) rows.left

-- the cells that are still to be visited
abbrev pub cells_left : Rows → List Point
cells_left rows = joined (rows_left rows)

-- ---- laws
pub length_in : (row : Row) → length (cells_in row) ≡ row.count
length_in row = length_cells row.x row.y row.spacing row.first row.count

-- so many cells are left as the next row has, and the others
pub length_left :
    (rows : Rows) (row : Row) (others : List (List Point)) → rows_left rows ≡ cells_in row ∷ others
    → length (cells_left rows) ≡ row.count + length (joined others)
length_left rows row others e =
    ap (λ (l : List (List Point)). length (joined l)) e
    ∙ length-append (cells_in row) (joined others)
    ∙ ap (λ (n : ℕ). n + length (joined others)) (length_in row)

module _ (field : Field) (row-h : Float) where
  pub none_from : (u n : ℕ) → some_rows field row-h u n 0 ≡ []
  unfolding some_rows
  none_from u zero = refl
  none_from u (suc n) = refl

-- a row taken off, and the others
module _ (field : Field) (row-h : Float) where
  some_step :
      (u last left : ℕ) (cells : List Point) → cells ≡ row_of field row-h u left → 0 < left → u ≤ last
      → some_rows field row-h u (suc last - u) left ≡ cells ∷ some_rows field row-h (u + 1) (suc last - (u + 1)) (left - length cells)
  unfolding some_rows
  some_step u last zero cells e h k = absurd (omega arith)
  some_step u last (suc l) cells e h k = let n : suc last - u ≡ suc (suc last - (u + 1)) = omega arith in rw (n, e)

  pub row_next :
      (u last left : ℕ) (row : Row) → cells_in row ≡ row_of field row-h u left → 0 < left → u ≤ last
      → some_rows field row-h u (suc last - u) left ≡ cells_in row ∷ some_rows field row-h (u + 1) (suc last - (u + 1)) (left - row.count)
  row_next u last left row e h k = some_step u last left (cells_in row) e h k ∙ rw (length_in row)

  pub row_last :
      (u last left : ℕ) (row : Row) → cells_in row ≡ row_of field row-h u left → 0 < left → u ≡ last
      → some_rows field row-h u (suc last - u) left ≡ cells_in row ∷ some_rows field row-h u (suc last - u) 0
  unfolding some_rows
  row_last u last left row e h k =
      let n : suc last - (u + 1) ≡ 0 = omega arith in
      row_next u last left row e h (omega arith) ∙ rw n (ap (λ (rows : List (List Point)). cells_in row ∷ rows) (sym (none_from field row-h u (suc last - u))))
