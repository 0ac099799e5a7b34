-- The rows of a walk by rank, as the code takes them: a row, its cells one after another, and all rows.
use Rattle.std.specs.Prelude.{◌≡◌, ℕ, zero, suc, ◌+◌, ◌-◌, ◌<◌, ◌≤◌, min, Bool, true, false, cond, not, ◌||◌}
use Rattle.std.specs.Prelude.{List, [], ◌∷◌, ◌++◌, map, length, take, ℤ, refl, Float}
use Rattle.std.proofs.Common.{sym, ap, ◌∙◌, arith, length-take}
use mathlib.Core.List.{foldr}
use Rattle.std.proofs.Math.Seq.{take-nil}
use Rattle.std.specs.Float.{binary64}
use Rattle.std.specs.Float.Ieee.{of_int}
use Rattle.float.specs.Ops.{◌+ᶠ◌, ◌-ᶠ◌, ◌*ᶠ◌, ◌/ᶠ◌, ◌≤ᶠ◌, 0ᶠ}
use Rattle.float.specs.Whole.{floor, ceil, as_i64}
use Rattle.glyphs.specs.declared.rect.Point.{Point}
use Rattle.glyphs.specs.Rect.{is_finite}
use Rattle.lattice.specs.Escape.{point}
use Rattle.lattice.specs.Lattice.{hex_enum_cap, row_height, row_offset, row_cells, all_cells}
use Rattle.lattice.specs.Span.{rank_of, of_rank, span, through_cast}
use Rattle.lattice.specs.declared.rows.Field.{Field}

-- the x of the cell of rank i, in a row whose cell 0 is at x
unfoldable pub cell_x : Float → Float → ℕ → Float
cell_x x s i = x +ᶠ of_int binary64 (of_rank i) *ᶠ s

-- n cells of a row at the height y from the rank i on
unfoldable pub cells_from : Float → Float → Float → ℕ → ℕ → List Point
cells_from x y s i zero = []
cells_from x y s i (suc n) = point (cell_x x s i) y ∷ cells_from x y s (i + 1) n

-- the row of rank u, where rows are row-h apart
module _ (field : Field) (row-h : Float) (u : ℕ) where
  abbrev pub row_x : Float
  row_x = field.anchor.x +ᶠ row_offset field.lattice (of_rank u)

  abbrev pub row_y : Float
  row_y = field.anchor.y +ᶠ of_int binary64 (of_rank u) *ᶠ row-h

  abbrev pub first_cell : ℕ
  first_cell = rank_of (as_i64 (floor ((field.extents.min_x -ᶠ row_offset field.lattice (of_rank u) -ᶠ field.anchor.x) /ᶠ field.lattice.spacing)))

  abbrev pub last_cell : ℕ
  last_cell = rank_of (as_i64 (ceil ((field.extents.max_x -ᶠ row_offset field.lattice (of_rank u) -ᶠ field.anchor.x) /ᶠ field.lattice.spacing)))

  -- how many cells it has
  abbrev pub width : ℕ
  width = suc last_cell - first_cell

  -- at most `left` of its cells
  unfoldable pub row_of : ℕ → List Point
  row_of left = cells_from row_x row_y field.lattice.spacing first_cell (min width left)

  unfoldable pub whole_row : List Point
  whole_row = cells_from row_x row_y field.lattice.spacing first_cell width

-- all cells of n rows from rank u on
unfoldable pub rows_from : Field → Float → ℕ → ℕ → List Point
rows_from field row-h u zero = []
rows_from field row-h u (suc n) = whole_row field row-h u ++ rows_from field row-h (u + 1) n

-- n rows from rank u on, each by its cells, as long as more cells may be visited
unfoldable pub some_rows : Field → Float → ℕ → ℕ → ℕ → List (List Point)
some_rows field row-h u zero left = []
some_rows field row-h u (suc n) zero = []
some_rows field row-h u (suc n) (suc l) = row_of field row-h u (suc l) ∷ some_rows field row-h (u + 1) n (suc l - length (row_of field row-h u (suc l)))

-- the cells of rows, one row after another
abbrev pub joined : List (List Point) → List Point
joined [] = []
joined (row ∷ rows) = row ++ joined rows

-- the cells that a walk over a lattice visits
unfoldable pub walk : Field → List Point
walk field =
    cond (field.lattice.spacing ≤ᶠ 0ᶠ || not (is_finite field.lattice.spacing)) []
    (take hex_enum_cap (all_cells field.lattice field.anchor field.extents.min_x field.extents.max_x field.extents.min_y field.extents.max_y))

-- ---- laws

pub length_cells : (x y s : Float) (i n : ℕ) → length (cells_from x y s i n) ≡ n
unfolding cells_from
length_cells x y s i zero = refl
length_cells x y s i (suc n) = ap suc (length_cells x y s (i + 1) n)

pub take_cells : (x y s : Float) (m i n : ℕ) → take m (cells_from x y s i n) ≡ cells_from x y s i (min n m)
unfolding cells_from
take_cells x y s zero i n = let e : min n 0 ≡ 0 = omega arith in rw e
take_cells x y s (suc m) i zero = let e : min 0 (suc m) ≡ 0 = omega arith in rw e
take_cells x y s (suc m) i (suc n) =
    let e : min (suc n) (suc m) ≡ suc (min n m) = omega arith in
    rw e (ap (λ (t : List Point). point (cell_x x s i) y ∷ t) (take_cells x y s m (i + 1) n))

-- a turn of the loop over a row
pub cells_step :
    (x y s : Float) (i k n : ℕ) → k < n → cells_from x y s (i + k) (n - k) ≡ point (cell_x x s (i + k)) y ∷ cells_from x y s (i + (k + 1)) (n - (k + 1))
unfolding cells_from
cells_step x y s i k n h =
    let e : n - k ≡ suc (n - (k + 1)) = omega arith in
    let f : i + k + 1 ≡ i + (k + 1) = omega arith in
    rw (e, f)

pub cells_start : (x y s : Float) (i n : ℕ) → cells_from x y s i n ≡ cells_from x y s (i + 0) (n - 0)
cells_start x y s i n =
    let e : i + 0 ≡ i = omega arith in
    let f : n - 0 ≡ n = omega arith in
    rw (e, f)

pub cells_end : (x y s : Float) (i k n : ℕ) → n ≤ k → cells_from x y s (i + k) (n - k) ≡ []
unfolding cells_from
cells_end x y s i k n h = let e : n - k ≡ 0 = omega arith in rw e

pub no_cells_lem : (x y s : Float) (i n : ℕ) → n ≡ 0 → cells_from x y s i n ≡ []
unfolding cells_from
no_cells_lem x y s i n e = rw e

pub take_append : (m : ℕ) (xs ys : List Point) → take m (xs ++ ys) ≡ take m xs ++ take (m - length xs) ys
take_append zero xs ys = let e : 0 - length xs ≡ 0 = omega arith in rw e
take_append (suc m) [] ys = let e : suc m - 0 ≡ suc m = omega arith in rw e
take_append (suc m) (x ∷ xs) ys =
    let e : suc m - suc (length xs) ≡ m - length xs = omega arith in
    rw e (ap (λ (t : List Point). x ∷ t) (take_append m xs ys))

-- what a walk takes of a row, and what is left then
row_taken : (field : Field) (row-h : Float) (u left : ℕ) → take left (whole_row field row-h u) ≡ row_of field row-h u left
unfolding whole_row row_of
row_taken field row-h u left = take_cells _ _ _ left _ _

row_rest : (field : Field) (row-h : Float) (u left : ℕ) → left - length (whole_row field row-h u) ≡ left - length (row_of field row-h u left)
unfolding whole_row row_of
row_rest field row-h u left = simp length_cells (omega arith)

-- the rows of a walk have the cells of the walk
pub joined_rows : (field : Field) (row-h : Float) (u n left : ℕ) → joined (some_rows field row-h u n left) ≡ take left (rows_from field row-h u n)
unfolding some_rows rows_from
joined_rows field row-h u zero left = sym (take-nil left)
joined_rows field row-h u (suc n) zero = refl
joined_rows field row-h u (suc n) (suc l) =
    rw (take_append (suc l) (whole_row field row-h u) (rows_from field row-h (u + 1) n), row_taken field row-h u (suc l), row_rest field row-h u (suc l))
    (ap (λ (t : List Point). row_of field row-h u (suc l) ++ t) (joined_rows field row-h (u + 1) n (suc l - length (row_of field row-h u (suc l)))))

-- no cells are visited where the last row comes before the first
pub no_rows : (left : ℕ) (field : Field) (row-h : Float) (u last : ℕ) → last < u → take left (rows_from field row-h u (suc last - u)) ≡ []
unfolding rows_from
no_rows left field row-h u last h =
    let z : suc last - u ≡ 0 = omega arith in
    ap (λ (n : ℕ). take left (rows_from field row-h u n)) z ∙ take-nil left

-- ---- the rows by rank are the source's
cells_are : (x y s : Float) (i n : ℕ) → map (λ (j : ℤ). point (x +ᶠ of_int binary64 j *ᶠ s) y) (map of_rank (span i n)) ≡ cells_from x y s i n
unfolding span cells_from cell_x
cells_are x y s i zero = refl
cells_are x y s i (suc n) = ap (λ (t : List Point). point (cell_x x s i) y ∷ t) (cells_are x y s (i + 1) n)

pub row_cells_lem :
    (field : Field) (u : ℕ)
    → row_cells field.lattice field.anchor field.extents.min_x field.extents.max_x (of_rank u) ≡ whole_row field (row_height field.lattice) u
unfolding row_cells whole_row
row_cells_lem field u =
    let s = field.lattice.spacing in
    let offset = row_offset field.lattice (of_rank u) in
    let x = field.anchor.x +ᶠ offset in
    let y = field.anchor.y +ᶠ of_int binary64 (of_rank u) *ᶠ row_height field.lattice in
    ap (map (λ (i : ℤ). point (x +ᶠ of_int binary64 i *ᶠ s) y))
    (through_cast (floor ((field.extents.min_x -ᶠ offset -ᶠ field.anchor.x) /ᶠ s)) (ceil ((field.extents.max_x -ᶠ offset -ᶠ field.anchor.x) /ᶠ s)))
    ∙ cells_are x y s _ _

rows_are :
    (field : Field) (u n : ℕ)
    → foldr (λ (j : ℤ) (later : List Point). row_cells field.lattice field.anchor field.extents.min_x field.extents.max_x j ++ later) []
    (map of_rank (span u n))
    ≡ rows_from field (row_height field.lattice) u n
unfolding span rows_from
rows_are field u zero = refl
rows_are field u (suc n) = rw (row_cells_lem field u, rows_are field (u + 1) n)

-- the ranks of the first and the last row
abbrev pub first_row : Field → Float → ℕ
first_row field row-h = rank_of (as_i64 (floor ((field.extents.min_y -ᶠ field.anchor.y) /ᶠ row-h)))

abbrev pub last_row : Field → Float → ℕ
last_row field row-h = rank_of (as_i64 (ceil ((field.extents.max_y -ᶠ field.anchor.y) /ᶠ row-h)))

pub all_cells_lem :
    (field : Field)
    → let row-h = row_height field.lattice in
    all_cells field.lattice field.anchor field.extents.min_x field.extents.max_x field.extents.min_y field.extents.max_y
    ≡ rows_from field row-h (first_row field row-h) (suc (last_row field row-h) - first_row field row-h)
unfolding all_cells
all_cells_lem field =
    let row-h = row_height field.lattice in
    ap (foldr (λ (j : ℤ) (later : List Point). row_cells field.lattice field.anchor field.extents.min_x field.extents.max_x j ++ later) [])
    (through_cast (floor ((field.extents.min_y -ᶠ field.anchor.y) /ᶠ row-h)) (ceil ((field.extents.max_y -ᶠ field.anchor.y) /ᶠ row-h)))
    ∙ rows_are field (first_row field row-h) (suc (last_row field row-h) - first_row field row-h)

-- ---- the cells of a walk, row by row
module _ (field : Field) where
  pub no_walk : (field.lattice.spacing ≤ᶠ 0ᶠ || not (is_finite field.lattice.spacing)) ≡ true → walk field ≡ []
  unfolding walk
  no_walk e = rw e

  module _ (e : (field.lattice.spacing ≤ᶠ 0ᶠ || not (is_finite field.lattice.spacing)) ≡ false) where
    pub walked :
        let row-h = row_height field.lattice in
        joined (some_rows field row-h (first_row field row-h) (suc (last_row field row-h) - first_row field row-h) hex_enum_cap) ≡ walk field
    unfolding walk
    walked =
        let row-h = row_height field.lattice in
        joined_rows field row-h (first_row field row-h) (suc (last_row field row-h) - first_row field row-h) hex_enum_cap
        ∙ rw e (ap (take hex_enum_cap) (sym (all_cells_lem field)))

    pub empty_walk : let row-h = row_height field.lattice in last_row field row-h < first_row field row-h → walk field ≡ []
    empty_walk h =
        let row-h = row_height field.lattice in
        sym walked ∙ joined_rows field row-h _ _ _ ∙ no_rows hex_enum_cap field row-h (first_row field row-h) (last_row field row-h) h

no_more : (n : ℕ) (t : Bool) (ps : List Point) → length (cond t [] (take n ps)) ≤ n
no_more n true ps = omega arith
no_more n false ps = omega (arith, length-take n ps)

pub walk_le : (field : Field) → length (walk field) ≤ hex_enum_cap
unfolding walk
walk_le field = no_more hex_enum_cap _ _
