-- The walk where only the cells nearest to the anchor are kept, in order, and that they are the first of the definition's sorted cells.
-- Rests on the law of a list kept in order as it grows.
use Rattle.std.specs.Prelude.{◌≡◌, ℕ, zero, suc, ◌+◌, ◌-◌, ◌<◌, ◌≤◌, min, Bool, true, false, cond, List, [], ◌∷◌, ◌++◌, length, take, Float}
use Rattle.std.proofs.Math.Path.{refl, ap}
use Rattle.std.proofs.Common.{◌∙◌, arith, length-take}
use mathlib.Core.List.{foldl, foldl-append}
use Rattle.laws.specs.Bounded.{insert_behind, length_behind, take_ascending, behind_ascending, first_next}
use Rattle.laws.specs.Sorted.{Ascending}
use Rattle.laws.specs.Sort.{sort_by}
use Rattle.float.specs.Ops.{◌≥ᶠ◌}
use Rattle.glyphs.specs.declared.rect.Point.{Point}
use Rattle.glyphs.specs.declared.rect.Rectangle.{Rectangle}
use Rattle.glyphs.specs.Rect.{clear_of_obstacles}
use Rattle.regions.specs.Ring.{Piece}
use Rattle.regions.specs.Clearance.{signed_clearance}
use Rattle.lattice.specs.Escape.{point}
use Rattle.lattice.specs.Keys.{linear_by}
use Rattle.lattice.specs.Lattice.{HexCells, no_cells, never, judge, by_anchor, sort_by_anchor}
use Rattle.lattice.specs.Rows.{cell_x, cells_from, cells_step, cells_start, cells_end, no_cells_lem, joined, walk}
use Rattle.lattice.specs.Tally.{cells_of, cells_judged}
use Rattle.lattice.specs.Walk.{cells_in}
use Rattle.lattice.specs.declared.rows.Field.{Field}
use Rattle.lattice.specs.declared.row.Row.{Row}

-- the nearest of each kind
abbrev pub kept : Point → ℕ → ℕ → HexCells → HexCells
kept anchor nf nb cells = record { free = take nf (sort_by_anchor anchor cells.free); blocked = take nb (sort_by_anchor anchor cells.blocked) }

-- no more than are wanted, in order
pub record Fit (anchor : Point) (nf nb : ℕ) (cells : HexCells) : Type 0 where
  pub free_fits : length cells.free ≤ nf
  pub blocked_fits : length cells.blocked ≤ nb
  pub free_order : Ascending (by_anchor anchor) cells.free
  pub blocked_order : Ascending (by_anchor anchor) cells.blocked

abbrev pub Grown : HexCells → HexCells → Type 0
Grown cells later = (length cells.free ≤ length later.free) × (length cells.blocked ≤ length later.blocked)

module _ (piece : Piece) (min-clearance : Float) (near : List Rectangle) (anchor : Point) (nf nb : ℕ) where
  abbrev with_free : HexCells → Point → HexCells
  with_free cells p = record { free = take nf (insert_behind (by_anchor anchor) p cells.free); blocked = cells.blocked }

  abbrev with_blocked : HexCells → Point → HexCells
  with_blocked cells p = record { free = cells.free; blocked = take nb (insert_behind (by_anchor anchor) p cells.blocked) }

  unfoldable pub gather_cell : HexCells → Point → HexCells
  gather_cell cells p =
      cond (signed_clearance p.x p.y piece ≥ᶠ min-clearance)
      (cond (clear_of_obstacles p.x p.y near min-clearance) (with_free cells p) (with_blocked cells p)) cells

  -- each visited cell in turn
  abbrev pub gather : HexCells → List Point → HexCells
  gather cells ps = foldl gather_cell cells ps

  -- ---- the definition's cells
  module _
      (cells : HexCells) (p : Point) (ps : List Point)
      (later : (found : HexCells) → kept anchor nf nb (judge piece min-clearance near never found ps) ≡ gather (kept anchor nf nb found) ps) where
    abbrev freed : HexCells
    freed = record { free = cells.free ++ p ∷ []; blocked = cells.blocked }

    abbrev walled : HexCells
    walled = record { free = cells.free; blocked = cells.blocked ++ p ∷ [] }

    next_of :
        (n : ℕ) (l : List Point)
        → take n (sort_by_anchor anchor (l ++ p ∷ [])) ≡ take n (insert_behind (by_anchor anchor) p (take n (sort_by_anchor anchor l)))
    unfolding sort_by_anchor
    next_of n l = first_next (by_anchor anchor) (linear_by anchor) n l p

    judged :
        (a b : Bool)
        → let all = λ (found : HexCells). judge piece min-clearance near never found ps in
        kept anchor nf nb (cond a (cond b (all freed) (all walled)) (all cells))
        ≡ gather (cond a (cond b (with_free (kept anchor nf nb cells) p) (with_blocked (kept anchor nf nb cells) p)) (kept anchor nf nb cells)) ps
    judged true true =
        later freed ∙ ap (λ (t : List Point). gather (record { free = t; blocked = take nb (sort_by_anchor anchor cells.blocked) }) ps) (next_of nf cells.free)
    judged true false =
        later walled ∙ ap (λ (t : List Point). gather (record { free = take nf (sort_by_anchor anchor cells.free); blocked = t }) ps) (next_of nb cells.blocked)
    judged false b = later cells

  pub kept_judged :
      (cells : HexCells) (ps : List Point) → kept anchor nf nb (judge piece min-clearance near never cells ps) ≡ gather (kept anchor nf nb cells) ps
  unfolding judge gather_cell
  kept_judged cells [] = refl
  kept_judged cells (p ∷ ps) =
      judged cells p ps (λ (found : HexCells). kept_judged found ps)
      (signed_clearance p.x p.y piece ≥ᶠ min-clearance) (clear_of_obstacles p.x p.y near min-clearance)

  -- ---- they fit, and grow
  insert_fit :
      (n : ℕ) (p : Point) (l : List Point) → length l ≤ n → Ascending (by_anchor anchor) l
      → let r = take n (insert_behind (by_anchor anchor) p l) in
      (length r ≤ n) × Ascending (by_anchor anchor) r × (length l ≤ length r)
  insert_fit n p l h a =
      let more = insert_behind (by_anchor anchor) p l in
      let e : length (take n more) ≡ min n (suc (length l)) = length-take n more ∙ ap (min n) (length_behind (by_anchor anchor) p l) in
      (omega arith, take_ascending (by_anchor anchor) n more (behind_ascending (by_anchor anchor) (linear_by anchor) p l a), omega arith)

  cell_fits :
      (a b : Bool) (cells : HexCells) (p : Point) → Fit anchor nf nb cells
      → let r = cond a (cond b (with_free cells p) (with_blocked cells p)) cells in
      Fit anchor nf nb r × Grown cells r
  cell_fits true true cells p h =
      let i = insert_fit nf p cells.free h.free_fits h.free_order in
      (record { free_fits = i.0; blocked_fits = h.blocked_fits; free_order = i.1; blocked_order = h.blocked_order }, (i.2, omega arith))
  cell_fits true false cells p h =
      let i = insert_fit nb p cells.blocked h.blocked_fits h.blocked_order in
      (record { free_fits = h.free_fits; blocked_fits = i.0; free_order = h.free_order; blocked_order = i.1 }, (omega arith, i.2))
  cell_fits false b cells p h = (h, (omega arith, omega arith))

  pub gathered_fit : (cells : HexCells) (p : Point) → Fit anchor nf nb cells → Fit anchor nf nb (gather_cell cells p) × Grown cells (gather_cell cells p)
  unfolding gather_cell
  gathered_fit cells p h = cell_fits (signed_clearance p.x p.y piece ≥ᶠ min-clearance) (clear_of_obstacles p.x p.y near min-clearance) cells p h

  pub gather_fit : (cells : HexCells) (ps : List Point) → Fit anchor nf nb cells → Fit anchor nf nb (gather cells ps) × Grown cells (gather cells ps)
  gather_fit cells [] h = (h, (omega arith, omega arith))
  gather_fit cells (p ∷ ps) h =
      let i = gathered_fit cells p h in
      let j = gather_fit (gather_cell cells p) ps i.0 in
      (j.0, (omega (arith, i.1.0, j.1.0), omega (arith, i.1.1, j.1.1)))

  -- ---- turns of the loops
  -- ---- a turn of the loop over a row of n cells from the rank i on
  module _ (cells : HexCells) (x y s : Float) (i n : ℕ) where
    -- what is gathered from the cell k on
    abbrev pub gather_from : ℕ → HexCells
    gather_from k = gather cells (cells_from x y s (i + k) (n - k))

    pub row_start : gather cells (cells_from x y s i n) ≡ gather_from 0
    row_start = ap (gather cells) (cells_start x y s i n)

    pub row_turn :
        (k : ℕ) → k < n → (p : Point) → p ≡ point (cell_x x s (i + k)) y
        → gather_from k ≡ gather (gather_cell cells p) (cells_from x y s (i + (k + 1)) (n - (k + 1)))
    row_turn k h p e = rw (cells_step x y s i k n h, ← e)

    pub row_done : (k : ℕ) → n ≤ k → gather_from k ≡ cells
    row_done k h = rw (cells_end x y s i k n h)

    pub row_none : n ≡ 0 → gather cells (cells_from x y s i n) ≡ cells
    row_none z = rw (no_cells_lem x y s i n z)

  module _ (cells : HexCells) (row : Row) where
    pub rows_turn : (rows : List (List Point)) → gather cells (joined (cells_in row ∷ rows)) ≡ gather (gather cells (cells_in row)) (joined rows)
    rows_turn rows = foldl-append gather_cell cells (cells_in row) (joined rows)

  take_none : (n : ℕ) → take n (sort_by_anchor anchor []) ≡ []
  unfolding sort_by_anchor sort_by
  take_none zero = refl
  take_none (suc n) = refl

  pub kept_none : kept anchor nf nb no_cells ≡ no_cells
  kept_none = rw (take_none nf, take_none nb)

  pub cells_gathered : (field : Field) → kept anchor nf nb (cells_of field piece min-clearance near never) ≡ gather no_cells (walk field)
  cells_gathered field =
      ap (kept anchor nf nb) (cells_judged piece min-clearance near field never)
      ∙ kept_judged no_cells (walk field)
      ∙ ap (λ (cells : HexCells). gather cells (walk field)) kept_none
