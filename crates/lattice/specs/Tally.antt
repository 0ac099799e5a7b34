-- The walk where only the numbers of free and blocked cells are asked for, and that it is the definition's.
use Rattle.std.specs.Prelude.{◌≡◌, ℕ, suc, ◌+◌, ◌-◌, ◌<◌, ◌≤◌, Bool, true, false, cond, not, ◌||◌, leb, List, [], ◌∷◌, ◌++◌, length, take, nat_le, Float, Some}
use Rattle.std.proofs.Math.Path.{refl, ap}
use Rattle.std.proofs.Common.{◌∙◌, length-append}
use native.Mathlib.Omega.{arith}
use borrow.Author.Tests.{le-leb, lt-leb, leb-false}
use Rattle.float.specs.Ops.{◌≤ᶠ◌, ◌≥ᶠ◌, 0ᶠ}
use Rattle.glyphs.specs.declared.rect.Point.{Point}
use Rattle.glyphs.specs.declared.rect.Rectangle.{Rectangle}
use Rattle.glyphs.specs.Rect.{clear_of_obstacles, is_finite}
use Rattle.regions.specs.Ring.{Piece}
use Rattle.regions.specs.Clearance.{signed_clearance}
use Rattle.lattice.specs.Escape.{point}
use Rattle.lattice.specs.Lattice.{HexCells, no_cells, Cap, at, reached, judge, hex_enum_cap, all_cells, cells_within}
use Rattle.lattice.specs.Rows.{cell_x, cells_from, length_cells, cells_step, cells_start, cells_end, no_cells_lem, joined, walk}
use Rattle.lattice.specs.Walk.{cells_in}
use Rattle.lattice.specs.declared.count.Counts.{Counts}
use Rattle.lattice.specs.declared.rows.Field.{Field}
use Rattle.lattice.specs.declared.row.Row.{Row}

abbrev pub counts_of : HexCells → Counts
counts_of cells = record { free = length cells.free; blocked = length cells.blocked }

-- the cells of a lattice within its box
abbrev pub cells_of : Field → Piece → Float → List Rectangle → Cap → HexCells
cells_of field piece min-clearance near cap =
    cells_within (Some field.extents) piece field.anchor field.lattice min-clearance near cap

abbrev pub none : Counts
none = record { free = 0; blocked = 0 }

module _ (piece : Piece) (min-clearance : Float) (near : List Rectangle) where
  unfoldable pub count_cell : Counts → Point → Counts
  count_cell t p =
      cond (signed_clearance p.x p.y piece ≥ᶠ min-clearance)
      (cond (clear_of_obstacles p.x p.y near min-clearance) (record { free = t.free + 1; blocked = t.blocked })
      (record { free = t.free; blocked = t.blocked + 1 })) t

  -- each visited cell counted in turn, up to the one that makes `cap` free ones
  unfoldable pub tally : ℕ → Counts → List Point → Counts
  tally cap t [] = t
  tally cap t (p ∷ ps) = let counted = count_cell t p in cond (nat_le cap counted.free) counted (tally cap counted ps)

  -- ---- bounds
  count_le :
      (t : Counts) (a b : Bool)
      → let r = cond a (cond b (record { free = t.free + 1; blocked = t.blocked }) (record { free = t.free; blocked = t.blocked + 1 })) t in
      (r.free ≤ t.free + 1) × (r.blocked ≤ t.blocked + 1)
  count_le t true true = (omega arith, omega arith)
  count_le t true false = (omega arith, omega arith)
  count_le t false b = (omega arith, omega arith)

  pub counted_le : (t : Counts) (p : Point) → ((count_cell t p).free ≤ t.free + 1) × ((count_cell t p).blocked ≤ t.blocked + 1)
  unfolding count_cell
  counted_le t p = count_le t (signed_clearance p.x p.y piece ≥ᶠ min-clearance) (clear_of_obstacles p.x p.y near min-clearance)

  pub tally_le : (cap : ℕ) (t : Counts) (ps : List Point) → ((tally cap t ps).free ≤ t.free + length ps) × ((tally cap t ps).blocked ≤ t.blocked + length ps)
  unfolding tally
  tally_le cap t [] = (omega arith, omega arith)
  tally_le cap t (p ∷ ps) = into (nat_le cap (count_cell t p).free) (counted_le t p) (tally_le cap (count_cell t p) ps)
    where
      into :
          {q r : Counts} (b : Bool) → (q.free ≤ t.free + 1) × (q.blocked ≤ t.blocked + 1)
          → (r.free ≤ q.free + length ps) × (r.blocked ≤ q.blocked + length ps)
          → ((cond b q r).free ≤ t.free + suc (length ps)) × ((cond b q r).blocked ≤ t.blocked + suc (length ps))
      into true h k = (omega arith, omega arith)
      into false h k = (omega arith, omega arith)

  pub counted_bound : (t : Counts) (p : Point) (r : Counts) → r ≡ count_cell t p → (r.free ≤ t.free + 1) × (r.blocked ≤ t.blocked + 1)
  counted_bound t p r e = rw e (counted_le t p)

  pub row_bound :
      (cap : ℕ) (t : Counts) (x y s : Float) (i n : ℕ) (r : Counts) → r ≡ tally cap t (cells_from x y s i n)
      → (r.free ≤ t.free + n) × (r.blocked ≤ t.blocked + n)
  row_bound cap t x y s i n r e = rw e (rw (length_cells x y s i n) at (tally_le cap t (cells_from x y s i n)))

  -- ---- a turn of the loop over a row of n cells from the rank i on: r is what is counted with the cell k, at p
  module _ (cap : ℕ) (t : Counts) (x y s : Float) (i n : ℕ) where
    -- what is counted from the cell k on
    abbrev pub tally_from : ℕ → Counts
    tally_from k = tally cap t (cells_from x y s (i + k) (n - k))

    pub row_start : tally cap t (cells_from x y s i n) ≡ tally_from 0
    row_start = ap (tally cap t) (cells_start x y s i n)

    module _
        (k : ℕ) (h : k < n) (p : Point) (ep : p ≡ point (cell_x x s (i + k)) y)
        (r : Counts) (er : r ≡ count_cell t p) where
      pub row_stop : cap ≤ r.free → tally_from k ≡ r
      unfolding tally
      row_stop e = rw (cells_step x y s i k n h, ← ep, ← er, le-leb _ _ e)

      pub row_next : r.free < cap → tally_from k ≡ tally cap r (cells_from x y s (i + (k + 1)) (n - (k + 1)))
      unfolding tally
      row_next e = rw (cells_step x y s i k n h, ← ep, ← er, lt-leb _ _ e)

    pub row_end : (k : ℕ) → n ≤ k → tally_from k ≡ t
    unfolding tally
    row_end k h = rw (cells_end x y s i k n h)

    pub row_none : n ≡ 0 → tally cap t (cells_from x y s i n) ≡ t
    unfolding tally
    row_none z = rw (no_cells_lem x y s i n z)

  -- ---- one list after another
  append_into :
      (cap : ℕ) (ys : List Point) (b : Bool) (q r w : Counts) → nat_le cap q.free ≡ b
      → (nat_le cap q.free ≡ false → w ≡ cond (nat_le cap r.free) r (tally cap r ys))
      → cond b q w ≡ cond (nat_le cap (cond b q r).free) (cond b q r) (tally cap (cond b q r) ys)
  append_into cap ys true q r w e h = rw e
  append_into cap ys false q r w e h = h e

  pub tally_append :
      (cap : ℕ) (t : Counts) (xs ys : List Point) → t.free < cap
      → tally cap t (xs ++ ys) ≡ cond (nat_le cap (tally cap t xs).free) (tally cap t xs) (tally cap (tally cap t xs) ys)
  unfolding tally
  tally_append cap t [] ys h = rw (lt-leb cap t.free h)
  tally_append cap t (p ∷ xs) ys h =
      let q = count_cell t p in
      append_into cap ys (nat_le cap q.free) q (tally cap q xs) (tally cap q (xs ++ ys)) refl
      (λ (e : leb cap q.free ≡ false). tally_append cap q xs ys (leb-false cap q.free e))

  -- ---- a turn of the loop over the rows: r is what is counted with the row
  module _ (cap : ℕ) (t : Counts) (row : Row) (rows : List (List Point)) (r : Counts) (er : r ≡ tally cap t (cells_in row)) (g : t.free < cap) where
    pub rows_stop : cap ≤ r.free → tally cap t (joined (cells_in row ∷ rows)) ≡ r
    rows_stop k = rw (tally_append cap t (cells_in row) (joined rows) g, ← er, le-leb _ _ k)

    pub rows_next : r.free < cap → tally cap t (joined (cells_in row ∷ rows)) ≡ tally cap r (joined rows)
    rows_next k = rw (tally_append cap t (cells_in row) (joined rows) g, ← er, lt-leb _ _ k)

  pub rows_none : (cap : ℕ) (t : Counts) → tally cap t (joined []) ≡ t
  unfolding tally
  rows_none cap t = refl

  -- ---- the definition's numbers
  module _
      (n : ℕ) (cells : HexCells) (p : Point) (ps : List Point) (h : length cells.free < n)
      (later :
      (found : HexCells) → length found.free < n
      → counts_of (judge piece min-clearance near (at n) found ps) ≡ tally n (counts_of found) ps) where
    abbrev freed : HexCells
    freed = record { free = cells.free ++ p ∷ []; blocked = cells.blocked }

    abbrev walled : HexCells
    walled = record { free = cells.free; blocked = cells.blocked ++ p ∷ [] }

    one_more : (l : List Point) → length (l ++ p ∷ []) ≡ length l + 1
    one_more l = length-append l (p ∷ [])

    after_free :
        (b : Bool) → nat_le n (length freed.free) ≡ b
        → counts_of (cond b freed (judge piece min-clearance near (at n) freed ps)) ≡ cond b (counts_of freed) (tally n (counts_of freed) ps)
    after_free true e = refl
    after_free false e = later freed (leb-false n (length freed.free) e)

    judged :
        (a b : Bool)
        → let free = length cells.free in
        let blocked = length cells.blocked in
        let more : Counts = cond b (record { free = free + 1; blocked = blocked }) (record { free = free; blocked = blocked + 1 }) in
        let counted = cond a more (counts_of cells) in
        let few = λ (found : HexCells). judge piece min-clearance near (at n) found ps in
        counts_of (cond a (cond b (cond (reached (at n) (length freed.free)) freed (few freed)) (few walled)) (few cells))
        ≡ cond (nat_le n counted.free) counted (tally n counted ps)
    judged true true = rw (← one_more cells.free) (after_free (nat_le n (length freed.free)) refl)
    judged true false = rw (lt-leb n (length cells.free) h, ← one_more cells.blocked) (later walled h)
    judged false b = rw (lt-leb n (length cells.free) h) (later cells h)

  pub counts_judged :
      (n : ℕ) (cells : HexCells) (ps : List Point) → length cells.free < n
      → counts_of (judge piece min-clearance near (at n) cells ps) ≡ tally n (counts_of cells) ps
  unfolding judge tally count_cell
  counts_judged n cells [] h = refl
  counts_judged n cells (p ∷ ps) h =
      judged n cells p ps h (λ (found : HexCells) (k : length found.free < n). counts_judged n found ps k)
      (signed_clearance p.x p.y piece ≥ᶠ min-clearance) (clear_of_obstacles p.x p.y near min-clearance)

  -- the cells of a lattice are those of its walk, judged
  pub cells_judged : (field : Field) (cap : Cap) → cells_of field piece min-clearance near cap ≡ judge piece min-clearance near cap no_cells (walk field)
  unfolding cells_within walk judge
  cells_judged field cap = go (field.lattice.spacing ≤ᶠ 0ᶠ || not (is_finite field.lattice.spacing))
    where
      all : List Point
      all = take hex_enum_cap (all_cells field.lattice field.anchor field.extents.min_x field.extents.max_x field.extents.min_y field.extents.max_y)

      go : (b : Bool) → cond b no_cells (judge piece min-clearance near cap no_cells all) ≡ judge piece min-clearance near cap no_cells (cond b [] all)
      go true = refl
      go false = refl

  -- a lattice with no spacing has none
  pub cells_none :
      (field : Field) (cap : Cap) → (field.lattice.spacing ≤ᶠ 0ᶠ || not (is_finite field.lattice.spacing)) ≡ true
      → cells_of field piece min-clearance near cap ≡ no_cells
  unfolding cells_within
  cells_none field cap e = rw e

  pub cells_counted : (field : Field) (cap : ℕ) → 0 < cap → counts_of (cells_of field piece min-clearance near (at cap)) ≡ tally cap none (walk field)
  cells_counted field cap h = ap counts_of (cells_judged field (at cap)) ∙ counts_judged cap no_cells (walk field) h
