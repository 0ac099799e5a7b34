-- The first cells of the search, one after another, against the definition's grid.
-- Rests on the laws of the waiting cells.
use Rattle.std.specs.Prelude.{◌≡◌, ℕ, zero, suc, ◌+◌, ◌-◌, ◌*◌, ◌<◌, ◌≤◌}
use Rattle.std.specs.Prelude.{Option, Some, None, Result, Ok, Err, List, [], length, refl, Float}
use Rattle.std.proofs.Common.{◌∙◌}
use Rattle.std.proofs.Math.Nat.{sub-zero}
use native.Mathlib.Omega.{arith}
use Rattle.float.specs.Ops.{◌+ᶠ◌, ◌/ᶠ◌, 2ᶠ}
use Rattle.glyphs.specs.declared.bounds.Extents.{Extents}
use Rattle.glyphs.specs.declared.rect.Point.{Point}
use Rattle.regions.specs.Ring.{Piece}
use Rattle.deepest.specs.Order.{half_at, halves_from}
use Rattle.deepest.specs.Cells.{Rows, cell_at}
use Rattle.deepest.specs.Queue.{total}
use Rattle.deepest.specs.Match.{Match, match_start, match_length}
use Rattle.deepest.specs.Deepest.{enter, nodes, heft, make_cell, next_corner, first_corner, Grid, waiting, over, grid_from, finish, centre_of, search_in}
use Rattle.deepest.specs.Turns.{Entered, Explored}
use Rattle.deepest.specs.declared.queue.Cell.{Cell}
use Rattle.deepest.specs.declared.search.Best.{Best}
use Rattle.deepest.specs.declared.search.Deepest.{Deepest}
use Rattle.deepest.specs.declared.search.Deepest.TheVariants.{Full}
use Rattle.deepest.specs.declared.waiting.NoRoom.{NoRoom}
use Rattle.deepest.specs.declared.waiting.Waiting.{Waiting}

pub nodes_21 : nodes 21 ≡ 5864062014805
unfolding nodes
nodes_21 = refl

-- m cells wait in l, those of a grid
pub record Planted (halves : List Float) (l : Rows) (m : ℕ) (grid : Grid) : Type 0 where
  pub q : List Cell
  pub is : grid ≡ waiting q
  pub match : Match halves l m q m
  pub weight : total heft (cell_at l) m ≡ m * 5864062014805

-- the cells that wait are those of a grid
pub record Seeded (w : Waiting) (grid : Grid) (w' : Waiting) : Type 0 where
  pub planted : Planted w.halves.now w'.cells.now w'.len grid
  pub halves : w'.halves.now ≡ w.halves.now
  pub long : length w'.cells.now ≡ length w.cells.now
  pub same : w'.cells.ghost_name ≡ w.cells.ghost_name
  pub entered : w'.entered ≡ w'.len

-- the grid has more cells than there is room for; what was lent is the same slice and as long as before
pub record Crowded (w : Waiting) (grid : Grid) (w' : Waiting) : Type 0 where
  pub full : grid ≡ over
  pub halves : w'.halves.now ≡ w.halves.now
  pub long : length w'.cells.now ≡ length w.cells.now
  pub same : w'.cells.ghost_name ≡ w.cells.ghost_name

-- what `seed` answers
abbrev pub Seeds : Waiting → Grid → Result Unit NoRoom → Waiting → Type 0
Seeds w grid (Ok done) w' = Seeded w grid w'
Seeds w grid (Err none) w' = Crowded w grid w'

module _ (piece : Piece) (halves : List Float) (e : Extents) (side : Float) (room : ℕ) where
  -- the grid from the corner c on, with m cells of it in l
  pub record Planting (l : Rows) (m : ℕ) (next : Option Point) : Type 0 where
    pub place : m ≤ room
    pub q : List Cell
    pub match : Match halves l m q m
    pub weight : total heft (cell_at l) m ≡ m * 5864062014805
    pub same : grid_from piece halves e side room (first_corner e) [] 0 ≡ grid_from piece halves e side (room - m) next q m

  pub plant_start : (l : Rows) → Planting l 0 (first_corner e)
  unfolding total
  plant_start l = record { place = omega arith; q = []; match = match_start halves l 0 refl; weight = refl; same = rw sub-zero }

  grid_over : (r : ℕ) (c : Point) (q : List Cell) (n : ℕ) → r ≡ 0 → grid_from piece halves e side r (Some c) q n ≡ over
  unfolding grid_from
  grid_over r c q n z = rw z

  grid_end : (r : ℕ) (q : List Cell) (n : ℕ) → grid_from piece halves e side r None q n ≡ waiting q
  unfolding grid_from
  grid_end r q n = refl

  grid_step :
      (r : ℕ) (c : Point) (q : List Cell) (n : ℕ) → 0 < r
      → grid_from piece halves e side r (Some c) q n
      ≡ grid_from piece halves e side (r - 1) (next_corner e side c)
      (enter halves (make_cell piece (c.x +ᶠ half_at halves 0) (c.y +ᶠ half_at halves 0) 0 n) q)
      (n + 1)
  unfolding grid_from
  grid_step zero c q n z = absurd (omega arith)
  grid_step (suc r) c q n z =
      let g : suc r - 1 ≡ r = omega arith in
      rw g

  module _ (l : Rows) (m : ℕ) where
    pub plant_end : Planting l m None → Planted halves l m (grid_from piece halves e side room (first_corner e) [] 0)
    plant_end u = record { q = u.q; is = u.same ∙ grid_end (room - m) u.q m; match = u.match; weight = u.weight }

    module _ (c : Point) (u : Planting l m (Some c)) where
      pub plant_over : room ≤ m → grid_from piece halves e side room (first_corner e) [] 0 ≡ over
      plant_over r = u.same ∙ grid_over (room - m) c u.q m (omega arith)

      pub plant_step :
          (x y : Float) (l' : Rows) → m < room → x ≡ c.x +ᶠ half_at halves 0 → y ≡ c.y +ᶠ half_at halves 0
          → Entered piece halves l m x y 0 m l' → Planting l' (m + 1) (next_corner e side c)
      plant_step x y l' r p k w =
          let a = u.weight in
          let b = w.weight in
          let d : nodes (21 - 0) ≡ 5864062014805 = nodes_21 in
          record {
            place = omega arith;
            q = enter halves (make_cell piece x y 0 m) u.q;
            match = w.match u.q u.match;
            weight = omega arith;
            same = u.same ∙ grid_step (room - m) c u.q m (omega arith) ∙ cells;
          }
        where
          fewer : room - m - 1 ≡ room - (m + 1)
          fewer = omega arith

          cells :
              grid_from piece halves e side (room - m - 1) (next_corner e side c)
              (enter halves (make_cell piece (c.x +ᶠ half_at halves 0) (c.y +ᶠ half_at halves 0) 0 m) u.q)
              (m + 1)
              ≡ grid_from piece halves e side (room - (m + 1)) (next_corner e side c) (enter halves (make_cell piece x y 0 m) u.q) (m + 1)
          cells = rw (fewer, p, k)

-- ---- the search as a whole

module _
    (piece : Piece)
    (precision : Float)
    (room : ℕ)
    (e : Extents)
    (side : Float)
    (halves : List Float)
    (h : halves ≡ halves_from (side /ᶠ 2ᶠ) 22)
  where
    pub search_over : grid_from piece halves e side room (first_corner e) [] 0 ≡ over → search_in piece precision room e side ≡ Full
    unfolding search_in finish
    search_over g = rw (← h, g)

    pub search_some :
        (l : Rows) (m : ℕ) (best : Best) (r : Deepest) → room ≡ length l
        → Planted halves l m (grid_from piece halves e side room (first_corner e) [] 0)
        → best ≡ centre_of piece e → Explored piece halves precision l m best r → r ≡ search_in piece precision room e side
    unfolding search_in finish centre_of
    search_some l m best r k p b x =
        rw (← h, p.is, match_length halves l m p.q m p.match, ← b, k) (x.answer p.q p.match)

-- the table, the few first cells and their light weight leave entries for all
pub light :
    (l : Rows) (m : ℕ) (halves : List Float) (grid : Grid) → length l ≤ 100000 → Planted halves l m grid
    → m + 4 * total heft (cell_at l) m ≤ 4611686018427387904
light l m halves grid h p =
    let a = p.weight in
    let b = p.match.queue.room in
    omega arith
