-- regions.rs, `poi_with_holes`: the deepest point of one piece, and of the pieces of a zone. Definitions only.
-- The cells that wait are a list in the order in which they leave. `room` is how many may wait at once.
use Rattle.std.specs.Prelude.{ℕ, zero, suc, ◌+◌, ◌-◌, ◌*◌, Bool, false, cond, not, ◌&&◌}
use Rattle.std.specs.Prelude.{◌||◌, Option, Some, None, List, [], ◌∷◌, length, nat_lt, Float}
use mathlib.Core.List.{foldl}
use Rattle.float.specs.Ops.{◌+ᶠ◌, ◌-ᶠ◌, ◌/ᶠ◌, ◌<ᶠ◌, ◌>ᶠ◌, ◌≤ᶠ◌, 0ᶠ, 2ᶠ}
use Rattle.float.specs.Order.{min}
use Rattle.glyphs.specs.Points.{vertices}
use Rattle.glyphs.specs.declared.bounds.Extents.{Extents}
use Rattle.glyphs.specs.declared.rect.Point.{Point}
use Rattle.glyphs.specs.Bounds.{extents_of}
use Rattle.regions.specs.Ring.{Piece, outer}
use Rattle.regions.specs.Clearance.{signed_clearance}
use Rattle.deepest.specs.Order.{halves_from, half_at, bound_of, leaves}
use Rattle.deepest.specs.declared.queue.Cell.{Cell}
use Rattle.deepest.specs.declared.search.Best.{Best}
use Rattle.deepest.specs.declared.search.Deepest.{Deepest}
use Rattle.deepest.specs.declared.search.Deepest.TheVariants.{Found, Nothing, Full}

-- queue.push(cell): in front of the first cell before which it leaves
unfoldable pub enter : List Float → Cell → List Cell → List Cell
enter halves c [] = c ∷ []
enter halves c (e ∷ es) = cond (leaves halves c e) (c ∷ e ∷ es) (e ∷ enter halves c es)

-- how many cells come of a cell that can be halved k times more, itself counted
unfoldable pub nodes : ℕ → ℕ
nodes zero = 1
nodes (suc k) = 1 + 4 * nodes k

abbrev pub heft : Cell → ℕ
heft c = nodes (21 - c.halvings)

unfoldable pub sum_over : (Cell → ℕ) → List Cell → ℕ
sum_over f [] = 0
sum_over f (c ∷ cs) = f c + sum_over f cs

-- if cell.d > best.d { best = cell; }
unfoldable pub better_of : Best → Cell → Best
better_of best c = cond (c.d >ᶠ best.d) (record { x = c.x; y = c.y; d = c.d }) best

-- best.d > 0.0
unfoldable pub answer_of : Best → Deepest
answer_of best = cond (best.d >ᶠ 0ᶠ) (Found best.x best.y best.d) Nothing

-- the corner after one, if any: `y += cell_size` up its column, then `x += cell_size`
unfoldable pub next_corner : Extents → Float → Point → Option Point
next_corner e side c =
    let y' = c.y +ᶠ side in
    let x' = c.x +ᶠ side in
    cond (y' <ᶠ e.max_y) (Some (record { x = c.x; y = y' })) (cond (x' <ᶠ e.max_x) (Some (record { x = x'; y = e.min_y })) None)

unfoldable pub first_corner : Extents → Option Point
first_corner e = cond (e.min_x <ᶠ e.max_x && e.min_y <ᶠ e.max_y) (Some (record { x = e.min_x; y = e.min_y })) None

-- the first cells, or that they are too many
pub data Grid : Type 0 where
  waiting : List Cell → Grid
  over : Grid

abbrev pub cell_of : Float → Float → Float → ℕ → ℕ → Cell
cell_of x y d halvings entry = record { x = x; y = y; d = d; halvings = halvings; entry = entry }

unfoldable pub make_cell : Piece → Float → Float → ℕ → ℕ → Cell
make_cell piece x y halvings entry = cell_of x y (signed_clearance x y piece) halvings entry

-- cell.ub - best.d <= precision ends a cell, and so do 21 halvings
unfoldable pub splits_at : List Float → Float → Cell → Best → Bool
splits_at halves precision c best = cond (nat_lt c.halvings 21) (not (bound_of halves c -ᶠ best.d ≤ᶠ precision)) false

module _ (piece : Piece) (halves : List Float) where
  -- the two loops over x and y, with room for r cells more, of which the next is the n-th
  unfoldable pub grid_from : Extents → Float → ℕ → Option Point → List Cell → ℕ → Grid
  grid_from e side r None q n = waiting q
  grid_from e side zero (Some c) q n = over
  grid_from e side (suc r) (Some c) q n =
      grid_from e side r (next_corner e side c) (enter halves (make_cell piece (c.x +ᶠ half_at halves 0) (c.y +ᶠ half_at halves 0) 0 n) q) (n + 1)

  -- the four quarters of a cell, the first of which is the n-th to enter
  unfoldable pub enter_four : Cell → ℕ → List Cell → List Cell
  enter_four c n q =
      let k = c.halvings + 1 in
      let nh = half_at halves k in
      let q₁ = enter halves (make_cell piece (c.x -ᶠ nh) (c.y -ᶠ nh) k n) q in
      let q₂ = enter halves (make_cell piece (c.x +ᶠ nh) (c.y -ᶠ nh) k (n + 1)) q₁ in
      let q₃ = enter halves (make_cell piece (c.x -ᶠ nh) (c.y +ᶠ nh) k (n + 2)) q₂ in
      enter halves (make_cell piece (c.x +ᶠ nh) (c.y +ᶠ nh) k (n + 3)) q₃

  -- `while let Some(cell) = queue.pop()`, at most f turns
  unfoldable pub turns : ℕ → Float → ℕ → List Cell → Best → ℕ → Deepest
  turns zero precision room q best n = answer_of best
  turns (suc f) precision room [] best n = answer_of best
  turns (suc f) precision room (c ∷ rest) best n =
      let better = better_of best c in
      cond (splits_at halves precision c better)
      (cond (nat_lt room (length rest + 4)) Full (turns f precision room (enter_four c n rest) better (n + 4)))
      (turns f precision room rest better n)

  unfoldable pub finish : Float → ℕ → Best → Grid → Deepest
  finish precision room best over = Full
  finish precision room best (waiting q) = turns (sum_over heft q) precision room q best (length q)

-- the first best: the centre of the bounds, which never waits
unfoldable pub centre_of : Piece → Extents → Best
centre_of piece e =
    let cx = (e.min_x +ᶠ e.max_x) /ᶠ 2ᶠ in
    let cy = (e.min_y +ᶠ e.max_y) /ᶠ 2ᶠ in
    record { x = cx; y = cy; d = signed_clearance cx cy piece }

-- the search within the bounds of the outer ring, with first cells of the given side
unfoldable pub search_in : Piece → Float → ℕ → Extents → Float → Deepest
search_in piece precision room e side =
    let halves = halves_from (side /ᶠ 2ᶠ) 22 in
    finish piece halves precision room (centre_of piece e) (grid_from piece halves e side room (first_corner e) [] 0)

unfoldable pub deepest_point : ℕ → Float → Piece → Deepest
deepest_point room precision piece =
    let e = extents_of (outer piece) in
    let width = e.max_x -ᶠ e.min_x in
    let height = e.max_y -ᶠ e.min_y in
    cond (nat_lt (vertices (outer piece)) 3) Nothing
    (cond (width ≤ᶠ 0ᶠ || height ≤ᶠ 0ᶠ) Nothing (search_in piece precision room e (min width height)))

-- the deeper of two, the first unless the second is strictly deeper; without room for one search there is no answer
unfoldable pub deeper_of : Deepest → Deepest → Deepest
deeper_of Full b = Full
deeper_of Nothing b = b
deeper_of (Found x y d) Full = Full
deeper_of (Found x y d) Nothing = Found x y d
deeper_of (Found x y d) (Found x' y' d') = cond (d' >ᶠ d) (Found x' y' d') (Found x y d)

unfoldable pub poi_with_holes : ℕ → Float → List Piece → Deepest
poi_with_holes room precision pieces = foldl (λ best piece. deeper_of best (deepest_point room precision piece)) Nothing pieces
