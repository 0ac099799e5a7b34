-- A deepest point lies within 5,120 across and 1,024 along, and its clearance is above 0 and 1,031 at most.
-- Rests on the search holding of every cell its own clearance, and on the bound of clearances.
use Rattle.std.specs.Prelude.{◌||◌, ◌≡◌, Option, Some, None, Bool, cond, T, ltb, length, Float}
use Rattle.std.proofs.Math.Path.{refl}
use Rattle.std.proofs.Math.Bool.{true, false}
use mathlib.Core.List.{List, [], ◌∷◌, foldl}
use Prim.Native.Nat.{ℕ, zero, suc, ◌+◌}
use Rattle.std.specs.Float.Ieee.{binary64, fits}
use Rattle.std.specs.Float.Ieee.Fits.{add-fits, sub-fits, div-fits}
use Rattle.laws.specs.Every.{Every}
use Rattle.laws.specs.Truth.{yes}
use Rattle.float.specs.Ops.{◌+ᶠ◌, ◌-ᶠ◌, ◌/ᶠ◌, ◌<ᶠ◌, ◌>ᶠ◌, ◌≤ᶠ◌, 0ᶠ, 2ᶠ}
use Rattle.float.specs.Order.{min}
use Rattle.float.specs.Laws.Nan.{lt_number}
use Rattle.float.specs.Laws.Compare.{le_self}
use Rattle.glyphs.specs.Points.{vertices}
use Rattle.glyphs.specs.declared.bounds.Extents.{Extents}
use Rattle.glyphs.specs.declared.rect.Point.{Point}
use Rattle.glyphs.specs.Bounds.{extents_of}
use Rattle.regions.specs.Ring.{Piece, outer}
use Rattle.regions.specs.Clearance.{signed_clearance}
use Rattle.format.specs.Known.{All, PieceKnown}
use Rattle.deepest.specs.declared.queue.Cell.{Cell}
use Rattle.deepest.specs.declared.search.Best.{Best}
use Rattle.deepest.specs.declared.search.Deepest.{Deepest}
use Rattle.deepest.specs.declared.search.Deepest.TheVariants.{Found, Nothing, Full}
use Rattle.deepest.specs.Order.{halves_from, half_at, leaves}
use Rattle.deepest.specs.Deepest.{enter, heft, sum_over, better_of, answer_of, next_corner, first_corner, Grid, waiting, over, make_cell, splits_at, grid_from}
use Rattle.deepest.specs.Deepest.{enter_four, turns, finish, centre_of, search_in, deepest_point, deeper_of, poi_with_holes}
use Rattle.claims.specs.Within.{inset_placed, inset_within}
use Rattle.claims.proofs.Bounded.{clearance_inside}
use Rattle.claims.specs.Deepest.{Deep, Honest, OfFound}

abbrev HonestCell : Piece → Cell → Type 0
HonestCell piece c = Honest piece c.x c.y c.d

abbrev HonestBest : Piece → Best → Type 0
HonestBest piece b = Honest piece b.x b.y b.d

abbrev HonestGrid : Piece → Grid → Type 0
HonestGrid piece over = Unit {0}
HonestGrid piece (waiting q) = Every (HonestCell piece) q

abbrev HonestFound : Piece → Deepest → Type 0
HonestFound piece found = OfFound (λ (x y d : Float). Honest piece x y d × T (0ᶠ <ᶠ d)) found

one : {A : Type 0} (P : A → Type 0) (t : Bool) (x y : A) → P x → P y → P (cond t x y)
one P true x y p q = p
one P false x y p q = q

module _ (piece : Piece) (halves : List Float) where
  made : (x y : Float) (k n : ℕ) → T (fits binary64 x) → T (fits binary64 y) → HonestCell piece (make_cell piece x y k n)
  unfolding make_cell
  made x y k n p q = record { is = refl; fit_x = p; fit_y = q }

  entered : (c : Cell) (q : List Cell) → HonestCell piece c → Every (HonestCell piece) q → Every (HonestCell piece) (enter halves c q)
  unfolding enter
  entered c [] h a = (h, tt)
  entered c (e ∷ es) h a = one (Every (HonestCell piece)) (leaves halves c e) (c ∷ e ∷ es) (e ∷ enter halves c es) (h, a) (a.0, entered c es h a.1)

  four : (c : Cell) (n : ℕ) (q : List Cell) → Every (HonestCell piece) q → Every (HonestCell piece) (enter_four piece halves c n q)
  unfolding enter_four
  four c n q a =
      let nh = half_at halves (c.halvings + 1) in
      entered _ _ (made _ _ _ _ (add-fits binary64 c.x nh) (add-fits binary64 c.y nh))
      (entered _ _ (made _ _ _ _ (sub-fits binary64 c.x nh) (add-fits binary64 c.y nh))
      (entered _ _ (made _ _ _ _ (add-fits binary64 c.x nh) (sub-fits binary64 c.y nh))
      (entered _ q (made _ _ _ _ (sub-fits binary64 c.x nh) (sub-fits binary64 c.y nh)) a)))

  better : (best : Best) (c : Cell) → HonestBest piece best → HonestCell piece c → HonestBest piece (better_of best c)
  unfolding better_of
  better best c b h = one (HonestBest piece) (c.d >ᶠ best.d) (record { x = c.x; y = c.y; d = c.d }) best h b

  answered : (best : Best) → HonestBest piece best → HonestFound piece (answer_of best)
  unfolding answer_of
  answered best b = go (best.d >ᶠ 0ᶠ) refl
    where
      go : (t : Bool) → best.d >ᶠ 0ᶠ ≡ t → HonestFound piece (cond t (Found best.x best.y best.d) Nothing)
      go true e = (b, yes e)
      go false e = tt

  turned :
      (f : ℕ) (precision : Float) (room : ℕ) (q : List Cell) (best : Best) (n : ℕ) → Every (HonestCell piece) q → HonestBest piece best
      → HonestFound piece (turns piece halves f precision room q best n)
  unfolding turns
  turned zero precision room q best n a b = answered best b
  turned (suc f) precision room [] best n a b = answered best b
  turned (suc f) precision room (c ∷ rest) best n a b =
      let g = better best c b a.0 in
      one (HonestFound piece) (splits_at halves precision c (better_of best c)) _ _
      (one (HonestFound piece) (ltb room (length rest + 4)) Full _ tt
      (turned f precision room (enter_four piece halves c n rest) (better_of best c) (n + 4) (four c n rest a.1) g))
      (turned f precision room rest (better_of best c) n a.1 g)

  gridded :
      (e : Extents) (side : Float) (r : ℕ) (c : Option Point) (q : List Cell) (n : ℕ) → Every (HonestCell piece) q
      → HonestGrid piece (grid_from piece halves e side r c q n)
  unfolding grid_from
  gridded e side r None q n a = a
  gridded e side zero (Some c) q n a = tt
  gridded e side (suc r) (Some c) q n a =
      gridded e side r (next_corner e side c) _ (n + 1)
      (entered _ q (made _ _ _ _ (add-fits binary64 c.x (half_at halves 0)) (add-fits binary64 c.y (half_at halves 0))) a)

  finished :
      (precision : Float) (room : ℕ) (best : Best) (g : Grid) → HonestBest piece best → HonestGrid piece g
      → HonestFound piece (finish piece halves precision room best g)
  unfolding finish
  finished precision room best over b a = tt
  finished precision room best (waiting q) b a = turned (sum_over heft q) precision room q best (length q) a b

deep : (piece : Piece) → PieceKnown piece → (x y d : Float) → Honest piece x y d → T (0ᶠ <ᶠ d) → Deep x y d
deep piece k x y d h p =
    let l : T (d ≤ᶠ signed_clearance x y piece) = rw (← h.is) (le_self d (lt_number 0ᶠ d p).1) in
    record {
      placed = inset_placed x y d piece k h.fit_x h.fit_y p l;
      sized = rw h.is (clearance_inside x y h.fit_x h.fit_y piece k (inset_within x y d piece p l));
      above = p;
    }

module _ (room : ℕ) (precision : Float) where
  searched : (piece : Piece) (e : Extents) (side : Float) → HonestFound piece (search_in piece precision room e side)
  unfolding search_in centre_of
  searched piece e side =
      let halves = halves_from (side /ᶠ 2ᶠ) 22 in
      finished piece halves precision room (centre_of piece e) (grid_from piece halves e side room (first_corner e) [] 0)
      (record { is = refl; fit_x = div-fits binary64 (e.min_x +ᶠ e.max_x) 2ᶠ; fit_y = div-fits binary64 (e.min_y +ᶠ e.max_y) 2ᶠ })
      (gridded piece halves e side room (first_corner e) [] 0 tt)

  pub point_honest : (piece : Piece) → HonestFound piece (deepest_point room precision piece)
  unfolding deepest_point
  point_honest piece =
      let e = extents_of (outer piece) in
      let w = e.max_x -ᶠ e.min_x in
      let h = e.max_y -ᶠ e.min_y in
      one (HonestFound piece) (ltb (vertices (outer piece)) 3) Nothing _ tt
      (one (HonestFound piece) (w ≤ᶠ 0ᶠ || h ≤ᶠ 0ᶠ) Nothing _ tt (searched piece e (min w h)))

  pub point_deep : (piece : Piece) → PieceKnown piece → OfFound Deep (deepest_point room precision piece)
  point_deep piece k = go (deepest_point room precision piece) (point_honest piece)
    where
      go : (found : Deepest) → HonestFound piece found → OfFound Deep found
      go Nothing h = tt
      go Full h = tt
      go (Found x y d) h = deep piece k x y d h.0 h.1

  deeper : (P : Float → Float → Float → Type 0) (a b : Deepest) → OfFound P a → OfFound P b → OfFound P (deeper_of a b)
  unfolding deeper_of
  deeper P Full b p q = tt
  deeper P Nothing b p q = q
  deeper P (Found x y d) Full p q = tt
  deeper P (Found x y d) Nothing p q = p
  deeper P (Found x y d) (Found x' y' d') p q = one (OfFound P) (d' >ᶠ d) (Found x' y' d') (Found x y d) q p

  -- THE DEEPEST POINT OF A ZONE'S PIECES
  pub poi_deep : (pieces : List Piece) → All PieceKnown pieces → OfFound Deep (poi_with_holes room precision pieces)
  unfolding poi_with_holes
  poi_deep pieces k = go pieces k Nothing tt
    where
      go :
          (pieces : List Piece) → All PieceKnown pieces → (best : Deepest) → OfFound Deep best
          → OfFound Deep (foldl (λ best piece. deeper_of best (deepest_point room precision piece)) best pieces)
      go [] k best b = b
      go (piece ∷ pieces) k best b =
          go pieces k.1 (deeper_of best (deepest_point room precision piece)) (deeper Deep best (deepest_point room precision piece) b (point_deep piece k.0))
