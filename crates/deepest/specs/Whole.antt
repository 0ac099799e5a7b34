-- The limit of 21 halvings never cuts a search short: the deepest point is that of the source's search, for every piece whose
-- outer ring lies within 1,024 and every precision of at least 1/1024.
-- Rests on the law of its turns, and on the sizes of the first cells.
use Rattle.std.specs.Prelude.{◌≡◌, ℕ, zero, suc, ◌+◌, ◌-◌, ◌<◌, ◌≤◌, Bool, true, false, cond}
use Rattle.std.specs.Prelude.{◌&&◌, ◌||◌, T, Option, Some, None, List, [], ◌∷◌, length, nat_lt, Float}
use Rattle.std.proofs.Math.Path.{refl}
use Rattle.std.proofs.Common.{arith, lit<}
use Rattle.std.proofs.Math.Dec.{lit≤}
use Rattle.std.specs.Float.{nan, inf, fin, binary64}
use Rattle.std.specs.Float.Ieee.{neg, lt, is_nan, of_bits}
use Rattle.std.specs.Float.Ieee.Fits.{add-fits}
use Rattle.std.specs.Float.Ieee.Scale.{finite}
use Rattle.laws.specs.Truth.{yes, no}
use Rattle.float.specs.Ops.{◌+ᶠ◌, ◌-ᶠ◌, ◌/ᶠ◌, ◌<ᶠ◌, ◌≤ᶠ◌, 0ᶠ, 2ᶠ, ∞}
use Rattle.float.specs.Order.{min, max}
use Rattle.float.specs.Laws.Compare.{lt_le}
use Rattle.rounding.specs.Signed.{nat, signed, ◌⊕◌, ◌≼◌, ◌≺◌}
use Rattle.rounding.specs.Value.{sgn, mag, val, Num, digits}
use Rattle.rounding.specs.Bounds.{Sized, wider, ranged}
use Rattle.rounding.proofs.Bounds.{add_sized, sub_sized}
use Rattle.rounding.proofs.Errors.{add_law}
use Rattle.rounding.specs.Comparison.{≼→le, ¬le→≺}
use Rattle.rounding.specs.Signs.{Nonneg, zero_num, zero_val}
use Rattle.glyphs.specs.Points.{Ring, vertices, x_at, y_at}
use Rattle.glyphs.specs.Bounds.{extent, -∞, extents_of}
use Rattle.glyphs.specs.declared.bounds.Extents.{Extents}
use Rattle.glyphs.specs.declared.rect.Point.{Point}
use Rattle.regions.specs.Ring.{Piece, outer}
use Rattle.regions.specs.Sizes.{Bounded, clearance_sized}
use Rattle.deepest.specs.Order.{halves_from, half_at}
use Rattle.deepest.specs.Match.{Each, each_enter}
use Rattle.deepest.specs.Deepest.{heft, sum_over, make_cell, next_corner, first_corner, Grid, waiting}
use Rattle.deepest.specs.Deepest.{over, grid_from, finish, centre_of, search_in, deepest_point}
use Rattle.deepest.specs.Halvings.{1/1024ᶠ}
use Rattle.deepest.specs.Unlimited.{turns_free, half_sized, Measured, unlimited}
use Rattle.deepest.specs.declared.queue.Cell.{Cell}
use Rattle.deepest.specs.declared.search.Best.{Best}
use Rattle.deepest.specs.declared.search.Deepest.{Deepest}
use Rattle.deepest.specs.declared.search.Deepest.TheVariants.{Nothing, Full}

-- ---- the source's search: no limit on halvings
unfoldable pub finish_free : Piece → List Float → Float → ℕ → Best → Grid → Deepest
finish_free piece halves precision room best over = Full
finish_free piece halves precision room best (waiting q) = turns_free piece halves (sum_over heft q) precision room q best (length q)

unfoldable pub search_free : Piece → Float → ℕ → Extents → Float → Deepest
search_free piece precision room e side =
    let halves = halves_from (side /ᶠ 2ᶠ) 22 in
    finish_free piece halves precision room (centre_of piece e) (grid_from piece halves e side room (first_corner e) [] 0)

-- ---- sizes of the bounds
min_first : (x : Float) → T (finite x) → min ∞ x ≡ x
unfolding min is_nan lt of_bits
min_first nan h = absurd h
min_first (inf s) h = absurd h
min_first (fin s m e) h = refl

max_first : (x : Float) → T (finite x) → max -∞ x ≡ x
unfolding max is_nan lt of_bits neg
max_first nan h = absurd h
max_first (inf s) h = absurd h
max_first (fin s m e) h = refl

min_sized : (x y : Float) (k : ℕ) → Sized x k → Sized y k → Sized (min x y) k
unfolding min
min_sized x y k p q = go (is_nan x) (y <ᶠ x)
  where
    go : (s t : Bool) → Sized (cond s y (cond t y x)) k
    go true t = q
    go false true = q
    go false false = p

max_sized : (x y : Float) (k : ℕ) → Sized x k → Sized y k → Sized (max x y) k
unfolding max
max_sized x y k p q = go (is_nan x) (x <ᶠ y)
  where
    go : (s t : Bool) → Sized (cond s y (cond t y x)) k
    go true t = q
    go false true = q
    go false false = p

extent_sized :
    (f : Float → Float → Float) (start : Float) → ((x : Float) → T (finite x) → f start x ≡ x)
    → ((x y : Float) → Sized x 1024 → Sized y 1024 → Sized (f x y) 1024)
    → (at : Ring → ℕ → Float) (ring : Ring) (n : ℕ) → ((i : ℕ) → i < n → Sized (at ring i) 1024) → (i : ℕ) → i < n
    → Sized (extent f at start ring (suc i)) 1024
unfolding extent
extent_sized f start first keep at ring n h zero l = rw (first (at ring 0) (h 0 l).num.fine) (h 0 l)
extent_sized f start first keep at ring n h (suc i) l = keep _ _ (extent_sized f start first keep at ring n h i (omega arith)) (h (suc i) l)

pub record Framed (e : Extents) : Type 0 where
  pub left : Sized e.min_x 1024
  pub right : Sized e.max_x 1024
  pub bottom : Sized e.min_y 1024
  pub top : Sized e.max_y 1024

last : (n : ℕ) → 2 ≤ n → n ≡ suc (n - 1)
last n h = omega arith

pub framed : (ring : Ring) → Bounded ring → Framed (extents_of ring)
unfolding extents_of
framed ring b =
    let n = vertices ring in
    let e = last n b.two in
    let l : n - 1 < n = omega (arith, b.two) in
    record {
      left = rw e (extent_sized min ∞ min_first (λ x y. min_sized x y 1024) x_at ring n b.xs (n - 1) l);
      right = rw e (extent_sized max -∞ max_first (λ x y. max_sized x y 1024) x_at ring n b.xs (n - 1) l);
      bottom = rw e (extent_sized min ∞ min_first (λ x y. min_sized x y 1024) y_at ring n b.ys (n - 1) l);
      top = rw e (extent_sized max -∞ max_first (λ x y. max_sized x y 1024) y_at ring n b.ys (n - 1) l);
    }

-- ---- the first cells

-- a step that is not negative does not lead down
steps_up : (y side : Float) → Sized y 1024 → Sized side 2048 → Nonneg side → T (y ≤ᶠ y +ᶠ side)
steps_up y side p q n =
    let s : Sized (y +ᶠ side) 3072 = add_sized p q (lit< tt) in
    let r = add_law y side p.num q.num (omega (arith, p.size, q.size)) in
    ≼→le y (y +ᶠ side) p.num s.num (r.least (sgn y) (mag y) (digits y p.num) (grown (sgn y) (mag y) (sgn side) (mag side) n))
  where
    grown : (s : Bool) (m : ℕ) (t : Bool) (k : ℕ) → nat 0 ≼ signed t k → signed s m ≼ signed s m ⊕ signed t k
    grown s m t k h = omega (arith, h)

stays : (y side top : Float) → Sized y 1024 → Sized side 2048 → Nonneg side → Sized top 1024 → T (y +ᶠ side <ᶠ top) → Sized (y +ᶠ side) 1024
stays y side top p q n t h = ranged (add-fits binary64 y side) p t (steps_up y side p q n) (lt_le (y +ᶠ side) top h)

abbrev Cornered : Option Point → Type 0
Cornered None = Unit {0}
Cornered (Some c) = Sized c.x 1024 × Sized c.y 1024

first_cornered : (e : Extents) → Framed e → Cornered (first_corner e)
unfolding first_corner
first_cornered e f = go (e.min_x <ᶠ e.max_x && e.min_y <ᶠ e.max_y)
  where
    go : (t : Bool) → Cornered (cond t (Some (record { x = e.min_x; y = e.min_y })) None)
    go true = (f.left, f.bottom)
    go false = tt

next_cornered :
    (e : Extents) (side : Float) (c : Point) → Framed e → Sized side 2048 → Nonneg side → Sized c.x 1024 → Sized c.y 1024
    → Cornered (next_corner e side c)
unfolding next_corner
next_cornered e side c f q n sx sy = go (c.y +ᶠ side <ᶠ e.max_y) (c.x +ᶠ side <ᶠ e.max_x) refl refl
  where
    go :
        (t u : Bool) → c.y +ᶠ side <ᶠ e.max_y ≡ t → c.x +ᶠ side <ᶠ e.max_x ≡ u
        → Cornered (cond t (Some (record { x = c.x; y = c.y +ᶠ side })) (cond u (Some (record { x = c.x +ᶠ side; y = e.min_y })) None))
    go true u h k = (sx, stays c.y side e.max_y sy q n f.top (yes h))
    go false true h k = (stays c.x side e.max_x sx q n f.right (yes k), f.bottom)
    go false false h k = tt

module _ (ring : Ring) (holes : List Ring) (b : Bounded ring) (e : Extents) (f : Framed e) (side : Float) (sized : Sized side 2048) (up : Nonneg side) where
  narrow : Sized (side /ᶠ 2ᶠ) 1024
  narrow = half_sized side 1024 (lit< tt) sized

  abbrev AllMeasured : Grid → Type 0
  AllMeasured over = Unit {0}
  AllMeasured (waiting q) = Each (Measured ring holes b (side /ᶠ 2ᶠ) narrow) q

  first_measured :
      (x y : Float) (n : ℕ) → Sized x 1024 → Sized y 1024
      → Measured ring holes b (side /ᶠ 2ᶠ) narrow
      (make_cell (ring ∷ holes) (x +ᶠ half_at (halves_from (side /ᶠ 2ᶠ) 22) 0) (y +ᶠ half_at (halves_from (side /ᶠ 2ᶠ) 22) 0) 0 n)
  unfolding make_cell halves_from
  first_measured x y n p q = record { few = lit≤ tt; across = add_sized p narrow (lit< tt); along = add_sized q narrow (lit< tt); clear = refl }

  grid_measured :
      (r : ℕ) (c : Option Point) (q : List Cell) (n : ℕ) → Cornered c → Each (Measured ring holes b (side /ᶠ 2ᶠ) narrow) q
      → AllMeasured (grid_from (ring ∷ holes) (halves_from (side /ᶠ 2ᶠ) 22) e side r c q n)
  unfolding grid_from
  grid_measured r None q n w a = a
  grid_measured zero (Some c) q n w a = tt
  grid_measured (suc r) (Some c) q n w a =
      grid_measured r _ _ (n + 1) (next_cornered e side c f sized up w.0 w.1) (each_enter _ _ _ _ (first_measured c.x c.y n w.0 w.1) a)

  middle : (x y : Float) → Sized x 1024 → Sized y 1024 → Sized ((x +ᶠ y) /ᶠ 2ᶠ) 15360
  middle x y p q = wider (lit≤ tt) (half_sized (x +ᶠ y) 1024 (lit< tt) (add_sized p q (lit< tt)))

  centre_sized : Sized (centre_of (ring ∷ holes) e).d 26067
  unfolding centre_of
  centre_sized =
      clearance_sized ((e.min_x +ᶠ e.max_x) /ᶠ 2ᶠ) ((e.min_y +ᶠ e.max_y) /ᶠ 2ᶠ) ring holes (middle _ _ f.left f.right)
      (middle _ _ f.bottom f.top)
      b

  pub same_search :
      (precision : Float) → Num precision → T (1/1024ᶠ ≤ᶠ precision) → (room : ℕ)
      → search_in (ring ∷ holes) precision room e side ≡ search_free (ring ∷ holes) precision room e side
  unfolding search_in search_free finish finish_free
  same_search precision hp least room =
      go (grid_from (ring ∷ holes) (halves_from (side /ᶠ 2ᶠ) 22) e side room (first_corner e) [] 0)
      (grid_measured room (first_corner e) [] 0 (first_cornered e f) tt)
    where
      go :
          (g : Grid) → AllMeasured g
          → finish (ring ∷ holes) (halves_from (side /ᶠ 2ᶠ) 22) precision room (centre_of (ring ∷ holes) e) g
          ≡ finish_free (ring ∷ holes) (halves_from (side /ᶠ 2ᶠ) 22) precision room (centre_of (ring ∷ holes) e) g
      go over a = refl
      go (waiting q) a =
          unlimited ring holes b (side /ᶠ 2ᶠ) narrow precision hp least room (sum_over heft q) q (centre_of (ring ∷ holes) e) (length q) a centre_sized

-- ---- the law
unfoldable pub deepest_free : ℕ → Float → Piece → Deepest
deepest_free room precision piece =
    let e = extents_of (outer piece) in
    let width = e.max_x -ᶠ e.min_x in
    let height = e.max_y -ᶠ e.min_y in
    cond (nat_lt (vertices (outer piece)) 3) Nothing
    (cond (width ≤ᶠ 0ᶠ || height ≤ᶠ 0ᶠ) Nothing (search_free piece precision room e (min width height)))

above : (x : Float) → Num x → x ≤ᶠ 0ᶠ ≡ false → Nonneg x
above x p h =
    let l = ¬le→≺ x 0ᶠ p zero_num (no h) in
    positive (rw zero_val at l)
  where
    positive : nat 0 ≺ val x → nat 0 ≼ val x
    positive l = omega arith

min_nonneg : (x y : Float) → Nonneg x → Nonneg y → Nonneg (min x y)
unfolding min
min_nonneg x y p q = go (is_nan x) (y <ᶠ x)
  where
    go : (s t : Bool) → Nonneg (cond s y (cond t y x))
    go true t = q
    go false true = q
    go false false = p

chosen :
    (s p q : Bool) (a b : Deepest) → (p ≡ false → q ≡ false → a ≡ b)
    → cond s Nothing (cond (p || q) Nothing a) ≡ cond s Nothing (cond (p || q) Nothing b)
chosen true p q a b h = refl
chosen false true q a b h = refl
chosen false false true a b h = refl
chosen false false false a b h = h refl refl

pub never_short :
    (room : ℕ) (precision : Float) (ring : Ring) (holes : List Ring) → Bounded ring → Num precision → T (1/1024ᶠ ≤ᶠ precision)
    → deepest_point room precision (ring ∷ holes) ≡ deepest_free room precision (ring ∷ holes)
unfolding deepest_point deepest_free outer
never_short room precision ring holes b hp least =
    let e = extents_of ring in
    let f = framed ring b in
    let w = e.max_x -ᶠ e.min_x in
    let h = e.max_y -ᶠ e.min_y in
    let wide : Sized w 2048 = sub_sized f.right f.left (lit< tt) in
    let high : Sized h 2048 = sub_sized f.top f.bottom (lit< tt) in
    chosen (nat_lt (vertices ring) 3) (w ≤ᶠ 0ᶠ) (h ≤ᶠ 0ᶠ) _ _
    (λ p q.
    same_search ring holes b e f (min w h) (min_sized w h 2048 wide high) (min_nonneg w h (above w wide.num p) (above h high.num q)) precision hp least room)
