-- Any two cells of a lattice walk are, in exact distance, at least its spacing less 2 ^ -30 apart.
-- Rests on the rounding crate's law of two different cells, and on no cell being visited twice.
use Rattle.std.specs.Prelude.{◌≡◌, refl, Bool, true, false, ◌*◌, ◌≤◌, T, ℤ, pos, negsuc, Float}
use mathlib.Core.List.{List, [], ◌∷◌, ◌++◌, map, foldr}
use Rattle.std.proofs.Common.{arith}
use Rattle.std.specs.Int.Signed.{le_z}
use Rattle.laws.specs.Every.{Every, every_append, every_map, Pairwise, pairwise_append}
use Rattle.float.specs.Ops.{◌+ᶠ◌, ◌-ᶠ◌, ◌*ᶠ◌, ◌/ᶠ◌}
use Rattle.float.specs.Whole.{floor, ceil, as_i64}
use Rattle.rounding.specs.Value.{U, mag}
use Rattle.rounding.specs.Bounds.{Sized}
use Rattle.rounding.specs.Distance.{Length}
use Rattle.rounding.specs.Row.{Step, length_step}
use Rattle.rounding.proofs.Row.{row_law}
use Rattle.rounding.specs.Steps.{Reach}
use Rattle.rounding.proofs.Walk.{across_walk, along_walk}
use Rattle.rounding.specs.Lattice.{rem_euclid, odd}
use Rattle.rounding.proofs.Lattice.{rectangular, hexagonal}
use Rattle.glyphs.specs.declared.rect.Point.{Point}
use Rattle.lattice.specs.declared.context.Lattice.{Lattice}
use Rattle.lattice.specs.Escape.{point}
use Rattle.lattice.specs.Lattice.{rem_euclid2, i64_as_f64, through, row_height, is_shifted, row_offset, row_cells, all_cells}
use Rattle.claims.specs.Kept.{Apart}
use Rattle.claims.specs.Whole.{every_through, pairwise_through}

same_remainder : (j : ℤ) → rem_euclid j 2 ≡ rem_euclid2 j
unfolding rem_euclid rem_euclid2
same_remainder (pos n) = refl
same_remainder (negsuc n) = omega arith

module _ (s : Float) (aligned : Bool) (anchor : Point) (L : Length s) (AX : Sized anchor.x 65536) (AY : Sized anchor.y 65536) where
  abbrev lattice : Lattice
  lattice = record { spacing = s; rectangular = aligned }

  -- the place of cell i of row j
  unfoldable cell : ℤ → ℤ → Point
  cell i j = point (anchor.x +ᶠ row_offset lattice j +ᶠ i64_as_f64 i *ᶠ s) (anchor.y +ᶠ i64_as_f64 j *ᶠ row_height lattice)

cells_apart :
    (s : Float) (aligned : Bool) (anchor : Point) (L : Length s) (AX : Sized anchor.x 65536) (AY : Sized anchor.y 65536) (i j i' j' : ℤ)
    → Reach i s → Reach j (row_height (record { spacing = s; rectangular = aligned })) → Reach i' s
    → Reach j' (row_height (record { spacing = s; rectangular = aligned }))
    → (i ≡ i' → j ≡ j' → ⊥) → Apart s (cell s aligned anchor L AX AY i j) (cell s aligned anchor L AX AY i' j')
unfolding cell row_offset is_shifted row_height
cells_apart s true anchor L AX AY i j i' j' ri rj ri' rj' n = rectangular s anchor.x anchor.y L AX AY i j i' j' ri rj ri' rj' n
cells_apart s false anchor L AX AY i j i' j' ri rj ri' rj' n =
    rw (← same_remainder j, ← same_remainder j') (unfold odd in hexagonal s anchor.x anchor.y L AX AY i j i' j' ri rj ri' rj' n)

-- the row height is a step of the walk too
row_step :
    (s : Float) (aligned : Bool) → Length s → mag s ≤ 36864 * U
    → Step (row_height (record { spacing = s; rectangular = aligned })) × (mag (row_height (record { spacing = s; rectangular = aligned })) ≤ 36864 * U)
unfolding row_height
row_step s true L B = (length_step L, B)
row_step s false L B = let r = row_law s L in (r.step, omega (arith, r.low, B))

-- the anchor anywhere within 65,536, the box within 1,024
module _
    (s : Float) (aligned : Bool) (anchor : Point) (min-x max-x min-y max-y : Float)
    (L : Length s) (B : mag s ≤ 36864 * U) (AX : Sized anchor.x 65536) (AY : Sized anchor.y 65536)
    (LX : Sized min-x 1024) (GX : Sized max-x 1024) (LY : Sized min-y 1024) (GY : Sized max-y 1024) where
  abbrev lat : Lattice
  lat = record { spacing = s; rectangular = aligned }

  abbrev place : ℤ → ℤ → Point
  place i j = cell s aligned anchor L AX AY i j

  abbrev i_min : ℤ → ℤ
  i_min j = as_i64 (floor ((min-x -ᶠ row_offset lat j -ᶠ anchor.x) /ᶠ s))

  abbrev i_max : ℤ → ℤ
  i_max j = as_i64 (ceil ((max-x -ᶠ row_offset lat j -ᶠ anchor.x) /ᶠ s))

  abbrev later : List ℤ → List Point
  later js = foldr (λ (j : ℤ) (rest : List Point). row_cells lat anchor min-x max-x j ++ rest) [] js

  abbrev RowReach : ℤ → Type 0
  RowReach j = Reach j (row_height lat)

  cell_reach : (j i : ℤ) → T (le_z (i_min j) i) → T (le_z i (i_max j)) → Reach i s
  unfolding row_offset
  cell_reach j i p q = across_walk s (length_step L) B (is_shifted lat j) anchor.x min-x max-x AX LX GX i p q

  -- what holds of every cell of a row, and of all later rows
  every_row : (P : Point → Type 0) (j : ℤ) → ((i : ℤ) → Reach i s → P (place i j)) → Every P (row_cells lat anchor min-x max-x j)
  unfolding row_cells cell
  every_row P j f =
      every_map P (λ (i : ℤ). point (anchor.x +ᶠ row_offset lat j +ᶠ i64_as_f64 i *ᶠ s) (anchor.y +ᶠ i64_as_f64 j *ᶠ row_height lat))
      (through (i_min j) (i_max j))
      (every_through (i_min j) (i_max j) (λ (i : ℤ). P (place i j)) (λ i p q. f i (cell_reach j i p q)))

  every_later : (P : Point → Type 0) (js : List ℤ) → Every (λ (j : ℤ). (i : ℤ) → Reach i s → P (place i j)) js → Every P (later js)
  every_later P [] h = tt
  every_later P (j ∷ js) h = every_append P (row_cells lat anchor min-x max-x j) (later js) (every_row P j h.0) (every_later P js h.1)

  pairwise_map : {A B : Type 0} (R : B → B → Type 0) (f : A → B) (xs : List A) → Pairwise (λ (x y : A). R (f x) (f y)) xs → Pairwise R (map f xs)
  pairwise_map R f [] h = tt
  pairwise_map R f (x ∷ xs) h = (every_map (R (f x)) f xs h.0, pairwise_map R f xs h.1)

  one_row : (j : ℤ) → RowReach j → Pairwise (Apart s) (row_cells lat anchor min-x max-x j)
  unfolding row_cells cell
  one_row j r =
      pairwise_map (Apart s) (λ (i : ℤ). point (anchor.x +ᶠ row_offset lat j +ᶠ i64_as_f64 i *ᶠ s) (anchor.y +ᶠ i64_as_f64 j *ᶠ row_height lat))
      (through (i_min j) (i_max j))
      (pairwise_through (i_min j) (i_max j) (λ (i i' : ℤ). Apart s (place i j) (place i' j))
      (λ i i' p q p' q' n. cells_apart s aligned anchor L AX AY i j i' j (cell_reach j i p q) r (cell_reach j i' p' q') r (λ e f. n e)))

  rows : (js : List ℤ) → Every RowReach js → Pairwise (λ (j k : ℤ). j ≡ k → ⊥) js → Pairwise (Apart s) (later js)
  rows [] h p = tt
  rows (j ∷ js) h p =
      pairwise_append (Apart s) (row_cells lat anchor min-x max-x j) (later js) (one_row j h.0) (rows js h.1 p.1)
      (every_row (λ (c : Point). Every (Apart s c) (later js)) j (λ i r. every_later (Apart s (place i j)) js (others i r js h.1 p.0)))
    where
      others :
          (i : ℤ) → Reach i s → (ks : List ℤ) → Every RowReach ks → Every (λ (k : ℤ). j ≡ k → ⊥) ks
          → Every (λ (k : ℤ). (i' : ℤ) → Reach i' s → Apart s (place i j) (place i' k)) ks
      others i r [] g d = tt
      others i r (k ∷ ks) g d = (λ i' r'. cells_apart s aligned anchor L AX AY i j i' k r h.0 r' g.0 (λ e f. d.0 f), others i r ks g.1 d.1)

  pub walk_apart : Pairwise (Apart s) (all_cells lat anchor min-x max-x min-y max-y)
  unfolding all_cells
  walk_apart =
      let h = row_height lat in
      let j-min = as_i64 (floor ((min-y -ᶠ anchor.y) /ᶠ h)) in
      let j-max = as_i64 (ceil ((max-y -ᶠ anchor.y) /ᶠ h)) in
      rows (through j-min j-max)
      (every_through j-min j-max RowReach (λ j p q. along_walk h (row_step s aligned L B).0 (row_step s aligned L B).1 anchor.y min-y max-y AY LY GY j p q))
      (pairwise_through j-min j-max (λ (j k : ℤ). j ≡ k → ⊥) (λ j k p q p' q' n. n))
