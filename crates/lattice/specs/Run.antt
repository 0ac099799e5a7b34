-- A short run of cells in order merged into the cells that a slice keeps in order, from the back: what is placed at each turn,
-- and what the slice holds in the end.
-- Rests on the laws of which element is the last, and of points in a slice.
use Rattle.std.specs.Prelude.{◌≡◌, ℕ, zero, suc, ◌+◌, ◌-◌, ◌*◌, ◌<◌, ◌≤◌, min, Bool, true, false, cond, ◌≢◌}
use Rattle.std.specs.Prelude.{List, [], ◌∷◌, ◌++◌, length, get_or, take, drop, nat_lt, slice_index_or, slice_set, refl, Float}
use Rattle.std.proofs.Math.Path.{sym, ap}
use Rattle.std.proofs.Common.{◌∙◌, subst, ⊎_elim, lt-ltb, le-ltb, length-take, length-set, take-append-drop, take_at, drop_at, take-take, take-suc}
use Rattle.std.proofs.Common.{drop-cons, drop-set-lt, get_or-take, get_or-set_same, get_or-set_other}
use native.Mathlib.Omega.{arith}
use Rattle.std.proofs.Math.Seq.{take_all}
use Rattle.std.proofs.lemmas.List.{take-append-le, take-set-le, get_or_at}
use Rattle.std.specs.Float.{nan}
use Rattle.laws.specs.Bounded.{take_ascending}
use Rattle.laws.specs.Lists.{written, length_written}
use Rattle.laws.specs.Orders.{is_lt, lt_or_le}
use Rattle.laws.specs.Sorted.{Ascending}
use Rattle.glyphs.specs.declared.rect.Point.{Point}
use Rattle.glyphs.specs.Spots.{flat, length_flat}
use Rattle.lattice.specs.Escape.{point}
use Rattle.lattice.specs.Flat.{points, point_at, length_points, points_at, take_points, flat_points, flat_take, written_points}
use Rattle.lattice.specs.Keys.{linear_by}
use Rattle.lattice.specs.Lattice.{by_anchor}
use Rattle.lattice.specs.Merge.{inserted, inserted_none, length_inserted, last_old, last_new, last_only}

-- whether p is before the last of the first i cells
unfoldable pub before_last : Point → Point → List Float → ℕ → Bool
before_last anchor p l zero = false
before_last anchor p l (suc i) = is_lt (by_anchor anchor p (point_at l i))

pub before_none : (anchor p : Point) (l : List Float) (i : ℕ) → i ≡ 0 → false ≡ before_last anchor p l i
unfolding before_last
before_none anchor p l i e = rw e

pub before_some : (anchor p : Point) (l : List Float) (i : ℕ) → i ≢ 0 → is_lt (by_anchor anchor p (point_at l (i - 1))) ≡ before_last anchor p l i
unfolding before_last
before_some anchor p l zero n = absurd (omega arith)
before_some anchor p l (suc i) n = let e : suc i - 1 ≡ i = omega arith in rw e

-- p at the place e, where that is below cap
unfoldable pub put_below : ℕ → List Float → ℕ → Point → List Float
put_below cap l e p = cond (nat_lt e cap) (slice_set (slice_set l (e * 2) p.x) (e * 2 + 1) p.y) l

-- ---- one place of a slice
points_next : (i : ℕ) (l : List Float) → suc i * 2 ≤ length l → points (suc i) l ≡ points i l ++ point_at l i ∷ []
points_next i l h =
    let n : length (points (suc i) l) ≡ suc i = length_points (suc i) l h in
    sym (take_all (suc i) (points (suc i) l) (omega arith))
    ∙ take-suc (points (suc i) l) i (point nan nan) (omega arith)
    ∙ rw (take_points i (suc i) l (omega arith), points_at (suc i) l i (point nan nan) (omega arith) h)

same_point : (i n : ℕ) (l l₀ : List Float) → i < n → take (n * 2) l ≡ take (n * 2) l₀ → point_at l i ≡ point_at l₀ i
same_point i n l l₀ h e =
    let x : get_or l (i * 2) nan ≡ get_or l₀ (i * 2) nan =
    sym (get_or-take (n * 2) l (i * 2) nan (omega arith))
    ∙ ap (λ (t : List Float). get_or t (i * 2) nan) e
    ∙ get_or-take (n * 2) l₀ (i * 2) nan (omega arith) in
    let y : get_or l (i * 2 + 1) nan ≡ get_or l₀ (i * 2 + 1) nan =
    sym (get_or-take (n * 2) l (i * 2 + 1) nan (omega arith))
    ∙ ap (λ (t : List Float). get_or t (i * 2 + 1) nan) e
    ∙ get_or-take (n * 2) l₀ (i * 2 + 1) nan (omega arith) in
    rw (x, y)

-- from a place on, its cell and what is behind
from_place : (e : ℕ) (l : List Float) (p : Point) → suc e * 2 ≤ length l → point_at l e ≡ p → drop (e * 2) l ≡ p.x ∷ p.y ∷ drop (suc e * 2) l
from_place e l p h k =
    let f : suc e * 2 ≡ suc (suc (e * 2)) = omega arith in
    let g : e * 2 + 1 ≡ suc (e * 2) = omega arith in
    rw (f, ← k, g, drop-cons l (e * 2) nan (omega arith), drop-cons l (suc (e * 2)) nan (omega arith))

module _ (cap : ℕ) (l : List Float) (e : ℕ) (p : Point) where
  pub put_in : e < cap → put_below cap l e p ≡ slice_set (slice_set l (e * 2) p.x) (e * 2 + 1) p.y
  unfolding put_below
  put_in h = rw (lt-ltb e cap h)

  pub put_out : cap ≤ e → put_below cap l e p ≡ l
  unfolding put_below
  put_out h = rw (le-ltb e cap h)

  apart : e * 2 ≢ e * 2 + 1
  apart z = omega arith

  put_point : cap * 2 ≤ length l → e < cap → point_at (put_below cap l e p) e ≡ p
  put_point room h =
      let x : get_or (slice_set (slice_set l (e * 2) p.x) (e * 2 + 1) p.y) (e * 2) nan ≡ p.x =
      get_or-set_other (slice_set l (e * 2) p.x) (e * 2 + 1) (e * 2) p.y nan apart ∙ get_or-set_same l (e * 2) p.x nan (omega arith) in
      let y : get_or (slice_set (slice_set l (e * 2) p.x) (e * 2 + 1) p.y) (e * 2 + 1) nan ≡ p.y =
      get_or-set_same (slice_set l (e * 2) p.x) (e * 2 + 1) p.y nan (simp length-set (omega arith)) in
      rw (put_in h, x, y)

  length_put : length (put_below cap l e p) ≡ length l
  length_put =
      ⊎_elim (λ (h : e < cap). ap length (put_in h) ∙ simp length-set)
      (λ (h : cap ≤ e). ap length (put_out h))
      (lt_or_le e cap)

  put_front : (n : ℕ) → n ≤ e → take (n * 2) (put_below cap l e p) ≡ take (n * 2) l
  put_front n g =
      ⊎_elim
      (λ (h : e < cap).
      ap (take (n * 2)) (put_in h)
      ∙ take-set-le (n * 2) (slice_set l (e * 2) p.x) (e * 2 + 1) p.y (omega arith)
      ∙ take-set-le (n * 2) l (e * 2) p.x (omega arith))
      (λ (h : cap ≤ e). ap (take (n * 2)) (put_out h))
      (lt_or_le e cap)

  put_back : e < cap → drop (suc e * 2) (put_below cap l e p) ≡ drop (suc e * 2) l
  put_back h =
      ap (drop (suc e * 2)) (put_in h)
      ∙ drop-set-lt (suc e * 2) (slice_set l (e * 2) p.x) (e * 2 + 1) p.y (omega arith)
      ∙ drop-set-lt (suc e * 2) l (e * 2) p.x (omega arith)

-- ---- the turns
module _ (anchor : Point) (l₀ run : List Float) (m cap k : ℕ) where
  abbrev pub whole : List Point
  whole = inserted (by_anchor anchor) (points m l₀) (points k run)

  abbrev pub merged : List Float
  merged = written (flat (take cap whole)) l₀

  -- with i of the old cells and j of the run left, those behind are placed
  pub record Merging (i j : ℕ) (l : List Float) : Type 0 where
    pub old_left : i ≤ m
    pub new_left : j ≤ k
    pub as_long : length l ≡ length l₀
    pub front : take (i * 2) l ≡ take (i * 2) l₀
    pub back : drop (min (i + j) cap * 2) l ≡ drop (min (i + j) cap * 2) merged
    pub left : take (i + j) whole ≡ inserted (by_anchor anchor) (points i l₀) (points j run)

  module _
      (fits : m ≤ cap) (room : cap * 2 ≤ length l₀) (given : k * 2 ≤ length run) (old-order : Ascending (by_anchor anchor) (points m l₀))
      (new-order : Ascending (by_anchor anchor) (points k run)) where
    left_number : (i j : ℕ) → i ≤ m → j ≤ k → length (inserted (by_anchor anchor) (points i l₀) (points j run)) ≡ i + j
    left_number i j h g =
        omega (arith, length_inserted (by_anchor anchor) (points i l₀) (points j run), length_points i l₀ (omega arith), length_points j run (omega arith))

    taken_number : length (take cap whole) ≡ min (m + k) cap
    taken_number = omega (arith, length-take cap whole, left_number m k (omega arith) (omega arith))

    length_merged : length merged ≡ length l₀
    length_merged = length_written (flat (take cap whole)) l₀ (omega (arith, length_flat (take cap whole), taken_number))

    merged_at : (e : ℕ) (d : Point) → e < cap → e < m + k → point_at merged e ≡ slice_index_or whole e d
    merged_at e d h g =
        let n = taken_number in
        sym (points_at (length (take cap whole)) merged e d (omega arith) (omega (arith, length_merged)))
        ∙ ap (λ (t : List Point). get_or t e d) (written_points (take cap whole) l₀)
        ∙ get_or-take cap whole e d h

    pub merge_start : Merging m k l₀
    unfolding written
    merge_start =
        let n : length (flat (take cap whole)) ≡ min (m + k) cap * 2 = omega (arith, length_flat (take cap whole), taken_number) in
        record {
          old_left = omega arith;
          new_left = omega arith;
          as_long = refl;
          front = refl;
          back = sym (drop_at (flat (take cap whole)) (drop (length (flat (take cap whole))) l₀) (min (m + k) cap * 2) n ∙ rw n);
          left = take_all (m + k) whole (omega (arith, left_number m k (omega arith) (omega arith)));
        }

    -- q is the last of those which are left, and is placed
    placed :
        (i j : ℕ) (l : List Float) (q : Point) → i ≤ m → j ≤ k → i + j < m + k → length l ≡ length l₀ → take (i * 2) l ≡ take (i * 2) l₀
        → drop (min (suc (i + j)) cap * 2) l ≡ drop (min (suc (i + j)) cap * 2) merged
        → take (suc (i + j)) whole ≡ inserted (by_anchor anchor) (points i l₀) (points j run) ++ q ∷ []
        → Merging i j (put_below cap l (i + j) q)
    placed i j l q h g b n f e w =
        let rest = inserted (by_anchor anchor) (points i l₀) (points j run) in
        let c : length rest ≡ i + j = left_number i j h g in
        let at : get_or whole (i + j) q ≡ q =
        sym (get_or-take (suc (i + j)) whole (i + j) q (omega arith)) ∙ ap (λ (t : List Point). get_or t (i + j) q) w ∙ get_or_at rest q [] q (i + j) c in
        let behind : drop (min (i + j) cap * 2) (put_below cap l (i + j) q) ≡ drop (min (i + j) cap * 2) merged =
        ⊎_elim
        (λ (s : i + j < cap).
        let u : min (i + j) cap ≡ i + j = omega arith in
        let v : min (suc (i + j)) cap ≡ suc (i + j) = omega arith in
        let z : drop (suc (i + j) * 2) l ≡ drop (suc (i + j) * 2) merged = rw v at e in
        rw u
        (from_place (i + j) (put_below cap l (i + j) q) q (omega (arith, length_put cap l (i + j) q)) (put_point cap l (i + j) q (omega arith) s)
        ∙ ap (λ (t : List Float). q.x ∷ q.y ∷ t) (put_back cap l (i + j) q s ∙ z)
        ∙ sym (from_place (i + j) merged q (omega (arith, length_merged)) (merged_at (i + j) q s b ∙ at))))
        (λ (s : cap ≤ i + j).
        let u : min (i + j) cap ≡ min (suc (i + j)) cap = omega arith in
        rw (put_out cap l (i + j) q s, u) e)
        (lt_or_le (i + j) cap) in
        record {
          old_left = h;
          new_left = g;
          as_long = length_put cap l (i + j) q ∙ n;
          front = put_front cap l (i + j) q i (omega arith) ∙ f;
          back = behind;
          left = sym (take-take (i + j) (suc (i + j)) whole (omega arith)) ∙ ap (take (i + j)) w ∙ take_at rest (q ∷ []) (i + j) c;
        }

    -- the run is used up
    pub merge_done : (i j : ℕ) (l : List Float) → Merging i j l → j ≡ 0 → l ≡ merged
    unfolding written points
    merge_done i j l s z =
        let u : i + j ≡ i = omega arith in
        let c : min (i + j) cap ≡ i = omega (arith, s.old_left) in
        let w : take i whole ≡ points i l₀ =
        sym (ap (λ (n : ℕ). take n whole) u)
        ∙ s.left
        ∙ ap (λ (n : ℕ). inserted (by_anchor anchor) (points i l₀) (points n run)) z
        ∙ inserted_none (by_anchor anchor) (points i l₀) in
        let n : i * 2 ≤ length (flat (take cap whole)) = omega (arith, length_flat (take cap whole), taken_number, s.old_left) in
        let f : take (i * 2) l ≡ take (i * 2) merged =
        s.front
        ∙ sym (flat_points i l₀ (omega (arith, s.old_left)))
        ∙ ap flat (sym w ∙ sym (take-take i cap whole (omega (arith, s.old_left))))
        ∙ flat_take i (take cap whole)
        ∙ sym (take-append-le (i * 2) (flat (take cap whole)) (drop (length (flat (take cap whole))) l₀) n) in
        let g : drop (i * 2) l ≡ drop (i * 2) merged = rw c at s.back in
        sym (take-append-drop (i * 2) l) ∙ rw (f, g) (take-append-drop (i * 2) merged)

    run_next : (j : ℕ) → j < k → points (suc j) run ≡ points j run ++ point_at run j ∷ []
    run_next j h = points_next j run (omega arith)

    old_next : (i : ℕ) → i < m → points (suc i) l₀ ≡ points i l₀ ++ point_at l₀ i ∷ []
    old_next i h = points_next i l₀ (omega arith)

    run_ascends : (j : ℕ) → j < k → Ascending (by_anchor anchor) (points j run ++ point_at run j ∷ [])
    run_ascends j h =
        subst (Ascending (by_anchor anchor)) (take_points (suc j) k run h ∙ run_next j h) (take_ascending (by_anchor anchor) (suc j) (points k run) new-order)

    old_ascends : (i : ℕ) → i < m → Ascending (by_anchor anchor) (points i l₀ ++ point_at l₀ i ∷ [])
    old_ascends i h =
        subst (Ascending (by_anchor anchor)) (take_points (suc i) m l₀ h ∙ old_next i h) (take_ascending (by_anchor anchor) (suc i) (points m l₀) old-order)

    shorter : (i : ℕ) (l : List Float) → take (suc i * 2) l ≡ take (suc i * 2) l₀ → take (i * 2) l ≡ take (i * 2) l₀
    shorter i l e =
        sym (take-take (i * 2) (suc i * 2) l (omega arith)) ∙ ap (take (i * 2)) e ∙ take-take (i * 2) (suc i * 2) l₀ (omega arith)

    new_last :
        (i j : ℕ) (l : List Float) → i ≤ m → take (i * 2) l ≡ take (i * 2) l₀ → j < k → before_last anchor (point_at run j) l i ≡ false
        → inserted (by_anchor anchor) (points i l₀) (points j run ++ point_at run j ∷ [])
        ≡ inserted (by_anchor anchor) (points i l₀) (points j run) ++ point_at run j ∷ []
    unfolding before_last points
    new_last zero j l h f r e = last_only (by_anchor anchor) (linear_by anchor) (points j run) (point_at run j) (run_ascends j r)
    new_last (suc i) j l h f r e =
        let x : point_at l i ≡ point_at l₀ i = same_point i (suc i) l l₀ (omega arith) f in
        let y : is_lt (by_anchor anchor (point_at run j) (point_at l₀ i)) ≡ false =
        ap (λ (p : Point). is_lt (by_anchor anchor (point_at run j) p)) (sym x) ∙ e in
        rw (old_next i h)
        (last_new (by_anchor anchor) (linear_by anchor) (points i l₀) (points j run) (point_at l₀ i) (point_at run j)
        (old_ascends i h) (run_ascends j r) y)

    -- the last old cell is placed
    pub merge_old :
        (i j : ℕ) (l : List Float) → Merging i j l → 0 < j → before_last anchor (point_at run (j - 1)) l i ≡ true
        → (0 < i) × Merging (i - 1) j (put_below cap l (i - 1 + j) (point_at l (i - 1)))
    unfolding before_last
    merge_old i zero l s h e = absurd (omega arith)
    merge_old zero (suc j) l s h e = let w : false ≡ true = e in let v : ◌≡◌ {A = ℕ} 0 1 = cc in absurd (omega arith)
    merge_old (suc i) (suc j) l s h e =
        let a : suc i - 1 ≡ i = omega arith in
        let b : suc j - 1 ≡ j = omega arith in
        let c : suc i + suc j ≡ suc (i + suc j) = omega arith in
        let g : i < m = s.old_left in
        let r : j < k = s.new_left in
        let x : point_at l i ≡ point_at l₀ i = same_point i (suc i) l l₀ (omega arith) s.front in
        let y : is_lt (by_anchor anchor (point_at run j) (point_at l₀ i)) ≡ true =
        ap (λ (p : Point). is_lt (by_anchor anchor (point_at run j) p)) (sym x) ∙ rw b at e in
        let w : take (suc (i + suc j)) whole ≡ inserted (by_anchor anchor) (points i l₀) (points (suc j) run) ++ point_at l i ∷ [] =
        sym (ap (λ (n : ℕ). take n whole) c)
        ∙ s.left
        ∙ rw (run_next j r, old_next i g)
        (last_old (by_anchor anchor) (linear_by anchor) (points i l₀) (points j run) (point_at l₀ i) (point_at run j) (run_ascends j r) y)
        ∙ ap (λ (p : Point). inserted (by_anchor anchor) (points i l₀) (points j run ++ point_at run j ∷ []) ++ p ∷ []) (sym x)
        ∙ rw (run_next j r) in (
          omega arith,
          rw a (placed i (suc j) l (point_at l i) (omega arith) r (omega arith) s.as_long (shorter i l s.front) (rw c at s.back) w),
        )

    -- the last cell of the run is placed
    pub merge_new :
        (i j : ℕ) (l : List Float) → Merging i j l → 0 < j → before_last anchor (point_at run (j - 1)) l i ≡ false
        → Merging i (j - 1) (put_below cap l (i + (j - 1)) (point_at run (j - 1)))
    unfolding before_last
    merge_new i zero l s h e = absurd (omega arith)
    merge_new i (suc j) l s h e =
        let b : suc j - 1 ≡ j = omega arith in
        let c : i + suc j ≡ suc (i + j) = omega arith in
        let r : j < k = s.new_left in
        let w : take (suc (i + j)) whole ≡ inserted (by_anchor anchor) (points i l₀) (points j run) ++ point_at run j ∷ [] =
        sym (ap (λ (n : ℕ). take n whole) c)
        ∙ s.left
        ∙ rw (run_next j r) (new_last i j l s.old_left s.front r (rw b at e)) in
        rw b (placed i j l (point_at run j) s.old_left (omega arith) (omega (arith, s.old_left)) s.as_long s.front (rw c at s.back) w)
