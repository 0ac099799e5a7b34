-- The waiting cells of the slice are those of the definition's list: equal as bags, so that the heap's first is the list's first.
-- Rests on the laws of the order of leaving, and on cells told apart.
use Rattle.std.specs.Prelude.{◌≡◌, ℕ, zero, suc, ◌+◌, ◌<◌, Bool, true, false, cond, ◌⊎◌, List, [], ◌∷◌, length, Float}
use Rattle.std.proofs.Common.{zero-le, sym, ◌∙◌, true≢false, le_of_suc-le-suc, eq-or-lt_of_le}
use Rattle.std.proofs.Math.Path.{refl, ap, subst}
use Rattle.std.proofs.Math.Logic.{inl, inr}
use native.Mathlib.Omega.{arith}
use Rattle.std.proofs.Math.Arith.{lt_of_le-ne}
use Rattle.deepest.specs.Order.{leaves, leaves_chain, leaves_asym, leaves_tie}
use Rattle.deepest.specs.Cells.{Rows, cell_at}
use Rattle.deepest.specs.Heap.{root_first, same_or_not, itself}
use Rattle.deepest.specs.Same.{cell_eq, cell_same, is_cell, is_itself, is_other}
use Rattle.deepest.specs.Queue.{total, Queue, Pushed, Popped}
use Rattle.deepest.specs.Deepest.{enter, sum_over}
use Rattle.deepest.specs.declared.queue.Cell.{Cell}

-- ---- in the slice
array_find : (c : Cell) (A : ℕ → Cell) (n : ℕ) → 0 < total (is_cell c) A n → (k : ℕ) × (k < n) × (A k ≡ c)
unfolding total
array_find c A zero h = absurd (omega arith)
array_find c A (suc n) h = pick (cell_eq c (A n)) refl (array_find c A n)
  where
    pick : (t : Bool) → cell_eq c (A n) ≡ t → (0 < total (is_cell c) A n → (k : ℕ) × (k < n) × (A k ≡ c))
        → (k : ℕ) × (k < suc n) × (A k ≡ c)
    pick true e f = (n, omega arith, sym (cell_same c (A n) e))
    pick false e f =
        let z = is_other c (A n) e in
        let r = f (omega arith) in
        let l = r.1 in
        (r.0, omega arith, r.2)

array_has : (c : Cell) (A : ℕ → Cell) (n k : ℕ) → k < n → A k ≡ c → 0 < total (is_cell c) A n
unfolding total
array_has c A zero k l e = absurd (omega arith)
array_has c A (suc n) k l e =
    elim (same_or_not k n) [
      | inl p ↦
          let q : is_cell c (A n) ≡ 1 = ap (is_cell c) (ap A (sym p) ∙ e) ∙ is_itself c in
          omega arith
      | inr p ↦
          let q : 0 < total (is_cell c) A n = array_has c A n k (lt_of_le-ne (le_of_suc-le-suc l) p) e in
          omega arith
    ]

-- ---- in the list: the cells, each of which leaves before those after it
abbrev pub Each : (Cell → Type 0) → List Cell → Type 0
Each P [] = Unit {0}
Each P (c ∷ cs) = P c × Each P cs

list_find : (c : Cell) (P : Cell → Type 0) (q : List Cell) → Each P q → 0 < sum_over (is_cell c) q → P c
unfolding sum_over
list_find c P [] a h = absurd (omega arith)
list_find c P (e ∷ es) a h = pick (cell_eq c e) refl (list_find c P es a.1)
  where
    pick : (t : Bool) → cell_eq c e ≡ t → (0 < sum_over (is_cell c) es → P c) → P c
    pick true p f = subst P (sym (cell_same c e p)) a.0
    pick false p f =
        let z = is_other c e p in
        f (omega arith)

module _ (halves : List Float) where
  abbrev Sorted : List Cell → Type 0
  Sorted [] = Unit {0}
  Sorted (c ∷ cs) = Each (λ a. leaves halves c a ≡ true) cs × Sorted cs

  sooner_chain : (a b c : Cell) → leaves halves a b ≡ true → leaves halves b c ≡ true → leaves halves a c ≡ true
  sooner_chain a b c p q = go (leaves halves a c) refl
    where
      go : (t : Bool) → leaves halves a c ≡ t → leaves halves a c ≡ true
      go true e = e
      go false e = absurd (true≢false (sym p ∙ leaves_chain halves a c b e (leaves_asym halves b c q)))

  each_map : (P Q : Cell → Type 0) → ((c : Cell) → P c → Q c) → (q : List Cell) → Each P q → Each Q q
  each_map P Q f [] a = tt
  each_map P Q f (c ∷ cs) a = (f c a.0, each_map P Q f cs a.1)

  pub each_enter : (P : Cell → Type 0) (c : Cell) (q : List Cell) → P c → Each P q → Each P (enter halves c q)
  unfolding enter
  each_enter P c [] p a = (p, tt)
  each_enter P c (e ∷ es) p a = pick (leaves halves c e) (each_enter P c es p a.1)
    where
      pick : (t : Bool) → Each P (enter halves c es) → Each P (cond t (c ∷ e ∷ es) (e ∷ enter halves c es))
      pick true r = (p, (a.0, a.1))
      pick false r = (a.0, r)

  pub sum_enter : (f : Cell → ℕ) (c : Cell) (q : List Cell) → sum_over f (enter halves c q) ≡ f c + sum_over f q
  unfolding enter sum_over
  sum_enter f c [] = refl
  sum_enter f c (e ∷ es) = pick (leaves halves c e) (sum_enter f c es)
    where
      pick :
          (t : Bool) → sum_over f (enter halves c es) ≡ f c + sum_over f es
          → sum_over f (cond t (c ∷ e ∷ es) (e ∷ enter halves c es)) ≡ f c + (f e + sum_over f es)
      pick true r = refl
      pick false r = omega arith

  -- a cell that enters later than all
  sorted_enter : (n : ℕ) (c : Cell) (q : List Cell) → c.entry ≡ n → Each (λ a. a.entry < n) q → Sorted q → Sorted (enter halves c q)
  unfolding enter
  sorted_enter n c [] e b s = (tt, tt)
  sorted_enter n c (a ∷ rest) e b s = pick (leaves halves c a) refl (sorted_enter n c rest e b.1 s.1)
    where
      earlier : leaves halves c a ≡ false → (t : Bool) → leaves halves a c ≡ t → leaves halves a c ≡ true
      earlier f true g = g
      earlier f false g =
          let tie = leaves_tie halves c a f g in
          let low = b.0 in
          absurd (omega arith)

      pick : (t : Bool) → leaves halves c a ≡ t → Sorted (enter halves c rest) → Sorted (cond t (c ∷ a ∷ rest) (a ∷ enter halves c rest))
      pick true f r =
          let both = each_map (λ x. leaves halves a x ≡ true) (λ x. leaves halves c x ≡ true) (λ x g. sooner_chain c a x f g) rest s.0 in
          ((f, both), (s.0, s.1))
      pick false f r = (each_enter (λ x. leaves halves a x ≡ true) c rest (earlier f (leaves halves a c) refl) s.0, r)

-- ---- how many
ones_list : (q : List Cell) → sum_over (λ c. 1) q ≡ length q
unfolding sum_over
ones_list [] = refl
ones_list (c ∷ cs) = rw (ones_list cs) (omega arith)

ones_array : (A : ℕ → Cell) (n : ℕ) → total (λ c. 1) A n ≡ n
unfolding total
ones_array A zero = refl
ones_array A (suc n) = rw (ones_array A n) (omega arith)

-- ---- the slice against the list
pub record Match (halves : List Float) (l : Rows) (m : ℕ) (q : List Cell) (n : ℕ) : Type 0 where
  pub queue : Queue halves l m
  pub bag : (f : Cell → ℕ) → total f (cell_at l) m ≡ sum_over f q
  pub sorted : Sorted halves q
  pub below : Each (λ a. a.entry < n) q

module _ (halves : List Float) (l : Rows) (m : ℕ) where
  pub match_start : m ≡ 0 → Match halves l m [] 0
  unfolding total sum_over
  match_start e =
      rw e
      (record {
        queue = record { room = omega arith; sound = λ k h. absurd (omega arith); heap = record { order = λ k a b. absurd (omega arith) } };
        bag = λ f. refl;
        sorted = tt;
        below = tt;
      })

  module _ (q : List Cell) (n : ℕ) (w : Match halves l m q n) where
    pub match_push : (c : Cell) (l' : Rows) → Pushed halves l m c l' → c.entry ≡ n → Match halves l' (m + 1) (enter halves c q) (n + 1)
    match_push c l' p e =
        record {
          queue = p.queue;
          bag = λ f. omega (arith, p.bag f, w.bag f, sum_enter halves f c q);
          sorted = sorted_enter halves n c q e w.below w.sorted;
          below =
              each_enter halves (λ a. a.entry < n + 1) c q (omega arith)
              (each_map halves (λ a. a.entry < n) (λ a. a.entry < n + 1) (λ a h. omega arith) q w.below);
        }

    pub match_length : length q ≡ m
    match_length = sym (ones_list q) ∙ sym (w.bag (λ (c : Cell). 1)) ∙ ones_array (cell_at l) m

  pub match_none : (q : List Cell) (n : ℕ) → Match halves l m q n → m ≡ 0 → q ≡ []
  match_none [] n w e = refl
  match_none (c ∷ cs) n w e = absurd (omega (arith, match_length (c ∷ cs) n w))

  -- the first of the list does not leave before what the first place holds
  first_late : (h : Cell) (t : List Cell) (n : ℕ) → Match halves l m (h ∷ t) n → leaves halves h (cell_at l 0) ≡ false
  unfolding sum_over
  first_late h t n w =
      let a = is_itself h in
      let at = array_find h (cell_at l) m (omega (arith, w.bag (is_cell h))) in
      late at.0 at.1 at.2 (eq-or-lt_of_le zero-le)
    where
      late : (k : ℕ) → k < m → cell_at l k ≡ h → (0 ≡ k) ⊎ (0 < k) → leaves halves h (cell_at l 0) ≡ false
      late k b e c =
          elim c [
            | inl q ↦ rw (ap (cell_at l) q ∙ e) (itself halves h (leaves halves h h) refl)
            | inr q ↦
                subst (λ (a : Cell). leaves halves a (cell_at l 0) ≡ false) e
                (root_first halves (cell_at l) m w.queue.heap (suc k) k (omega arith) b q)
          ]

  -- so the first place holds the first of the list
  heap_first : (h : Cell) (t : List Cell) (n : ℕ) → Match halves l m (h ∷ t) n → 0 < m → cell_at l 0 ≡ h
  unfolding sum_over
  heap_first h t n w z = decide (cell_eq (cell_at l 0) h) refl
    where
      decide : (t : Bool) → cell_eq (cell_at l 0) h ≡ t → cell_at l 0 ≡ h
      decide true e = cell_same (cell_at l 0) h e
      decide false e =
          let a = is_other (cell_at l 0) h e in
          let b = array_has (cell_at l 0) (cell_at l) m 0 z refl in
          let s = list_find (cell_at l 0) (λ x. leaves halves h x ≡ true) t w.sorted.0 (omega (arith, w.bag (is_cell (cell_at l 0)))) in
          absurd (true≢false (sym s ∙ first_late h t n w))

  pub match_pop :
      (q : List Cell) (n : ℕ) → Match halves l m q n → (r : Cell) (l' : Rows) (j : ℕ) → m ≡ j + 1 → Popped halves l m r l'
      → (t : List Cell) × (q ≡ r ∷ t) × Match halves l' j t n
  unfolding sum_over
  match_pop [] n w r l' j e p = absurd (omega (arith, match_length [] n w))
  match_pop (h ∷ t) n w r l' j e p =
      let same : r ≡ h = p.first ∙ heap_first h t n w (omega arith) in (
        t,
        rw same refl,
        record {
          queue = p.queue j e;
          bag = λ f. omega (arith, p.bag f j e, w.bag f, ap f same);
          sorted = w.sorted.1;
          below = w.below.1;
        },
      )
