-- The cells that wait, in a lent list: a heap in its first m places, and as a bag: what any function sums to over them.
-- Rests on the laws of cells and of the heap.
use Rattle.std.specs.Prelude.{◌≡◌, ℕ, zero, suc, ◌+◌, ◌<◌, ◌≤◌, List, length, Float}
use Rattle.std.proofs.Math.Path.{refl, ap}
use Rattle.std.proofs.Common.{sym, ◌∙◌, le_of_suc-le-suc}
use Rattle.std.proofs.Math.Logic.{inl, inr}
use native.Mathlib.Omega.{arith}
use Rattle.std.proofs.Math.Arith.{lt_of_le-ne}
use Rattle.deepest.specs.Cells.{Rows, cell_at, put_cell, Tagged, Sound, put_same, put_other}
use Rattle.deepest.specs.Heap.{Heaped, Changed, same_or_not}
use Rattle.deepest.specs.declared.queue.Cell.{Cell}

-- the sum of f over the places below n
unfoldable pub total : (Cell → ℕ) → (ℕ → Cell) → ℕ → ℕ
total f A zero = 0
total f A (suc n) = total f A n + f (A n)

pub record Queue (halves : List Float) (l : Rows) (m : ℕ) : Type 0 where
  pub room : m ≤ length l
  pub sound : (k : ℕ) → k < m → Sound l k
  pub heap : Heaped halves (cell_at l) m

-- what `push` does
pub record Pushed (halves : List Float) (l : Rows) (m : ℕ) (c : Cell) (l' : Rows) : Type 0 where
  pub long : length l' ≡ length l
  pub queue : Queue halves l' (m + 1)
  pub bag : (f : Cell → ℕ) → total f (cell_at l') (m + 1) ≡ total f (cell_at l) m + f c

-- what `pop` does
pub record Popped (halves : List Float) (l : Rows) (m : ℕ) (r : Cell) (l' : Rows) : Type 0 where
  pub long : length l' ≡ length l
  pub first : r ≡ cell_at l 0
  pub queue : (n : ℕ) → m ≡ n + 1 → Queue halves l' n
  pub bag : (f : Cell → ℕ) (n : ℕ) → m ≡ n + 1 → total f (cell_at l') n + f r ≡ total f (cell_at l) m

-- ---- laws

pub changed_put : (l : Rows) (i : ℕ) (c : Cell) → i < length l → Tagged c → Changed (cell_at l) (cell_at (put_cell l i c)) i c
changed_put l i c r t = record { here = put_same l i c r t; there = λ k h. put_other l i c k h }

module _ (f : Cell → ℕ) (A B : ℕ → Cell) where
  pub total_same : (n : ℕ) → ((k : ℕ) → k < n → B k ≡ A k) → total f B n ≡ total f A n
  unfolding total
  total_same zero h = refl
  total_same (suc n) h = rw (h n (omega arith), total_same n (λ k l. h k (omega arith)))

  pub total_changed : (i : ℕ) (c : Cell) (n : ℕ) → Changed A B i c → i < n → total f B n + f (A i) ≡ total f A n + f c
  unfolding total
  total_changed i c zero w h = absurd (omega arith)
  total_changed i c (suc n) w h =
      elim (same_or_not n i) [
        | inl e ↦
            let p : total f B n ≡ total f A n = total_same n (λ k l. w.there k (λ q. omega arith)) in
            let q : f (B n) ≡ f c = ap f (ap B e ∙ w.here) in
            let r : f (A n) ≡ f (A i) = ap (λ (j : ℕ). f (A j)) e in
            omega arith
        | inr e ↦
            let l : i < n = lt_of_le-ne (le_of_suc-le-suc h) (λ (q : i ≡ n). e (sym q)) in
            let p : total f B n + f (A i) ≡ total f A n + f c = total_changed i c n w l in
            let q : f (B n) ≡ f (A n) = ap f (w.there n e) in
            omega arith
      ]
