-- A cell on its way up through the waiting cells, or down: what holds at each turn of the loops of `push` and `pop`.
-- Rests on the laws of the heap and of the bag.
use Rattle.std.specs.Prelude.{◌≡◌, ℕ, ◌+◌, ◌-◌, ◌<◌, ◌≤◌, true, false, List, length, ◌≢◌, Float}
use Rattle.std.proofs.Math.Path.{refl, ap}
use Rattle.std.proofs.Common.{sym, ◌∙◌, subst, inl, inr, le_of_suc-le-suc}
use native.Mathlib.Omega.{arith}
use Rattle.std.proofs.Math.Numerals.{add-one}
use Rattle.std.proofs.Math.Arith.{lt_of_le-ne}
use Rattle.deepest.specs.Order.{leaves, leaves_chain}
use Rattle.deepest.specs.Cells.{Rows, cell_at, put_cell, Tagged, Sound, length_put, put_sound, put_keeps}
use Rattle.deepest.specs.Heap.{parent, Heaped, Changed, Up, Down, First, same_or_not, up_start, up_step, up_done, down_start, down_step, down_done}
use Rattle.deepest.specs.Queue.{total, Queue, Pushed, Popped, changed_put, total_changed}
use Rattle.deepest.specs.declared.queue.Cell.{Cell}

below_last : (k m : ℕ) → k < m + 1 → (k ≢ m) → k < m
below_last k m h e = lt_of_le-ne (le_of_suc-le-suc (rw add-one at h)) e

-- ---- up: the place i is free for c, all others of the first m + 1 hold what waited
pub record Rising (halves : List Float) (l₀ : Rows) (m : ℕ) (c : Cell) (l : Rows) (i : ℕ) : Type 0 where
  pub place : i ≤ m
  pub long : length l ≡ length l₀
  pub room : m < length l₀
  pub sound : (k : ℕ) → k < m + 1 → (k ≢ i) → Sound l k
  pub bag : (f : Cell → ℕ) → total f (cell_at l) (m + 1) ≡ total f (cell_at l₀) m + f (cell_at l i)
  pub order : Up halves (cell_at l) i (m + 1) c

module _ (halves : List Float) (l₀ : Rows) (m : ℕ) (c : Cell) where
  pub rising_start : Queue halves l₀ m → m < length l₀ → Rising halves l₀ m c l₀ m
  unfolding total
  rising_start q r =
      record {
        place = omega arith;
        long = refl;
        room = r;
        sound = λ k h e. q.sound k (below_last k m h e);
        bag = λ f. rw add-one;
        order =
            up_start halves (cell_at l₀) (cell_at l₀) m (m + 1) c (omega arith) (omega arith)
            (subst (λ (n : ℕ). Heaped halves (cell_at l₀) n) last q.heap);
      }
    where
      last : m ≡ m + 1 - 1
      last = omega arith

  module _ (l : Rows) (i : ℕ) (u : Rising halves l₀ m c l i) where
    fits : i < length l
    fits =
        let a = u.place in
        let b = u.long in
        let d = u.room in
        omega arith

    pub rising_step : 0 < i → leaves halves c (cell_at l (parent i)) ≡ true → Rising halves l₀ m c (put_cell l i (cell_at l (parent i))) (parent i)
    rising_step z h =
        let e = cell_at l (parent i) in
        let p<i : parent i < i = omega arith in
        let i≤m = u.place in
        let t : Tagged e = (u.sound (parent i) (omega arith) (λ q. omega arith)).tagged in
        let w : Changed (cell_at l) (cell_at (put_cell l i e)) i e = changed_put l i e fits t in
        record {
          place = omega arith;
          long = length_put l i e ∙ u.long;
          room = u.room;
          sound = λ k b q. kept e t k b;
          bag = λ f. moved f e refl w;
          order = up_step halves (cell_at l) (cell_at (put_cell l i e)) i (m + 1) c u.order z (omega arith) h w;
        }
      where
        kept : (e : Cell) → Tagged e → (k : ℕ) → k < m + 1 → Sound (put_cell l i e) k
        kept e t k b = elim (same_or_not k i) [ inl q ↦ rw q (put_sound l i e fits t) | inr q ↦ put_keeps l i e k q (u.sound k b q) ]

        moved :
            (f : Cell → ℕ) (e : Cell) → e ≡ cell_at l (parent i) → Changed (cell_at l) (cell_at (put_cell l i e)) i e
            → total f (cell_at (put_cell l i e)) (m + 1) ≡ total f (cell_at l₀) m + f (cell_at (put_cell l i e) (parent i))
        moved f e q w =
            let i≤m = u.place in
            let same : f (cell_at (put_cell l i e) (parent i)) ≡ f e = ap f (w.there (parent i) (λ r. omega arith) ∙ sym q) in
            omega (arith, u.bag f, total_changed f (cell_at l) (cell_at (put_cell l i e)) i e (m + 1) w (omega arith))

    pub rising_done : Tagged c → (0 < i → leaves halves c (cell_at l (parent i)) ≡ false) → Pushed halves l₀ m c (put_cell l i c)
    rising_done t h =
        let i≤m = u.place in
        let w : Changed (cell_at l) (cell_at (put_cell l i c)) i c = changed_put l i c fits t in
        record {
          long = length_put l i c ∙ u.long;
          queue = record { room = long'; sound = kept; heap = up_done halves (cell_at l) (cell_at (put_cell l i c)) i (m + 1) c u.order h w };
          bag = λ f. summed f w;
        }
      where
        long' : m + 1 ≤ length (put_cell l i c)
        long' =
            let a = u.long in
            let b = u.room in
            let e = length_put l i c in
            omega arith

        kept : (k : ℕ) → k < m + 1 → Sound (put_cell l i c) k
        kept k b = elim (same_or_not k i) [ inl q ↦ rw q (put_sound l i c fits t) | inr q ↦ put_keeps l i c k q (u.sound k b q) ]

        summed :
            (f : Cell → ℕ) → Changed (cell_at l) (cell_at (put_cell l i c)) i c
            → total f (cell_at (put_cell l i c)) (m + 1) ≡ total f (cell_at l₀) m + f c
        summed f w =
            let i≤m = u.place in
            omega (arith, u.bag f, total_changed f (cell_at l) (cell_at (put_cell l i c)) i c (m + 1) w (omega arith))

-- ---- down: the place i is free for c, all others of the first n hold what waited but r and c
pub record Sinking (halves : List Float) (l₀ : Rows) (n : ℕ) (r c : Cell) (l : Rows) (i : ℕ) : Type 0 where
  pub place : i < n
  pub long : length l ≡ length l₀
  pub room : n + 1 ≤ length l₀
  pub sound : (k : ℕ) → k < n → (k ≢ i) → Sound l k
  pub bag : (f : Cell → ℕ) → total f (cell_at l) n + f c + f r ≡ total f (cell_at l₀) (n + 1) + f (cell_at l i)
  pub order : Down halves (cell_at l) i n c

module _ (halves : List Float) (l₀ : Rows) (n : ℕ) (r c : Cell) where
  pub sinking_start : Queue halves l₀ (n + 1) → 0 < n → r ≡ cell_at l₀ 0 → c ≡ cell_at l₀ n → Sinking halves l₀ n r c l₀ 0
  unfolding total
  sinking_start q z p e =
      record {
        place = z;
        long = refl;
        room = q.room;
        sound = λ k h d. q.sound k (omega arith);
        bag = λ f. summed f;
        order = down_start halves (cell_at l₀) (cell_at l₀) 0 n c refl q.heap;
      }
    where
      summed : (f : Cell → ℕ) → total f (cell_at l₀) n + f c + f r ≡ total f (cell_at l₀) (n + 1) + f (cell_at l₀ 0)
      summed f =
          let a : f c ≡ f (cell_at l₀ n) = ap f e in
          let b : f r ≡ f (cell_at l₀ 0) = ap f p in
          rw add-one (omega arith)

  module _ (l : Rows) (i : ℕ) (u : Sinking halves l₀ n r c l i) where
    spot : i < length l
    spot =
        let a = u.place in
        let b = u.long in
        let d = u.room in
        omega arith

    kept_at : (e : Cell) → Tagged e → (k : ℕ) → k < n → Sound (put_cell l i e) k
    kept_at e t k b = elim (same_or_not k i) [ inl q ↦ rw q (put_sound l i e spot t) | inr q ↦ put_keeps l i e k q (u.sound k b q) ]

    pub sinking_step :
        (k : ℕ) → First halves (cell_at l) n i k → leaves halves (cell_at l k) c ≡ true → Sinking halves l₀ n r c (put_cell l i (cell_at l k)) k
    sinking_step k f h =
        let e = cell_at l k in
        let t : Tagged e = (u.sound k f.within (apart f)).tagged in
        let w : Changed (cell_at l) (cell_at (put_cell l i e)) i e = changed_put l i e spot t in
        record {
          place = f.within;
          long = length_put l i e ∙ u.long;
          room = u.room;
          sound = λ j b q. kept_at e t j b;
          bag = λ g. moved g e refl w (apart f);
          order = down_step halves (cell_at l) (cell_at (put_cell l i e)) i n c k u.order f h w;
        }
      where
        apart : First halves (cell_at l) n i k → k ≢ i
        apart f q =
            let a = f.above in
            let b = f.child in
            omega arith

        moved :
            (g : Cell → ℕ) (e : Cell) → e ≡ cell_at l k → Changed (cell_at l) (cell_at (put_cell l i e)) i e → (k ≢ i)
            → total g (cell_at (put_cell l i e)) n + g c + g r ≡ total g (cell_at l₀) (n + 1) + g (cell_at (put_cell l i e) k)
        moved g e q w d =
            let same : g (cell_at (put_cell l i e) k) ≡ g e = ap g (w.there k d ∙ sym q) in
            omega (arith, u.bag g, total_changed g (cell_at l) (cell_at (put_cell l i e)) i e n w u.place)

    pub sinking_done :
        Tagged c → ((k : ℕ) → 0 < k → k < n → parent k ≡ i → leaves halves (cell_at l k) c ≡ false) → r ≡ cell_at l₀ 0
        → Popped halves l₀ (n + 1) r (put_cell l i c)
    sinking_done t h p =
        let w : Changed (cell_at l) (cell_at (put_cell l i c)) i c = changed_put l i c spot t in
        let down = down_done halves (cell_at l) (cell_at (put_cell l i c)) i n c u.order h w in
        let q : Queue halves (put_cell l i c) n = record { room = long'; sound = kept_at c t; heap = down } in
        record {
          long = length_put l i c ∙ u.long;
          first = p;
          queue = λ j e. subst (λ (k : ℕ). Queue halves (put_cell l i c) k) (same j e) q;
          bag = λ f j e. subst (λ (k : ℕ). total f (cell_at (put_cell l i c)) k + f r ≡ total f (cell_at l₀) (n + 1)) (same j e) (summed f w);
        }
      where
        same : (j : ℕ) → n + 1 ≡ j + 1 → n ≡ j
        same j e = omega arith

        long' : n ≤ length (put_cell l i c)
        long' =
            let a = u.long in
            let b = u.room in
            let e = length_put l i c in
            omega arith

        summed :
            (f : Cell → ℕ) → Changed (cell_at l) (cell_at (put_cell l i c)) i c
            → total f (cell_at (put_cell l i c)) n + f r ≡ total f (cell_at l₀) (n + 1)
        summed f w = omega (arith, u.bag f, total_changed f (cell_at l) (cell_at (put_cell l i c)) i c n w u.place)

-- the children that do not leave before c, where the first of them does not
pub no_child_first :
    (halves : List Float) (l : Rows) (n i k : ℕ) (c : Cell) → First halves (cell_at l) n i k → leaves halves (cell_at l k) c ≡ false
    → (j : ℕ) → 0 < j → j < n → parent j ≡ i → leaves halves (cell_at l j) c ≡ false
no_child_first halves l n i k c f h j a b p = leaves_chain halves (cell_at l j) (cell_at l k) c (f.least j a b p) h

-- the last of the queue is the first
pub popped_last : (halves : List Float) (l : Rows) (r : Cell) → r ≡ cell_at l 0 → Popped halves l 1 r l
unfolding total
popped_last halves l r p =
    record {
      long = refl;
      first = p;
      queue = λ n q. record { room = omega arith; sound = λ k h. absurd (omega arith); heap = record { order = λ k a b. absurd (omega arith) } };
      bag = λ f n q. none f n (omega arith);
    }
  where
    none : (f : Cell → ℕ) (n : ℕ) → n ≡ 0 → total f (cell_at l) n + f r ≡ total f (cell_at l) 1
    none f n q = rw (q, p) (omega arith)
