-- The search's state at each turn of its loop, against the definition.
-- Rests on the laws of turns and of the waiting cells.
use Rattle.std.specs.Prelude.{◌≡◌, ℕ, ◌+◌, ◌-◌, ◌*◌, ◌<◌, ◌≤◌, true, false, List, ◌∷◌, length, refl, Float}
use Rattle.std.proofs.Math.Path.{ap}
use Rattle.std.proofs.Common.{◌∙◌, le_refl, arith}
use Rattle.regions.specs.Ring.{Piece}
use Rattle.deepest.specs.Cells.{Rows, cell_at}
use Rattle.deepest.specs.Queue.{total, Queue, Popped}
use Rattle.deepest.specs.Match.{Match, match_pop, match_none, match_length}
use Rattle.deepest.specs.Deepest.{heft, sum_over, better_of, answer_of, splits_at, enter_four, turns}
use Rattle.deepest.specs.Turns.{Quartered, nodes_pos, nodes_split, weight_four, turn_done, turn_keep, turn_full, turn_split}
use Rattle.deepest.specs.declared.queue.Cell.{Cell}
use Rattle.deepest.specs.declared.search.Best.{Best}
use Rattle.deepest.specs.declared.search.Deepest.{Deepest}
use Rattle.deepest.specs.declared.search.Deepest.TheVariants.{Full}

module _ (piece : Piece) (halves : List Float) (precision : Float) (room : ℕ) where
  -- what is left of the search for d: f turns on the list q
  pub record Left (d : Deepest) (l : Rows) (m n : ℕ) (best : Best) : Type 0 where
    pub f : ℕ
    pub q : List Cell
    pub match : Match halves l m q n
    pub enough : sum_over heft q ≤ f
    pub same : d ≡ turns piece halves f precision room q best n

  pub record Searching (l₀ : Rows) (m₀ : ℕ) (best₀ : Best) (l : Rows) (m n : ℕ) (best : Best) : Type 0 where
    pub long : length l ≡ length l₀
    pub queue : Queue halves l m
    pub light : n + 4 * total heft (cell_at l) m ≤ 4611686018427387904
    pub left : (q : List Cell) → Match halves l₀ m₀ q m₀ → Left (turns piece halves (sum_over heft q) precision room q best₀ m₀) l m n best

  pub search_start :
      (l : Rows) (m : ℕ) (best : Best) → Queue halves l m → m + 4 * total heft (cell_at l) m ≤ 4611686018427387904
      → Searching l m best l m m best
  search_start l m best q w =
      record {
        long = refl;
        queue = q;
        light = w;
        left = λ q w. record { f = sum_over heft q; q = q; match = w; enough = le_refl (sum_over heft q); same = refl };
      }

  module _
      (l₀ : Rows)
      (m₀ : ℕ)
      (best₀ : Best)
      (l : Rows)
      (m n : ℕ)
      (best : Best)
      (s : Searching l₀ m₀ best₀ l m n best)
      (c : Cell)
      (l' : Rows)
      (j : ℕ)
      (some : m ≡ j + 1)
      (p : Popped halves l m c l')
    where
      -- what waits weighs more than what is left
      pub lighter : total heft (cell_at l') j + heft c ≡ total heft (cell_at l) m
      lighter = p.bag heft j some

      -- the list without its first, and its weight
      record Rest (q : List Cell) : Type 0 where
        t : List Cell
        is : q ≡ c ∷ t
        match : Match halves l' j t n
        weight : sum_over heft q ≡ heft c + sum_over heft t

      rest : (q : List Cell) → Match halves l m q n → Rest q
      unfolding sum_over
      rest q w =
          let r = match_pop halves l m q n w c l' j some p in
          record { t = r.0; is = r.1; match = r.2; weight = ap (sum_over heft) r.1 }

      one : 0 < heft c
      one = nodes_pos (21 - c.halvings)

      left_keep : {d : Deepest} → splits_at halves precision c (better_of best c) ≡ false → Left d l m n best → Left d l' j n (better_of best c)
      left_keep e u =
          let r = rest u.q u.match in
          let a = r.weight in
          let b = u.enough in
          let z = one in
          record {
            f = u.f - 1;
            q = r.t;
            match = r.match;
            enough = omega arith;
            same =
                u.same
                ∙ ap (λ (q : List Cell). turns piece halves u.f precision room q best n) r.is
                ∙ turn_keep piece halves precision room u.f c r.t best n (omega arith) e;
          }

      left_split :
          {d : Deepest} (l'' : Rows) → splits_at halves precision c (better_of best c) ≡ true → c.halvings < 21 → j + 4 ≤ room
          → Quartered piece halves l' j c n l'' → Left d l m n best → Left d l'' (j + 4) (n + 4) (better_of best c)
      left_split l'' e k g h u =
          let r = rest u.q u.match in
          let a = r.weight in
          let b = u.enough in
          let z = one in
          let w = weight_four piece halves c n r.t in
          let v = nodes_split c.halvings k in
          let size = match_length halves l' j r.t n r.match in
          record {
            f = u.f - 1;
            q = enter_four piece halves c n r.t;
            match = h.match r.t r.match;
            enough = omega arith;
            same =
                u.same
                ∙ ap (λ (q : List Cell). turns piece halves u.f precision room q best n) r.is
                ∙ turn_split piece halves precision room u.f c r.t best n (omega arith) e (omega arith);
          }

      left_full : {d : Deepest} → splits_at halves precision c (better_of best c) ≡ true → room < j + 4 → Left d l m n best → d ≡ Full
      left_full e g u =
          let r = rest u.q u.match in
          let a = r.weight in
          let b = u.enough in
          let z = one in
          let size = match_length halves l' j r.t n r.match in
          u.same
          ∙ ap (λ (q : List Cell). turns piece halves u.f precision room q best n) r.is
          ∙ turn_full piece halves precision room u.f c r.t best n (omega arith) e (omega arith)

      pub search_keep : splits_at halves precision c (better_of best c) ≡ false → Searching l₀ m₀ best₀ l' j n (better_of best c)
      search_keep e =
          let w = lighter in
          let a = s.light in
          record { long = p.long ∙ s.long; queue = p.queue j some; light = omega arith; left = λ q w. left_keep e (s.left q w) }

      pub search_split :
          (l'' : Rows) → splits_at halves precision c (better_of best c) ≡ true → c.halvings < 21 → j + 4 ≤ room
          → Quartered piece halves l' j c n l'' → Searching l₀ m₀ best₀ l'' (j + 4) (n + 4) (better_of best c)
      search_split l'' e k g h =
          let w = lighter in
          let a = s.light in
          let v = nodes_split c.halvings k in
          let x = h.weight in
          record {
            long = h.long ∙ p.long ∙ s.long;
            queue = h.queue;
            light = omega arith;
            left = λ q w. left_split l'' e k g h (s.left q w);
          }

      pub search_full :
          splits_at halves precision c (better_of best c) ≡ true → room < j + 4 → (q : List Cell) → Match halves l₀ m₀ q m₀
          → turns piece halves (sum_over heft q) precision room q best₀ m₀ ≡ Full
      search_full e g q w = left_full e g (s.left q w)

      -- four more entries have numbers
      pub search_room : n + 4 ≤ 4611686018427387904
      search_room =
          let w = lighter in
          let a = s.light in
          let z = one in
          omega arith

  pub search_done :
      (l₀ : Rows) (m₀ : ℕ) (best₀ : Best) (l : Rows) (m n : ℕ) (best : Best) → Searching l₀ m₀ best₀ l m n best → m ≡ 0
      → (q : List Cell)
      → Match halves l₀ m₀ q m₀ → turns piece halves (sum_over heft q) precision room q best₀ m₀ ≡ answer_of best
  search_done l₀ m₀ best₀ l m n best s e q w =
      let u = s.left q w in
      u.same
      ∙ ap (λ (x : List Cell). turns piece halves u.f precision room x best n) (match_none halves l m u.q n u.match e)
      ∙ turn_done piece halves precision room u.f best n
