-- The turns of the search: one at a time, and why there are enough. A cell weighs as much as all cells that can come of it.
-- Rests on the definition of the search.
use Rattle.std.specs.Prelude.{◌≡◌, ℕ, zero, suc, ◌+◌, ◌-◌, ◌*◌, ◌<◌, ◌≤◌, true, false, List, [], ◌∷◌, length, Float}
use Rattle.std.proofs.Math.Path.{refl}
use Rattle.std.proofs.Common.{ap, ◌∙◌, subst}
use native.Mathlib.Omega.{arith}
use borrow.Author.Tests.{lt-ltb, le-ltb}
use Rattle.float.specs.Ops.{◌+ᶠ◌, ◌-ᶠ◌}
use Rattle.regions.specs.Ring.{Piece}
use Rattle.regions.specs.Clearance.{signed_clearance}
use Rattle.deepest.specs.Order.{half_at}
use Rattle.deepest.specs.Cells.{Rows, cell_at}
use Rattle.deepest.specs.Queue.{total, Queue, Pushed}
use Rattle.deepest.specs.Match.{Match, sum_enter, match_push}
use Rattle.deepest.specs.Deepest.{enter, nodes, heft, sum_over, better_of, answer_of, splits_at, cell_of, make_cell, enter_four, turns}
use Rattle.deepest.specs.declared.queue.Cell.{Cell}
use Rattle.deepest.specs.declared.search.Best.{Best}
use Rattle.deepest.specs.declared.search.Deepest.{Deepest}
use Rattle.deepest.specs.declared.search.Deepest.TheVariants.{Full}

-- what `enter_cell` does
pub record Entered (piece : Piece) (halves : List Float) (l : Rows) (m : ℕ) (x y : Float) (k n : ℕ) (l' : Rows) : Type 0 where
  pub long : length l' ≡ length l
  pub queue : Queue halves l' (m + 1)
  pub weight : total heft (cell_at l') (m + 1) ≡ total heft (cell_at l) m + nodes (21 - k)
  pub match : (q : List Cell) → Match halves l m q n → Match halves l' (m + 1) (enter halves (make_cell piece x y k n) q) (n + 1)

pub entered :
    (piece : Piece) (halves : List Float) (l : Rows) (m : ℕ) (x y d : Float) (k n : ℕ) (l' : Rows)
    → d ≡ signed_clearance x y piece → Pushed halves l m (cell_of x y d k n) l' → Entered piece halves l m x y k n l'
unfolding make_cell
entered piece halves l m x y d k n l' e p =
    let f : cell_of x y d k n ≡ make_cell piece x y k n = ap (λ (z : Float). cell_of x y z k n) e in
    record {
      long = p.long;
      queue = p.queue;
      weight = p.bag heft;
      match = λ q w. subst (λ (a : Cell). Match halves l' (m + 1) (enter halves a q) (n + 1)) f (match_push halves l m q n w (cell_of x y d k n) l' p refl);
    }

-- what `push_four` does
pub record Quartered (piece : Piece) (halves : List Float) (l : Rows) (m : ℕ) (c : Cell) (n : ℕ) (l' : Rows) : Type 0 where
  pub long : length l' ≡ length l
  pub queue : Queue halves l' (m + 4)
  pub weight : total heft (cell_at l') (m + 4) ≡ total heft (cell_at l) m + 4 * nodes (21 - (c.halvings + 1))
  pub match : (q : List Cell) → Match halves l m q n → Match halves l' (m + 4) (enter_four piece halves c n q) (n + 4)

-- what `explore` answers: the definition's search on every list that the slice matches
pub record Explored (piece : Piece) (halves : List Float) (precision : Float) (l : Rows) (m : ℕ) (best : Best) (r : Deepest) : Type 0 where
  pub answer : (q : List Cell) → Match halves l m q m → r ≡ turns piece halves (sum_over heft q) precision (length l) q best m

pub nodes_pos : (k : ℕ) → 0 < nodes k
unfolding nodes
nodes_pos zero = omega arith
nodes_pos (suc k) = omega arith

-- a cell weighs one more than its quarters
pub nodes_split : (k : ℕ) → k < 21 → nodes (21 - k) ≡ 1 + 4 * nodes (21 - (k + 1))
unfolding nodes
nodes_split k h =
    let e : 21 - k ≡ suc (21 - (k + 1)) = omega arith in
    rw e

pub weight_four :
    (piece : Piece) (halves : List Float) (c : Cell) (n : ℕ) (q : List Cell)
    → sum_over heft (enter_four piece halves c n q) ≡ sum_over heft q + 4 * nodes (21 - (c.halvings + 1))
unfolding enter_four make_cell
weight_four piece halves c n q = rw (sum_enter halves heft, sum_enter halves heft, sum_enter halves heft, sum_enter halves heft) (omega arith)

module _ (piece : Piece) (halves : List Float) (precision : Float) (room : ℕ) where
  pub turn_done : (f : ℕ) (best : Best) (n : ℕ) → turns piece halves f precision room [] best n ≡ answer_of best
  unfolding turns
  turn_done zero best n = refl
  turn_done (suc f) best n = refl

  module _ (f : ℕ) (c : Cell) (rest : List Cell) (best : Best) (n : ℕ) (some : 0 < f) where
    pub turn_keep :
        splits_at halves precision c (better_of best c) ≡ false
        → turns piece halves f precision room (c ∷ rest) best n ≡ turns piece halves (f - 1) precision room rest (better_of best c) n
    unfolding turns
    turn_keep e = at f some
      where
        at :
            (f : ℕ) → 0 < f
            → turns piece halves f precision room (c ∷ rest) best n ≡ turns piece halves (f - 1) precision room rest (better_of best c) n
        at zero h = absurd (omega arith)
        at (suc f) h =
            let g : suc f - 1 ≡ f = omega arith in
            rw (g, e)

    pub turn_full :
        splits_at halves precision c (better_of best c) ≡ true → room < length rest + 4 → turns piece halves f precision room (c ∷ rest) best n ≡ Full
    unfolding turns
    turn_full e r = at f some
      where
        at : (f : ℕ) → 0 < f → turns piece halves f precision room (c ∷ rest) best n ≡ Full
        at zero h = absurd (omega arith)
        at (suc f) h = rw (e, lt-ltb room (length rest + 4) r)

    pub turn_split :
        splits_at halves precision c (better_of best c) ≡ true → length rest + 4 ≤ room
        → turns piece halves f precision room (c ∷ rest) best n
        ≡ turns piece halves (f - 1) precision room (enter_four piece halves c n rest) (better_of best c) (n + 4)
    unfolding turns
    turn_split e r = at f some
      where
        at :
            (f : ℕ) → 0 < f
            → turns piece halves f precision room (c ∷ rest) best n
            ≡ turns piece halves (f - 1) precision room (enter_four piece halves c n rest) (better_of best c) (n + 4)
        at zero h = absurd (omega arith)
        at (suc f) h =
            let g : suc f - 1 ≡ f = omega arith in
            rw (g, e, le-ltb room (length rest + 4) r)

-- four cells that enter one after another are the quarters of a cell
pub quartered :
    (piece : Piece) (halves : List Float) (l : Rows) (m : ℕ) (c : Cell) (n : ℕ) (nh : Float) (l₁ l₂ l₃ l₄ : Rows)
    → nh ≡ half_at halves (c.halvings + 1)
    → Entered piece halves l m (c.x -ᶠ nh) (c.y -ᶠ nh) (c.halvings + 1) n l₁
    → Entered piece halves l₁ (m + 1) (c.x +ᶠ nh) (c.y -ᶠ nh) (c.halvings + 1) (n + 1) l₂
    → Entered piece halves l₂ (m + 1 + 1) (c.x -ᶠ nh) (c.y +ᶠ nh) (c.halvings + 1) (n + 2) l₃
    → Entered piece halves l₃ (m + 1 + 1 + 1) (c.x +ᶠ nh) (c.y +ᶠ nh) (c.halvings + 1) (n + 3) l₄
    → Quartered piece halves l m c n l₄
unfolding enter_four
quartered piece halves l m c n nh l₁ l₂ l₃ l₄ h a b d e =
    record {
      long = e.long ∙ d.long ∙ b.long ∙ a.long;
      queue = subst (λ (k : ℕ). Queue halves l₄ k) places e.queue;
      weight =
          subst (λ (k : ℕ). total heft (cell_at l₄) k ≡ total heft (cell_at l) m + 4 * nodes (21 - (c.halvings + 1))) places
          (omega (arith, a.weight, b.weight, d.weight, e.weight));
      match =
          λ q w. rw (← h)
          (subst (λ (k : ℕ). Match halves l₄ k (quarters q) (n + 4)) places (up_to q (n + 3 + 1) (n + 4) (omega arith) (fourth q w)));
    }
  where
    places : m + 1 + 1 + 1 + 1 ≡ m + 4
    places = omega arith

    one : List Cell → List Cell
    one q = enter halves (make_cell piece (c.x -ᶠ nh) (c.y -ᶠ nh) (c.halvings + 1) n) q

    two : List Cell → List Cell
    two q = enter halves (make_cell piece (c.x +ᶠ nh) (c.y -ᶠ nh) (c.halvings + 1) (n + 1)) (one q)

    three : List Cell → List Cell
    three q = enter halves (make_cell piece (c.x -ᶠ nh) (c.y +ᶠ nh) (c.halvings + 1) (n + 2)) (two q)

    quarters : List Cell → List Cell
    quarters q = enter halves (make_cell piece (c.x +ᶠ nh) (c.y +ᶠ nh) (c.halvings + 1) (n + 3)) (three q)

    second : (q : List Cell) → Match halves l m q n → Match halves l₂ (m + 1 + 1) (two q) (n + 1 + 1)
    second q w = b.match (one q) (a.match q w)

    third : (q : List Cell) → Match halves l m q n → Match halves l₃ (m + 1 + 1 + 1) (three q) (n + 2 + 1)
    third q w = d.match (two q) (subst (λ (k : ℕ). Match halves l₂ (m + 1 + 1) (two q) k) next (second q w))
      where
        next : n + 1 + 1 ≡ n + 2
        next = omega arith

    fourth : (q : List Cell) → Match halves l m q n → Match halves l₄ (m + 1 + 1 + 1 + 1) (quarters q) (n + 3 + 1)
    fourth q w = e.match (three q) (subst (λ (k : ℕ). Match halves l₃ (m + 1 + 1 + 1) (three q) k) next (third q w))
      where
        next : n + 2 + 1 ≡ n + 3
        next = omega arith

    up_to :
        (q : List Cell) (i j : ℕ) → i ≡ j → Match halves l₄ (m + 1 + 1 + 1 + 1) (quarters q) i
        → Match halves l₄ (m + 1 + 1 + 1 + 1) (quarters q) j
    up_to q i j p w = subst (λ (k : ℕ). Match halves l₄ (m + 1 + 1 + 1 + 1) (quarters q) k) p w
