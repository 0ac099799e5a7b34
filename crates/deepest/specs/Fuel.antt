-- The definition's turns are enough: with more of them the search answers the same.
-- Rests on what cells weigh.
use Rattle.std.specs.Prelude.{◌≡◌, ℕ, zero, suc, ◌+◌, ◌-◌, ◌<◌, ◌≤◌, Bool}
use Rattle.std.specs.Prelude.{true, false, cond, List, [], ◌∷◌, length, nat_lt, Float}
use Rattle.std.proofs.Math.Path.{refl}
use Rattle.std.proofs.Common.{sym, true≢false, le_refl, arith, ltb-true}
use Rattle.regions.specs.Ring.{Piece}
use Rattle.deepest.specs.Deepest.{heft, sum_over, better_of, splits_at, enter_four, turns}
use Rattle.deepest.specs.Turns.{nodes_pos, nodes_split, weight_four, turn_done}
use Rattle.deepest.specs.declared.queue.Cell.{Cell}
use Rattle.deepest.specs.declared.search.Best.{Best}
use Rattle.deepest.specs.declared.search.Deepest.TheVariants.{Full}

-- a cell that is split has been halved fewer than 21 times
pub split_few : (halves : List Float) (precision : Float) (c : Cell) (best : Best) → splits_at halves precision c best ≡ true → c.halvings < 21
unfolding splits_at
split_few halves precision c best h = go (nat_lt c.halvings 21) refl _ h
  where
    go : (t : Bool) → nat_lt c.halvings 21 ≡ t → (b : Bool) → cond t b false ≡ true → c.halvings < 21
    go true e b k = ltb-true c.halvings 21 e
    go false e b k = absurd (true≢false (sym k))

module _ (piece : Piece) (halves : List Float) (precision : Float) (room : ℕ) where
  -- f turns answer as g do, where both are enough
  abbrev Same : ℕ → ℕ → List Cell → Best → ℕ → Type 0
  Same f g q best n = turns piece halves f precision room q best n ≡ turns piece halves g precision room q best n

  step :
      (f : ℕ) → ((g : ℕ) (q : List Cell) (best : Best) (n : ℕ) → sum_over heft q ≤ f → sum_over heft q ≤ g → Same f g q best n)
      → (g : ℕ) (q : List Cell) (best : Best) (n : ℕ) → sum_over heft q ≤ suc f → sum_over heft q ≤ g → Same (suc f) g q best n
  unfolding turns sum_over
  step f again g [] best n a b = rw (turn_done piece halves precision room g best n)
  step f again zero (c ∷ t) best n a b = absurd (omega (arith, nodes_pos (21 - c.halvings)))
  step f again (suc g) (c ∷ t) best n a b =
      let z = nodes_pos (21 - c.halvings) in
      let four : c.halvings < 21 → Same f g (enter_four piece halves c n t) (better_of best c) (n + 4) =
      λ k.
      let w = weight_four piece halves c n t in
      let v = nodes_split c.halvings k in
      again g (enter_four piece halves c n t) (better_of best c) (n + 4) (omega arith) (omega arith) in
      pick (splits_at halves precision c (better_of best c)) refl (nat_lt room (length t + 4)) four (again g t (better_of best c) n (omega arith) (omega arith))
    where
      pick :
          (s : Bool) → splits_at halves precision c (better_of best c) ≡ s → (r : Bool)
          → (c.halvings < 21 → Same f g (enter_four piece halves c n t) (better_of best c) (n + 4)) → Same f g t (better_of best c) n
          → cond s
          (cond r Full (turns piece halves f precision room (enter_four piece halves c n t) (better_of best c) (n + 4)))
          (turns piece halves f precision room t (better_of best c) n)
          ≡ cond s
          (cond r Full (turns piece halves g precision room (enter_four piece halves c n t) (better_of best c) (n + 4)))
          (turns piece halves g precision room t (better_of best c) n)
      pick true e true x y = refl
      pick true e false x y = x (split_few halves precision c (better_of best c) e)
      pick false e r x y = y

  weightless : (q : List Cell) → sum_over heft q ≤ 0 → q ≡ []
  unfolding sum_over
  weightless [] h = refl
  weightless (c ∷ t) h = absurd (omega (arith, nodes_pos (21 - c.halvings)))

  same : (f g : ℕ) (q : List Cell) (best : Best) (n : ℕ) → sum_over heft q ≤ f → sum_over heft q ≤ g → Same f g q best n
  same zero g q best n a b = rw (weightless q a, turn_done piece halves precision room g best n, turn_done piece halves precision room 0 best n)
  same (suc f) g q best n a b = step f (same f) g q best n a b

  -- more turns than the cells weigh change nothing
  pub fuel_enough : (f : ℕ) (q : List Cell) (best : Best) (n : ℕ) → sum_over heft q ≤ f → Same f (sum_over heft q) q best n
  fuel_enough f q best n h = same f (sum_over heft q) q best n h (le_refl (sum_over heft q))
