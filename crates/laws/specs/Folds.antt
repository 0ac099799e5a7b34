-- A fold over what is left of a list, for loops that count up: a turn takes the next element, and at the end nothing is left.
-- Rests on the kit's laws of `drop`.
use Rattle.std.specs.Prelude.{◌≡◌, ℕ, ◌+◌, ◌<◌, ◌≤◌, length, get_or, drop}
use mathlib.Core.List.{List, foldl}
use Rattle.std.proofs.Common.{add-one, drop_of_length-le, drop-cons}

module _ {A B : Type 0} (f : B → A → B) where
  pub fold_step :
      (b : B) (l : List A) (i : ℕ) (d : A) → i < length l
      → foldl f b (drop i l) ≡ foldl f (f b (get_or l i d)) (drop (i + 1) l)
  fold_step b l i d h = rw (add-one, drop-cons l i d)

  pub fold_end : (b : B) (l : List A) (i : ℕ) → length l ≤ i → foldl f b (drop i l) ≡ b
  fold_end b l i h = rw drop_of_length-le
