-- `all` and folds over a list that is taken block by block: the first elements, and the rest.
-- Rests on the kit's laws of `take` and `drop`.
use Rattle.std.specs.Prelude.{◌≡◌, Bool, ◌&&◌, ℕ, ◌+◌, ◌<◌, length, get_or, take, drop}
use Rattle.std.proofs.Math.Path.{refl}
use Rattle.std.proofs.Common.{sym, ap, ◌∙◌, add-one, take-append-drop, drop-drop}
use Rattle.std.proofs.Math.Bool.{and-true, and_assoc}
use mathlib.Core.List.{List, [], ◌∷◌, ◌++◌, foldl, foldl-append}
use Rattle.std.proofs.Math.Seq.{take-suc}
use Rattle.laws.specs.Any.{all}

module _ {A : Type 0} (p : A → Bool) where
  pub all_append : (s t : List A) → all p (s ++ t) ≡ all p s && all p t
  unfolding all
  all_append [] t = refl
  all_append (x ∷ s) t = rw (all_append s t) (sym (and_assoc (p x) (all p s) (all p t)))

  pub all_last : (s : List A) (x : A) → all p (s ++ x ∷ []) ≡ all p s && p x
  unfolding all
  all_last s x = rw (all_append s (x ∷ []), and-true)

  -- what is left from k on: the next m, and what is left after them
  pub all_block : (m k : ℕ) (l : List A) → all p (drop k l) ≡ all p (take m (drop k l)) && all p (drop (k + m) l)
  all_block m k l = ap (all p) (sym (take-append-drop m (drop k l))) ∙ all_append (take m (drop k l)) (drop m (drop k l)) ∙ rw drop-drop

  -- one more of the first
  pub all_next : (l : List A) (j : ℕ) (d : A) → j < length l → all p (take (j + 1) l) ≡ all p (take j l) && p (get_or l j d)
  unfolding all
  all_next l j d h = rw (add-one, take-suc l j d h, all_append, and-true)

module _ {A B : Type 0} (f : B → A → B) where
  pub fold_block : (b : B) (m k : ℕ) (l : List A) → foldl f b (drop k l) ≡ foldl f (foldl f b (take m (drop k l))) (drop (k + m) l)
  fold_block b m k l =
      ap (foldl f b) (sym (take-append-drop m (drop k l))) ∙ foldl-append f b (take m (drop k l)) (drop m (drop k l)) ∙ rw drop-drop

  pub fold_next : (b : B) (l : List A) (j : ℕ) (d : A) → j < length l → foldl f b (take (j + 1) l) ≡ f (foldl f b (take j l)) (get_or l j d)
  fold_next b l j d h = rw (add-one, take-suc l j d h, foldl-append)
