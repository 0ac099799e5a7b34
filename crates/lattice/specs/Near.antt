-- The obstacles near a piece, found one after another: those found so far, and those of what is left.
-- Rests on the law of a list filtered in turn.
use Rattle.std.specs.Prelude.{◌≡◌, ℕ, ◌+◌, ◌<◌, ◌≤◌, Bool, true, false, List, [], ◌∷◌, ◌++◌, length, drop, take, get_or, set}
use Rattle.std.proofs.Common.{◌∙◌, add-one, append-nil, take-suc-set}
use Rattle.std.proofs.lemmas.List.{drop_more}
use Rattle.std.proofs.Math.ListN.{drop_of_length-le}
use Rattle.glyphs.specs.declared.rect.Rectangle.{Rectangle}
use Rattle.glyphs.specs.Rect.{filter, filter_turn}

module _ (f : Rectangle → Bool) (obstacles : List Rectangle) (i : ℕ) (xs : List Rectangle) where
  -- one more is kept, or left out
  pub filter_kept :
      (d : Rectangle) → i < length obstacles → f (get_or obstacles i d) ≡ true
      → xs ++ filter f (drop i obstacles) ≡ (xs ++ get_or obstacles i d ∷ []) ++ filter f (drop (i + 1) obstacles)
  filter_kept d h e = rw (drop_more obstacles i d h) (filter_turn f xs (get_or obstacles i d) (drop (i + 1) obstacles) ∙ rw e)

  pub filter_left :
      (d : Rectangle) → i < length obstacles → f (get_or obstacles i d) ≡ false → xs ++ filter f (drop i obstacles) ≡ xs ++ filter f (drop (i + 1) obstacles)
  filter_left d h e = rw (drop_more obstacles i d h) (filter_turn f xs (get_or obstacles i d) (drop (i + 1) obstacles) ∙ rw (e, append-nil xs))

  pub filter_none : length obstacles ≤ i → xs ++ filter f (drop i obstacles) ≡ xs
  unfolding filter
  filter_none h = rw drop_of_length-le (append-nil xs)

-- one more written behind the first m
pub one_written : (out : List Rectangle) (m : ℕ) (rect : Rectangle) → m < length out → take (m + 1) (set out m rect) ≡ take m out ++ rect ∷ []
one_written out m rect h = rw (add-one, take-suc-set out m rect h)
