-- `any` and `all` over a list, and over what is left of it, for loops that count up.
-- Rests on the kit's laws of `drop`.
use Rattle.std.specs.Prelude.{◌≡◌, Bool, true, false, ◌&&◌, ◌||◌, List, [], ◌∷◌, ℕ, ◌+◌, ◌<◌, ◌≤◌, length, get_or, drop}
use Rattle.std.proofs.Common.{add-one}
use Rattle.std.proofs.Math.ListN.{drop_of_length-le}
use Rattle.std.proofs.Math.Seq.{drop-cons}

unfoldable pub any : {A : Type 0} → (A → Bool) → List A → Bool
any p [] = false
any p (x ∷ xs) = p x || any p xs

unfoldable pub all : {A : Type 0} → (A → Bool) → List A → Bool
all p [] = true
all p (x ∷ xs) = p x && all p xs

module _ {A : Type 0} (p : A → Bool) (l : List A) (i : ℕ) where
  pub any_step : (d : A) → i < length l → any p (drop i l) ≡ p (get_or l i d) || any p (drop (i + 1) l)
  unfolding any
  any_step d h = rw (add-one, drop-cons l i d)

  pub any_end : length l ≤ i → any p (drop i l) ≡ false
  unfolding any
  any_end h = rw drop_of_length-le

  pub all_step : (d : A) → i < length l → all p (drop i l) ≡ p (get_or l i d) && all p (drop (i + 1) l)
  unfolding all
  all_step d h = rw (add-one, drop-cons l i d)

  pub all_end : length l ≤ i → all p (drop i l) ≡ true
  unfolding all
  all_end h = rw drop_of_length-le
