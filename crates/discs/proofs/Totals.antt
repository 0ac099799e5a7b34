-- The kit's sum of a list, from the left, is the one from the right.
-- Rests on the kit's law of sums.
use Rattle.std.proofs.Common.{◌≡◌, ℕ, ◌+◌, ◌∷◌, [], List, refl, ap, ◌∙◌}
use Rattle.std.specs.List as kit
use Rattle.std.proofs.lemmas.List.Sums.{sum_by-cons}
use Rattle.regions.specs.Ring.{sum}

pub same_sum : (l : List ℕ) → kit.sum l ≡ sum l
unfolding sum
same_sum [] = refl
same_sum (n ∷ l) = sum_by-cons (λ (x : ℕ). x) n l ∙ ap (λ (m : ℕ). n + m) (same_sum l)
