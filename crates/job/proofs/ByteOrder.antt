-- The order of slices of bytes is that of keys.
-- Rests on the kit's order of lists.
use Rattle.std.specs.Prelude.{ℕ, ◌≡◌, refl, Bool, true, false, cond, List, [], ◌∷◌, ltb, eqb, Some}
use Rattle.std.proofs.Common.{arith, Less, Equal, Greater}
use Rattle.std.proofs.lemmas.Bool.{ltb-true, ltb-false, eqb-true, eqb-false}
use Rattle.std.specs.Ordering.{nat_cmp, partial_ordering_then, is_some_and, is_gt, partial_gt}
use Rattle.std.specs.Cmp.Lexicographic.{slice_partial_cmp}
use Rattle.job.specs.Zones.{above}

pub gt_is : (x y : List ℕ) → partial_gt (slice_partial_cmp (λ a b. Some (nat_cmp a b))) x y ≡ above x y
unfolding above
gt_is [] [] = refl
gt_is [] (b ∷ y) = refl
gt_is (a ∷ x) [] = refl
gt_is (a ∷ x) (b ∷ y) = go (ltb a b) (ltb b a) (eqb a b) (gt_is x y) refl refl refl
  where
    go :
        (p q r : Bool) → partial_gt (slice_partial_cmp (λ a b. Some (nat_cmp a b))) x y ≡ above x y → ltb a b ≡ p → ltb b a ≡ q → eqb a b ≡ r
        → is_some_and is_gt (partial_ordering_then (Some (cond p Less (cond r Equal Greater))) (slice_partial_cmp (λ a b. Some (nat_cmp a b)) x y))
        ≡ (cond q true (cond p false (above x y)))
    go true true r i h g f = absurd (omega (arith, ltb-true a b h, ltb-true b a g))
    go true false r i h g f = refl
    go false true true i h g f = absurd (omega (arith, ltb-true b a g, eqb-true a b f))
    go false true false i h g f = refl
    go false false true i h g f = i
    go false false false i h g f = absurd (eqb-false a b f (omega (arith, ltb-false a b h, ltb-false b a g)))
