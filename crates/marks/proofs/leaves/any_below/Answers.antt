-- `any_below` looks for a weight below 0.
-- Rests on what `any` ensures of a list's items.
use Rattle.std.proofs.Common.{◌≡◌, refl, ap, ◌∙◌, Bool, List, [], ◌∷◌, ◌||◌, rules, tests, Float}
use Rattle.std.specs.List.{list_any}
use Rattle.std.proofs.lemmas.Iterator.{YieldsList-from_slice}
use Rattle.std.proofs.lemmas.Iterator.Search.{any_from_yields_List}
use Rattle.laws.specs.Any.{any}
use Rattle.float.specs.Ops.{◌<ᶠ◌, 0ᶠ}
use Rattle.marks.proofs.leaves.any_below.Goals as goal

same : (test : Float → Bool) (xs : List Float) → list_any test xs ≡ any test xs
unfolding any
same test [] = refl
same test (x ∷ xs) = ap (λ (b : Bool). test x || b) (same test xs)

pub returns : goal.returns
returns c =
    let xs = c.args.weights.now in
    any_from_yields_List (λ (w : Float). w <ᶠ 0ᶠ) _ _ _ c.any.ensures.ran (YieldsList-from_slice xs cc) (λ x b q k. search (rules, tests))
    ∙ same (λ (w : Float). w <ᶠ 0ᶠ) xs
