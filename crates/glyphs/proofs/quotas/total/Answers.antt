-- `total` meets its contract: the library's sum of floats is the definition's fold.
-- Rests on the library's laws of what a slice's iterator yields.
use Rattle.std.specs.Prelude.{◌≡◌, refl, List, [], ◌∷◌, Float, map}
use Rattle.std.specs.List.{fold}
use Rattle.std.proofs.Common.{Bor, ◌∙◌, ap}
use Rattle.std.proofs.lemmas.Iterator.{YieldsList-from_slice, items_from_drains}
use mathlib.Core.List.{foldl}
use Rattle.float.specs.Ops.{◌+ᶠ◌, -0ᶠ}
use Rattle.glyphs.specs.Apportion.{total}
use Rattle.glyphs.proofs.quotas.total.Goals as goal

folded : (a : Float) (xs : List (Bor Float)) → fold (λ b x. b +ᶠ x.now) a xs ≡ foldl ◌+ᶠ◌ a (map (λ x. x.now) xs)
folded a [] = refl
folded a (x ∷ xs) = folded (a +ᶠ x.now) xs

pub returns : goal.returns
unfolding total
returns c =
    let ran = c.sum.ensures.ran in
    let d = ran.1 tt in
    let weights = YieldsList-from_slice c.args.weights.now c.iter.ensures.rest in
    ran.2 ∙ folded _ ran.0 ∙ ap (foldl ◌+ᶠ◌ -0ᶠ) (items_from_drains ran.0 (d.1.0, d.1.1, λ _. (d.0, d.1.2)) weights)
