-- `left_over` takes each floor off the count: the library's fold over the weights is the definition's.
-- Rests on the library's law of a fold over what an iterator yields, and on the law of what is left over.
use Rattle.std.specs.Prelude.{◌≡◌, refl, List, [], ◌∷◌, ◌++◌}
use Rattle.std.proofs.Common.{◌∙◌, ap, sym, rules}
use Rattle.std.proofs.lemmas.Iterator.{YieldsList-from_slice}
use Rattle.std.proofs.lemmas.Fn.{fronts, fold_over}
use mathlib.Core.List.{foldl}
use Rattle.glyphs.specs.Quotas.{spend, spent}
use Rattle.glyphs.proofs.quotas.Shares.left_over.Goals as goal

last : {A B : Type 0} (f : B → A → B) (b : B) (xs : List A) (x : A) → foldl f b (xs ++ x ∷ []) ≡ f (foldl f b xs) x
last f b [] x = refl
last f b (y ∷ ys) x = last f (f b y) ys x

pub returns : goal.returns
returns c =
    let s = c.args.self.now in
    let step = spend s.n s.total in
    fold_over fronts (λ y. y.now) _ (λ ws left. left ≡ foldl step s.n ws) _ (λ ws a x b q e k.
    let taken : b ≡ step a x.now = search rules in
    (taken ∙ ap (λ m. step m x.now) e ∙ sym (last step s.n ws x.now), search rules)) c.iter.result s.weights.now s.n c.fold.result
    (YieldsList-from_slice s.weights.now c.iter.ensures.rest).runs refl c.fold.ensures.ran
    ∙ spent s.n s.total s.weights.now
