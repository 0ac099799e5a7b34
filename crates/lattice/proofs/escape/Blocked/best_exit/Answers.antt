-- `best_exit` meets its contract. The invariant: the answer is that of the obstacles which are left, from `best` on.
-- Rests on the laws that take a list apart.
use Rattle.std.proofs.Common.{◌≡◌, ℕ, ◌+◌, ◌<◌, ◌≤◌, List, length, get_or, drop, refl, sym, ap, ◌∙◌, add-one, drop-cons, drop_of_length-le}
use mathlib.Core.List.{foldl}
use Rattle.lattice.specs.Escape.{best_exit}
use Rattle.lattice.proofs.escape.Blocked.best_exit.Goals as goal

next_turn :
    {A B : Type 0} (f : B → A → B) (b : B) (l : List A) (k : ℕ) (d : A) (c : B) → k < length l → c ≡ f b (get_or l k d)
    → foldl f b (drop k l) ≡ foldl f c (drop (k + 1) l)
next_turn f b l k d c h e = rw (add-one, drop-cons l k d, e)

last_turn : {A B : Type 0} (f : B → A → B) (b : B) (l : List A) (k : ℕ) → length l ≤ k → foldl f b (drop k l) ≡ b
last_turn f b l k h = ap (foldl f b) (drop_of_length-le l h)

pub loop-rect-init : goal.loop-rect-init
unfolding best_exit
loop-rect-init c = refl

pub loop-rect-preserved : goal.loop-rect-preserved
loop-rect-preserved c =
    let l = c.loop-rect in
    l.invariant ∙ next_turn _ l.best c.args.self.near.now l.rect-index _ _ c.loop-rect-test.true c.consider_exits-best.ensures

pub returns : goal.returns
returns c =
    let l = c.loop-rect in
    sym (l.invariant ∙ last_turn _ l.best c.args.self.near.now l.rect-index c.loop-rect-test.false)
