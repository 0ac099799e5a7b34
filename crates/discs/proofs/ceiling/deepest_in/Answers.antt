-- `deepest_in` meets its contract. The invariant: the answer is that of the points left, from `best` on.
-- Rests on the kit's laws of lists.
use Rattle.std.proofs.Common.{◌≡◌, ℕ, ◌+◌, ◌<◌, List, length, get_or, drop, sym, refl, ap, ◌∙◌, add-one, drop-cons, drop_of_length-le}
use mathlib.Core.List.{foldl}
use Rattle.deepest.specs.Deepest.{deeper_of}
use Rattle.deepest.specs.declared.search.Deepest.{Deepest}
use Rattle.discs.specs.Pieces.{deepest_from, deepests_of}
use Rattle.discs.specs.Floor.{deepest_in}
use Rattle.discs.proofs.ceiling.deepest_in.Goals as goal

next_point :
    (best next d : Deepest) (l : List Deepest) (k : ℕ) → k < length l → next ≡ deeper_of best (deepest_from (get_or l k d))
    → foldl deeper_of best (deepests_of (drop k l)) ≡ foldl deeper_of next (deepests_of (drop (k + 1) l))
next_point best next d l k h e = rw (e, add-one k, drop-cons l k d h)

pub loop-found-init : goal.loop-found-init
unfolding deepest_in
loop-found-init c = refl

pub loop-found-preserved : goal.loop-found-preserved
loop-found-preserved c =
    c.loop-found.invariant
    ∙ next_point _ _ _ _ _ c.loop-found-test.true (c.deeper-best.ensures ∙ ap (deeper_of c.loop-found.best) c.deepest_from.ensures)

pub returns : goal.returns
returns c = sym (c.loop-found.invariant ∙ rw (drop_of_length-le c.args.deepest.now c.loop-found-test.false))
