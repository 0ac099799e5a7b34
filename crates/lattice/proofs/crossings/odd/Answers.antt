-- `odd` meets its contract. The invariant: the answer is that of what was found so far and the crossings which are left.
-- Rests on the law of a turn.
use Rattle.std.proofs.Common.{◌≡◌, ℕ, ◌+◌, ◌<◌, Bool, List, length, get_or, drop, sym, ap, ◌∙◌, add-one, drop-cons, drop_of_length-le}
use mathlib.Core.List.{foldl}
use lib.Ieee.{Float}
use Rattle.lattice.specs.Crossings.{odd, turn, turn_is}
use Rattle.lattice.proofs.crossings.odd.Goals as goal

next_turn :
    (x : Float) (b : Bool) (l : List Float) (k : ℕ) (d : Float) → k < length l
    → foldl (turn x) b (drop k l) ≡ foldl (turn x) (turn x b (get_or l k d)) (drop (k + 1) l)
next_turn x b l k d h = rw (add-one, drop-cons l k d)

pub loop-c-preserved : goal.loop-c-preserved
loop-c-preserved c =
    let l = c.loop-c in
    let cs = c.args.crossings.now in
    l.invariant
    ∙ next_turn c.args.x l.inside cs l.c-index _ c.loop-c-test.true
    ∙ ap (λ (b : Bool). foldl (turn c.args.x) b (drop (l.c-index + 1) cs)) (sym (turn_is c.args.x l.inside (get_or cs l.c-index _)))

pub returns : goal.returns
unfolding odd
returns c = sym (c.loop-c.invariant ∙ ap (foldl (turn c.args.x) c.loop-c.inside) (drop_of_length-le c.args.crossings.now c.loop-c-test.false))
