-- `dist_at_least` meets its contract. The invariant: the least is that of the rings so far, and no root below the clearance is known.
-- Rests on the laws of a margin's squares, and that more rings never make the least greater.
use mathlib.Core.Path.{◌≡◌, sym, ap, ◌∙◌, subst}
use mathlib.Core.List.{foldl}
use lib.Dec.{T}
use lib.Ieee.{Float, lt, le}
use Rattle.laws.specs.Truth.{yes}
use Rattle.float.specs.Ops.{◌≤ᶠ◌}
use Rattle.float.specs.Order.{sqrt}
use Rattle.float.specs.Laws.Compare.{le_lt_trans}
use Rattle.regions.specs.Pieces.{rings_left}
use Rattle.regions.specs.Squares.{least_of_ring, least_of_rings, infinite}
use Rattle.regions.specs.Least.{Good, ∞-good, ring_good, rings_fall, least_root}
use Rattle.regions.specs.Margin.{low_square_below}
use Rattle.regions.proofs.keeps.dist_at_least.Goals as goal

pub loop-ring-init : goal.loop-ring-init
unfolding least_of_rings
loop-ring-init c = (tt, tt, rw infinite ∞-good, rw (infinite, c.into_iter-ring-iterator.ensures.into_iter_gives))

pub returns-then-best-low : goal.returns-then-best-low
returns-then-best-low c =
    let a = c.args in
    let rings = rings_left a.rings in
    let b = c.ring_square-best.result in
    let good : Good b = subst Good (sym c.ring_square-best.ensures) (ring_good _ _ _ _ c.loop-ring.invariant.2) in
    let others = rings_left c.next.new.self in
    let left : least_of_rings a.px a.py rings ≡ foldl (least_of_ring a.px a.py) b others =
    rw (c.loop-ring.invariant.3, c.in-Some.ensures.steps, c.ring_square-best.ensures) in
    let falls : T (le (least_of_rings a.px a.py rings) b) = subst (λ (x : Float). T (le x b)) (sym left) (rings_fall a.px a.py b others good) in
    sym
    (ap (λ (x : Float). a.margin.least ≤ᶠ x) (least_root a.px a.py rings)
    ∙ low_square_below a.margin.least _
    (subst (λ (x : Float). T (lt (least_of_rings a.px a.py rings) x)) a.margin.low_is (le_lt_trans _ b a.margin.low falls (yes c.if-best-low.true))))

pub loop-ring-preserved : goal.loop-ring-preserved
loop-ring-preserved c = (
  tt,
  tt,
  subst Good (sym c.ring_square-best.ensures) (ring_good _ _ _ _ c.loop-ring.invariant.2),
  rw (c.loop-ring.invariant.3, c.in-Some.ensures.steps, c.ring_square-best.ensures),
)

pub returns : goal.returns
returns c =
    let a = c.args in
    let l = c.loop-ring in
    let rings = rings_left a.rings in
    let e : least_of_rings a.px a.py rings ≡ l.best = l.invariant.3 ∙ rw c.in-None.ensures.steps.0 in
    c.root_at_least.ensures ∙ ap (λ (x : Float). a.margin.least ≤ᶠ sqrt x) (sym e) ∙ ap (λ (x : Float). a.margin.least ≤ᶠ x) (sym (least_root a.px a.py rings))
