-- `in_piece` meets its contract. The invariant: a flag is the answer, unless a hole that is left has the place.
-- Rests on what the iterator yields.
use Rattle.std.proofs.Common.{◌≡◌, refl, sym, Bool, true, false, not, cond, ◌&&◌}
use mathlib.Core.Bool.{and-true}
use Rattle.regions.specs.Clearance.{in_any, within}
use Rattle.regions.proofs.four.in_piece.Goals as goal

-- one hole more
passed : (inside hole others : Bool) → inside && not (cond hole true others) ≡ (inside && not hole) && not others
passed true true others = refl
passed true false others = refl
passed false hole others = refl

pub loop-hole-init : goal.loop-hole-init
unfolding within
loop-hole-init c = (
  tt,
  tt,
  λ k. rw (
    ← c.outer.ensures.ring,
    ← c.in_polygon-inside.ensures k,
    c.into_iter-hole-iterator.ensures.into_iter_gives,
    c.holes-hole-items.ensures,
  ),
)

pub loop-hole-preserved : goal.loop-hole-preserved
unfolding in_any
loop-hole-preserved c = (
  tt,
  tt,
  λ k. rw (
    c.loop-hole.invariant.2 k,
    c.in-Some.ensures.steps,
    passed,
    ← c.in_polygon.ensures k,
    ← c.kept-inside.ensures k,
  ),
)

pub returns : goal.returns
unfolding in_any
returns c k = rw (c.loop-hole.invariant.2 k, c.in-None.ensures.steps.0) (sym (and-true _))
