-- `force_on` meets its contract: the others' push, and the boundary's where it is near.
-- Rests on the contracts of what it calls, and the law of a mark read from a list.
use mathlib.Core.Path.{◌∙◌}
use native.Mathlib.Omega.{arith}
use Rattle.glyphs.specs.Spots.{spots_at_lem}
use Rattle.relax.specs.Field.{force_on}
use Rattle.relax.specs.Others.{below_margin}
use Rattle.relax.proofs.field.Field.force_on.Goals as goal

pub returns-then-rooted_below-self : goal.returns-then-rooted_below-self
unfolding force_on
returns-then-rooted_below-self c =
    let said = c.rooted_below.ensures ∙ below_margin _ _ _ c.args.self.now.reach_margin in
    let a = c.args in
    rw (
      ← c.push_others-f.ensures,
      ← said,
      c.if-rooted_below-self.true,
      spots_at_lem a.mark.spots.now a.mark.i _ (omega arith),
      ← c.place.ensures,
      ← c.clearance_gradient-gradient.ensures,
      ← c.rooted.ensures,
    ) c.push_inward.ensures

pub returns : goal.returns
unfolding force_on
returns c =
    let said = c.rooted_below.ensures ∙ below_margin _ _ _ c.args.self.now.reach_margin in
    rw (← c.push_others.ensures, ← said, c.if-rooted_below-self.false)
