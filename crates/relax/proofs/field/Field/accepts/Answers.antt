-- `accepts` meets its contract: the three tests, in another order than the source's.
-- Rests on the law that the order does not matter.
use Rattle.std.proofs.Common.{◌≡◌, true, not, ◌&&◌, ◌∙◌}
use Rattle.glyphs.specs.Rect.{clear_of_obstacles}
use Rattle.regions.specs.Unrooted.{rooted_clearance}
use Rattle.relax.specs.Others.{accepts_reordered, below_margin}
use Rattle.relax.proofs.field.Field.accepts.Goals.{else-mark-via-then-mark+else-not-clears, else-mark-via-else-mark}
use Rattle.relax.proofs.field.Field.accepts.Goals as goal

pub returns-then-not-clear_of_others : goal.returns-then-not-clear_of_others
returns-then-not-clear_of_others c = rw (accepts_reordered, ← c.clear_of_others.ensures, c.if-not-clear_of_others.true)

pub returns-then-not-clears : goal.returns-then-not-clears
returns-then-not-clears c =
    rw (
      accepts_reordered,
      ← c.clear_of_others.ensures,
      c.if-not-clear_of_others.false,
      c.if-mark.true,
      ← c.clears.ensures,
      c.if-not-clears.true,
    )

pub returns-then-rooted_below : goal.returns-then-rooted_below
returns-then-rooted_below c =
    let a = c.args in
    let said = c.rooted_below.ensures ∙ below_margin _ _ _ a.self.now.inset_margin in
    let honored : not (a.mark.honoring && not (clear_of_obstacles a.candidate.x a.candidate.y a.self.now.obstacles.now a.self.now.distances.inset)) ≡ true =
    elim c.else-mark.branch [
      | else-mark-via-then-mark+else-not-clears w ↦ rw (w.if-mark.true, ← w.clears.ensures, w.if-not-clears.false)
      | else-mark-via-else-mark w ↦ rw w.if-mark.false
    ] in
    rw (
      accepts_reordered,
      ← c.clear_of_others.ensures,
      c.if-not-clear_of_others.false,
      honored,
      ← rooted_clearance,
      ← c.unrooted_clearance-unrooted.ensures,
      ← said,
      c.if-rooted_below.true,
    )

pub returns : goal.returns
returns c =
    let a = c.args in
    let said = c.rooted_below.ensures ∙ below_margin _ _ _ a.self.now.inset_margin in
    let honored : not (a.mark.honoring && not (clear_of_obstacles a.candidate.x a.candidate.y a.self.now.obstacles.now a.self.now.distances.inset)) ≡ true =
    elim c.else-mark.branch [
      | else-mark-via-then-mark+else-not-clears w ↦ rw (w.if-mark.true, ← w.clears.ensures, w.if-not-clears.false)
      | else-mark-via-else-mark w ↦ rw w.if-mark.false
    ] in
    rw (
      accepts_reordered,
      ← c.clear_of_others.ensures,
      c.if-not-clear_of_others.false,
      honored,
      ← rooted_clearance,
      ← c.unrooted_clearance-unrooted.ensures,
      ← said,
      c.if-rooted_below.false,
    )
