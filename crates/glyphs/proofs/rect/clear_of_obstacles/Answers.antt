-- `clear_of_obstacles` meets its contract. The invariant: the answer is that of the obstacles which are left.
-- Rests on the laws of what is left of some obstacles.
use Rattle.std.proofs.Common.{sym, ◌∙◌}
use Rattle.glyphs.specs.Rect.{clear_stops, clear_goes_on, clear_ends}
use Rattle.glyphs.proofs.rect.clear_of_obstacles.Goals as goal

pub returns-then-not-dist_to_rect-clearance : goal.returns-then-not-dist_to_rect-clearance
returns-then-not-dist_to_rect-clearance c =
    let a = c.args in
    let l = c.loop-rect in
    sym
    (l.invariant
    ∙ clear_stops a.px a.py a.clearance a.obstacles.now l.rect-index _ c.loop-rect-test.true
    (rw c.dist_to_rect.ensures at c.if-not-dist_to_rect-clearance.true))

pub loop-rect-preserved : goal.loop-rect-preserved
loop-rect-preserved c =
    let a = c.args in
    let l = c.loop-rect in
    l.invariant
    ∙ clear_goes_on a.px a.py a.clearance a.obstacles.now l.rect-index _ c.loop-rect-test.true
    (rw c.dist_to_rect.ensures at c.if-not-dist_to_rect-clearance.false)

pub returns : goal.returns
returns c =
    let a = c.args in
    let l = c.loop-rect in
    sym (l.invariant ∙ clear_ends a.px a.py a.clearance a.obstacles.now l.rect-index c.loop-rect-test.false)
