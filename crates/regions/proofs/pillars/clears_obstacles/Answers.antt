-- `clears_obstacles` meets its contract. The invariant: the answer is that of the obstacles which are left.
-- Rests on the law that the distance is the root of its square, and on the laws of what is left of some obstacles.
use Rattle.std.proofs.Common.{◌≡◌, Bool, sym, ◌∙◌, Float}
use Rattle.float.specs.Ops.{◌≤ᶠ◌, ◌≥ᶠ◌}
use Rattle.float.specs.Order.{sqrt}
use Rattle.glyphs.specs.declared.rect.Rectangle.{Rectangle}
use Rattle.glyphs.specs.Rect.{dist_to_rect, clear_stops, clear_goes_on, clear_ends}
use Rattle.regions.specs.Pillars.{rect_square, rect_root}
use Rattle.regions.proofs.pillars.clears_obstacles.Goals as goal

-- the test by the square says what the distance says
by_square :
    (px py clearance square : Float) (rect : Rectangle) (r b : Bool) → square ≡ rect_square px py rect → r ≡ (clearance ≤ᶠ sqrt square) → r ≡ b
    → dist_to_rect px py rect ≥ᶠ clearance ≡ b
by_square px py clearance square rect r b e f g = rw (rect_root, ← e, ← f) g

pub returns-then-not-root_at_least : goal.returns-then-not-root_at_least
returns-then-not-root_at_least c =
    let a = c.args in
    let l = c.loop-rect in
    sym
    (l.invariant
    ∙ clear_stops a.px a.py a.margin.least a.obstacles.now l.rect-index _ c.loop-rect-test.true
    (by_square a.px a.py a.margin.least _ _ _ _ c.rect_square.ensures c.root_at_least.ensures c.if-not-root_at_least.true))

pub loop-rect-preserved : goal.loop-rect-preserved
loop-rect-preserved c =
    let a = c.args in
    let l = c.loop-rect in
    l.invariant
    ∙ clear_goes_on a.px a.py a.margin.least a.obstacles.now l.rect-index _ c.loop-rect-test.true
    (by_square a.px a.py a.margin.least _ _ _ _ c.rect_square.ensures c.root_at_least.ensures c.if-not-root_at_least.false)

pub returns : goal.returns
returns c =
    let a = c.args in
    let l = c.loop-rect in
    sym (l.invariant ∙ clear_ends a.px a.py a.margin.least a.obstacles.now l.rect-index c.loop-rect-test.false)
