-- `clears_obstacles` meets its contract. The invariant: the answer is that of the obstacles which are left.
-- Rests on the law that the distance is the root of its square, and on the laws of what is left of some obstacles.
use Rattle.std.proofs.Common.{◌≡◌, drop}
use Rattle.glyphs.specs.Rect.{clear_of_obstacles}
use Rattle.regions.proofs.pillars.clears_obstacles.Given as goal

abbrev pub invariant-loop-rect : goal.invariant-loop-rect
invariant-loop-rect l = clear_of_obstacles l.px l.py l.obstacles l.margin.least ≡ clear_of_obstacles l.px l.py (drop l.rect-index l.obstacles) l.margin.least
