-- `sanitize_obstacles` meets its contract. The invariant: the sane ones are those put and those of what is left.
-- Rests on the law of a list filtered in turn.
use Rattle.std.specs.Prelude.{◌≡◌, ◌+◌, ◌≤◌, ◌++◌, length, drop}
use Rattle.glyphs.specs.Rect.{filter, sane, sanitize_obstacles}
use Rattle.plan.proofs.pillars.sanitize_obstacles.Given as goal

abbrev pub invariant-loop-rect : goal.invariant-loop-rect
invariant-loop-rect g l =
    (length l.out.items ≤ length l.initial.out.items + l.rect-index)
    × (l.out.items ++ filter sane (drop l.rect-index l.obstacles) ≡ l.initial.out.items ++ sanitize_obstacles l.obstacles)
