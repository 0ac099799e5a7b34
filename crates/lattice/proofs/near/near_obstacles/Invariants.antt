-- `near_obstacles` meets its contract. The invariant: the near ones are those written and those of what is left.
-- Rests on the law of a list filtered in turn.
use Rattle.std.proofs.Common.{◌≡◌, ◌≤◌, ◌++◌, length, take, drop, Some}
use Rattle.glyphs.specs.declared.rect.Rectangle.{Rectangle}
use Rattle.glyphs.specs.Rect.{filter, near, obstacles_near}
use Rattle.lattice.proofs.near.near_obstacles.Given as goal

abbrev pub invariant-loop-rect : goal.invariant-loop-rect
invariant-loop-rect l =
    let e = l.extents in
    (l.m ≤ l.rect-index)
    × (length l.out ≡ length l.initial.out)
    × (take l.m l.out ++ filter (λ (rect : Rectangle). near rect l.inset e.min_x e.max_x e.min_y e.max_y) (drop l.rect-index l.obstacles)
    ≡ obstacles_near (Some e) l.obstacles l.inset)
