-- `point_in_polygon` meets its contract. The invariant: the flag is that of the definition after the turns of the blocks.
-- Rests on the law of the first turn and the contracts of what it calls.
use Rattle.std.proofs.Common.{◌≡◌, ◌+◌, ◌*◌, length}
use Rattle.regions.specs.Inside.{inside_after}
use Rattle.regions.proofs.inside.point_in_polygon.Given as goal

abbrev pub invariant-loop-block : goal.invariant-loop-block
invariant-loop-block l = l.inside ≡ inside_after l.x l.y l.v (length l.v) (l.block * 16 + 1)
