-- `shoelace_area` meets its contract. The invariant: the sum is that of the definition after `i` turns.
-- Rests on the contracts of what it calls.
use mathlib.Core.Path.{◌≡◌}
use lib.ListN.{length}
use Rattle.regions.specs.Area.{area_after}
use Rattle.regions.proofs.area.shoelace_area.Given as goal

abbrev pub invariant-loop-i : goal.invariant-loop-i
invariant-loop-i l = (l.n ≡ length l.v) × (l.area ≡ area_after l.v l.n l.i)
