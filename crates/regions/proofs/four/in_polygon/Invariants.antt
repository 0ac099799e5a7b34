-- `in_polygon` meets its contract. The invariant: the flags are those of the definition after `i` turns.
-- Rests on the contract of `turned_all`.
use mathlib.Core.Path.{◌≡◌}
use lib.ListN.{length}
use Rattle.regions.specs.Inside.{inside_after}
use Rattle.regions.specs.Four.{Which, at}
use Rattle.regions.proofs.four.in_polygon.Given as goal

abbrev pub invariant-loop-i : goal.invariant-loop-i
invariant-loop-i l =
    (l.n ≡ length l.ring) × ((k : Which) → at k l.inside ≡ inside_after (at k l.places).x (at k l.places).y l.ring l.n l.i)
