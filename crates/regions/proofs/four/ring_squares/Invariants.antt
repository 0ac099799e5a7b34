-- `ring_squares` meets its contract. The invariant: the least are those of the definition after `i` edges.
-- Rests on the contract of `nearer`.
use mathlib.Core.Path.{◌≡◌}
use lib.ListN.{length}
use Rattle.regions.specs.Squares.{least_after}
use Rattle.regions.specs.Four.{Which, at}
use Rattle.regions.proofs.four.ring_squares.Given as goal

abbrev pub invariant-loop-i : goal.invariant-loop-i
invariant-loop-i l =
    (l.n ≡ length l.ring) × ((k : Which) → at k l.best ≡ least_after (at k l.places).x (at k l.places).y (at k l.initial.best) l.ring l.n l.i)
