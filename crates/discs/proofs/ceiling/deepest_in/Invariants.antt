-- `deepest_in` meets its contract. The invariant: the answer is that of the points left, from `best` on.
-- Rests on the definition alone.
use Rattle.std.proofs.Common.{◌≡◌, drop}
use mathlib.Core.List.{foldl}
use Rattle.deepest.specs.Deepest.{deeper_of}
use Rattle.discs.specs.Pieces.{deepests_of}
use Rattle.discs.specs.Floor.{deepest_in}
use Rattle.discs.proofs.ceiling.deepest_in.Given as goal

abbrev pub invariant-loop-found : goal.invariant-loop-found
invariant-loop-found l = deepest_in (deepests_of l.deepest) ≡ foldl deeper_of l.best (deepests_of (drop l.found-index l.deepest))
