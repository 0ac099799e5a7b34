-- `odd` meets its contract. The invariant: the answer is that of what was found so far and the crossings which are left.
-- Rests on the law of a turn.
use Rattle.std.proofs.Common.{◌≡◌, false, drop}
use mathlib.Core.List.{foldl}
use Rattle.lattice.specs.Crossings.{turn}
use Rattle.lattice.proofs.crossings.odd.Given as goal

abbrev pub invariant-loop-c : goal.invariant-loop-c
invariant-loop-c l = foldl (turn l.x) false l.crossings ≡ foldl (turn l.x) l.inside (drop l.c-index l.crossings)
