-- `relax_sweeps` meets its contract. The invariant: the sweeps are those that are left, from the scatter as it is now.
-- Rests on the laws of a fold over what is left of the sweeps' numbers.
use Rattle.std.proofs.Common.{◌≡◌, drop}
use mathlib.Core.List.{foldl}
use Rattle.laws.specs.Lists.{up_to}
use Rattle.relax.specs.Scatter.{relax_sweep}
use Rattle.relax.specs.Moves.{scatter_of, surroundings, Keeps}
use Rattle.relax.proofs.sweeps.relax_sweeps.Given as goal

abbrev pub invariant-loop-k : goal.invariant-loop-k
invariant-loop-k l =
    let start = l.initial.marks in
    let e = surroundings l.field start.honoring.now in
    let all = up_to l.numbers.sweeps in
    Keeps start l.marks × (foldl (relax_sweep l.numbers e) (scatter_of start) all ≡ foldl (relax_sweep l.numbers e) (scatter_of l.marks) (drop l.k all))
