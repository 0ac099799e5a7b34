-- `relax_sweep` meets its contract. The invariant: the sweep is what is left of it, from the scatter as it is now.
-- Rests on the laws of a fold over what is left of the marks' numbers.
use Rattle.std.proofs.Common.{◌≡◌, length, drop}
use mathlib.Core.List.{foldl}
use Rattle.laws.specs.Lists.{up_to}
use Rattle.relax.specs.Scatter.{relax_point}
use Rattle.relax.specs.Moves.{scatter_of, surroundings, Keeps}
use Rattle.relax.proofs.sweeps.relax_sweep.Given as goal

abbrev pub invariant-loop-i : goal.invariant-loop-i
invariant-loop-i l =
    let start = l.initial.marks in
    let e = surroundings l.field start.honoring.now in
    let all = up_to (length start.honoring.now) in
    Keeps start l.marks
    × (foldl (relax_point l.numbers e l.max_step) (scatter_of start) all ≡ foldl (relax_point l.numbers e l.max_step) (scatter_of l.marks) (drop l.i all))
