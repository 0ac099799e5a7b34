-- `relax_sweeps` meets its contract. The invariant: the sweeps are those that are left, from the scatter as it is now.
-- Rests on the laws of a fold over what is left of the sweeps' numbers.
use Rattle.std.proofs.Common.{◌<◌, ◌≤◌, length, sym, ◌∙◌, arith}
use Rattle.laws.specs.Lists.{up_to, up_to_at, length_up_to}
use Rattle.laws.specs.Folds.{fold_step, fold_end}
use Rattle.relax.specs.Scatter.{relax_sweeps}
use Rattle.relax.specs.Moves.{kept_on}
use Rattle.relax.proofs.sweeps.relax_sweeps.Goals as goal

pub loop-k-preserved : goal.loop-k-preserved
loop-k-preserved c =
    let l = c.loop-k in
    let n = c.args.numbers.sweeps in
    let h : l.k < length (up_to n) = simp length_up_to (omega (arith, c.loop-k-test.true)) in
    let sweep = rw l.invariant.0.honoring at c.relax_sweep.ensures.moved in (
      kept_on l.invariant.0 c.relax_sweep.ensures.keeps,
      l.invariant.1 ∙ fold_step _ _ (up_to n) l.k 0 h ∙ rw (up_to_at n l.k 0 c.loop-k-test.true, ← sweep),
    )

pub returns-clause-moved : goal.returns-clause-moved
unfolding relax_sweeps
returns-clause-moved c =
    let l = c.loop-k in
    let n = c.args.numbers.sweeps in
    let h : length (up_to n) ≤ l.k = simp length_up_to (omega (arith, c.loop-k-test.false)) in
    sym (l.invariant.1 ∙ fold_end _ _ (up_to n) l.k h)
