-- `relax_sweep` meets its contract. The invariant: the sweep is what is left of it, from the scatter as it is now.
-- Rests on the laws of a fold over what is left of the marks' numbers.
use Rattle.std.proofs.Common.{◌≡◌, ◌<◌, ◌≤◌, length, sym, ◌∙◌, arith}
use Rattle.laws.specs.Lists.{up_to, up_to_at, length_up_to}
use Rattle.laws.specs.Folds.{fold_step, fold_end}
use Rattle.glyphs.specs.Spots.{spots_of, length_spots}
use Rattle.relax.specs.Scatter.{relax_sweep}
use Rattle.relax.specs.Moves.{kept_on}
use Rattle.relax.proofs.sweeps.relax_sweep.Goals as goal

pub loop-i-preserved : goal.loop-i-preserved
loop-i-preserved c =
    let l = c.loop-i in
    let n = length c.args.marks.now.honoring.now in
    let h : l.i < length (up_to n) = simp length_up_to (omega (arith, c.loop-i-test.true)) in
    let step = rw l.invariant.0.honoring at c.relax_point.ensures.moved in (
      kept_on l.invariant.0 c.relax_point.ensures.keeps,
      l.invariant.1 ∙ fold_step _ _ (up_to n) l.i 0 h ∙ rw (up_to_at n l.i 0 c.loop-i-test.true, ← step),
    )

pub returns-clause-moved : goal.returns-clause-moved
unfolding relax_sweep
returns-clause-moved c =
    let l = c.loop-i in
    let w = c.args.marks.now in
    let n = length w.honoring.now in
    let h : length (up_to n) ≤ l.i = simp length_up_to (omega (arith, c.loop-i-test.false)) in
    let m : length (spots_of w.spots.now) ≡ n = simp length_spots (omega (arith, w.pairs, w.flags)) in
    rw (m, ← c.longest_step-max_step.ensures) (sym (l.invariant.1 ∙ fold_end _ _ (up_to n) l.i h))
