-- `note_honoring` meets its contract. The invariant: the first i notes are those of their marks.
-- Rests on the law that notes of all marks are the marks' notes, and on the margin's being that of the inset.
use Rattle.std.proofs.Common.{false, arith, rules}
use Rattle.regions.specs.Margins.{least_of_margin}
use Rattle.relax.specs.Scatter.{honoring_of}
use Rattle.relax.specs.Notes.{noted}
use Rattle.relax.proofs.sweeps.note_honoring.Goals as goal

pub loop-i-preserved : goal.loop-i-preserved
loop-i-preserved c =
    let e = least_of_margin _ _ c.of-margin.ensures in
    search rules

pub returns : goal.returns
unfolding honoring_of
returns c =
    let l = c.loop-i in
    noted _ _ l.honoring false (omega (arith, c.requires, l.auto.honoring)) (λ k h. l.invariant k (omega (arith, h, l.auto.honoring, c.loop-i-test.false)))
