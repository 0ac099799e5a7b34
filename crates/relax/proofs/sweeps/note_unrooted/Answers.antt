-- `note_unrooted` meets its contract. The invariant: the first i notes are those of their marks.
-- Rests on the law that notes of all marks are the marks' notes.
use Rattle.std.proofs.Common.{arith}
use Rattle.std.specs.Float.{nan}
use Rattle.relax.specs.Notes.{noted, unrooted_of}
use Rattle.relax.proofs.sweeps.note_unrooted.Goals as goal

pub returns : goal.returns
unfolding unrooted_of
returns c =
    let l = c.loop-i in
    noted _ _ l.unrooted nan (omega (arith, c.requires, l.auto.unrooted)) (λ k h. l.invariant k (omega (arith, h, l.auto.unrooted, c.loop-i-test.false)))
