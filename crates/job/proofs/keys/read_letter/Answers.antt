-- `read_letter` reads a key byte.
-- Rests on what its calls ensure, and the laws of rows.
use mathlib.Core.Bool.{true, false}
use mathlib.Core.Path.{refl, sym, ap, ◌∙◌}
use Rattle.format.specs.RowLaws.{last_true, last_false}
use Rattle.format.specs.RefusalLaws.{fails, passes}
use Rattle.job.specs.Zones.{letter, letter_fault}
use Rattle.job.proofs.keys.read_letter.Goals as goal

pub returns-in_err-byte-clause-fault : goal.returns-in_err-byte-clause-fault
unfolding letter_fault
returns-in_err-byte-clause-fault c = fails _ _ _ _ c.in_err-byte.ensures.fault c.from_residual.ensures.1

pub returns-then-not-is_letter-clause-fault : goal.returns-then-not-is_letter-clause-fault
unfolding letter_fault
returns-then-not-is_letter-clause-fault c =
    let o = c.in_ok-byte.ensures in
    passes _ _ o.fault (last_false _ false _ (sym c.if-not-is_letter.true ∙ c.is_letter.ensures ∙ ap letter o.value.0) refl refl)

pub returns-clause-fault : goal.returns-clause-fault
unfolding letter_fault
returns-clause-fault c =
    let o = c.in_ok-byte.ensures in
    passes _ _ o.fault (last_true _ true _ (sym c.if-not-is_letter.false ∙ c.is_letter.ensures ∙ ap letter o.value.0) refl refl)
