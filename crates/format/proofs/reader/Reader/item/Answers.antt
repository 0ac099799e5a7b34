-- `item` reads a number that is in its range.
-- Rests on what `number` ensures, and the laws of rows.
use mathlib.Core.Bool.{true, false}
use mathlib.Core.Path.{◌≡◌, refl, ◌∙◌, sym}
use native.Mathlib.Omega.{arith}
use Rattle.format.specs.Numbers.{item, within}
use Rattle.format.specs.RowLaws.{last_true, last_false}
use Rattle.format.specs.RefusalLaws.{fails, passes}
use Rattle.format.proofs.reader.Reader.item.Goals as goal

pub returns-in_err-value-clause-fault : goal.returns-in_err-value-clause-fault
unfolding item
returns-in_err-value-clause-fault c = fails _ _ _ _ c.in_err-value.ensures.fault c.from_residual.ensures.1

pub returns-then-not-contains-clause-fault : goal.returns-then-not-contains-clause-fault
unfolding item
returns-then-not-contains-clause-fault c =
    let a = c.args in
    let v = c.in_ok-value.ensures.value.0 in
    let f : within a.least c.in_ok-value.value a.most ≡ false = grind arith in
    passes _ _ c.in_ok-value.ensures.fault (last_false _ false _ (sym f ∙ rw v) refl refl)

pub returns-clause-fault : goal.returns-clause-fault
unfolding item
returns-clause-fault c =
    let a = c.args in
    let v = c.in_ok-value.ensures.value.0 in
    let f : within a.least c.in_ok-value.value a.most ≡ true = grind arith in
    passes _ _ c.in_ok-value.ensures.fault (last_true _ true _ (sym f ∙ rw v) refl refl)
