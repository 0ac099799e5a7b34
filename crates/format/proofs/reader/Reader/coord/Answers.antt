-- `coord` reads a coordinate.
-- Rests on what `number` ensures, the laws of rows, and the laws of coordinates.
use mathlib.Core.Bool.{true, false}
use mathlib.Core.Path.{◌≡◌, refl, ◌∙◌, sym, ap}
use native.Mathlib.Omega.{arith}
use mir.Syntax.{w32}
use mir.Val.{of_z, to_z}
use mir.ValLaws.{to_z-of_z}
use Rattle.std.proofs.lemmas.Int.{ints}
use Rattle.format.specs.Numbers.{in_range, coord_of, coord_in, coord_at}
use Rattle.format.specs.RowLaws.{last_true, last_false}
use Rattle.format.specs.RefusalLaws.{fails, passes}
use Rattle.format.proofs.Coordinates.{coord_signed}
use Rattle.format.proofs.reader.Reader.coord.Goals as goal

pub returns-in_err-number-clause-fault : goal.returns-in_err-number-clause-fault
unfolding coord_in
returns-in_err-number-clause-fault c = fails _ _ _ _ c.in_err-number.ensures.fault c.from_residual.ensures.1

pub returns-then-not-contains-clause-fault : goal.returns-then-not-contains-clause-fault
unfolding coord_in in_range
returns-then-not-contains-clause-fault c =
    let f : in_range c.in_ok-number.field-0 ≡ false = grind (arith, ints) in
    passes _ _ c.in_ok-number.ensures.fault (last_false _ false _ (sym f ∙ rw c.in_ok-number.ensures.value.0) refl refl)

pub returns-clause-fault : goal.returns-clause-fault
unfolding coord_in in_range
returns-clause-fault c =
    let f : in_range c.in_ok-number.field-0 ≡ true = grind (arith, ints) in
    passes _ _ c.in_ok-number.ensures.fault (last_true _ true _ (sym f ∙ rw c.in_ok-number.ensures.value.0) refl refl)

pub returns-clause-value : goal.returns-clause-value
unfolding coord_at
returns-clause-value c =
    let v = c.in_ok-number.ensures.value in
    let z : to_z w32 (of_z w32 c.cast_signed-number.result) ≡ to_z w32 c.in_ok-number.field-0 = grind (arith, to_z-of_z, c.cast_signed-number.ensures) in
    rw z (coord_signed c.in_ok-number.field-0 v.1 ∙ ap coord_of v.0)
