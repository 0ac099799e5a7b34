-- `write_plan` writes the front of the buffer that is the sheet, or the refusal.
-- Rests on the law that no sheet is longer than the buffer.
use Rattle.std.proofs.Common.{arith, sym, length-take-le}
use Rattle.marks.specs.CallLaws.{small}
use Rattle.place.proofs.write_plan.Goals as goal

pub slice_bounds-sheet-end : goal.slice_bounds-sheet-end
slice_bounds-sheet-end g c = omega (arith, (small _ _ _ _ _ c.in-Ok.ensures.answer).0)

pub slice_bounds-write_all-end : goal.slice_bounds-write_all-end
slice_bounds-write_all-end g c = sym (length-take-le _ _ (omega (arith, (small _ _ _ _ _ c.in-Ok.ensures.answer).0)))
