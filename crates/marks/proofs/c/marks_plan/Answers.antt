-- `marks_plan` gives the call's numbers.
-- Rests on what `plan` ensures, and on the laws that its numbers are small.
use native.Mathlib.Omega.{arith}
use Rattle.marks.specs.CallLaws.{small}
use Rattle.marks.proofs.c.marks_plan.Goals as goal

pub overflow_cast-answer : goal.overflow_cast-answer
overflow_cast-answer c =
    let s = small _ _ _ _ _ c.in-Ok.ensures.answer in
    omega (arith, s.1, s.2)

pub overflow_cast-answer-in-Ok : goal.overflow_cast-answer-in-Ok
overflow_cast-answer-in-Ok c =
    let s = small _ _ _ _ _ c.in-Ok.ensures.answer in
    omega (arith, s.1, s.2)

pub overflow_cast-result : goal.overflow_cast-result
overflow_cast-result c = omega (arith, (small _ _ _ _ _ c.in-Ok.ensures.answer).0)
