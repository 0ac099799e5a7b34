-- `halves_of` meets its contract. The invariant: the entries written, and those which follow from `h`, are the table.
-- Rests on the kit's laws of `take` and `set`.
use Rattle.std.proofs.Common.{◌≡◌, sym, refl, ◌∙◌, arith, rules}
use Rattle.deepest.specs.Order.{halves_step, halves_done}
use Rattle.deepest.proofs.search.halves_of.Goals as goal

pub loop-half-init : goal.loop-half-init
loop-half-init c = (search rules, refl)

pub loop-half-preserved : goal.loop-half-preserved
loop-half-preserved c =
    let l = c.loop-half in
    (search rules, l.invariant.1 ∙ halves_step l.half-items l.h 22 l.half-index (omega (arith, l.invariant.0)) c.loop-half-test.true)

pub returns : goal.returns
returns c =
    let l = c.loop-half in
    let e : l.half-index ≡ 22 = omega (arith, l.auto.half-index-end, c.loop-half-test.false) in
    sym (rw e at l.invariant.1 ∙ halves_done l.half-items l.h 22 l.invariant.0)
