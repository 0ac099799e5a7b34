-- `clearance_gradient` meets its contract: four clearances and their differences.
-- Rests on the contracts of what it calls.
use Rattle.regions.specs.Four.{first, second, third, fourth, at}
use Rattle.relax.specs.Field.{clearance_gradient}
use Rattle.relax.proofs.field.Field.clearance_gradient.Goals as goal

pub returns-then-norm : goal.returns-then-norm
unfolding clearance_gradient at
returns-then-norm c =
    let f = c.four_clearances-around in
    rw (← f.ensures first, ← f.ensures second, ← f.ensures third, ← f.ensures fourth, ← c.hypot-norm.ensures, c.if-norm.true)

pub returns : goal.returns
unfolding clearance_gradient at
returns c =
    let f = c.four_clearances-around in
    rw (← f.ensures first, ← f.ensures second, ← f.ensures third, ← f.ensures fourth, ← c.hypot-norm.ensures, c.if-norm.false)
