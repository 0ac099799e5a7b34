-- `pushed_to` meets its contract: no move without a push, and else the first step that is accepted.
-- Rests on the contracts of what it calls.
use Rattle.relax.specs.Moves.{pushed_to, told_of}
use Rattle.relax.proofs.moves.pushed_to.Goals as goal

pub returns-then-is_finite-magnitude : goal.returns-then-is_finite-magnitude
unfolding pushed_to told_of
returns-then-is_finite-magnitude c = rw (← c.hypot-magnitude.ensures, ← c.is_finite.ensures, c.if-is_finite-magnitude.true)

pub returns : goal.returns
unfolding pushed_to
returns c =
    rw (← c.hypot-magnitude.ensures, ← c.is_finite.ensures, c.if-is_finite-magnitude.false, ← c.min.ensures) c.first_accepted.ensures
