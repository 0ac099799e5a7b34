-- `narrowed` meets its contract, by the trial.
-- Rests on the definition alone.
use Rattle.laws.specs.Choice.{picks}
use Rattle.discs.specs.Walk.{narrowed}
use Rattle.discs.proofs.radius.narrowed.Goals as goal

pub returns-then-fits : goal.returns-then-fits
unfolding narrowed
returns-then-fits c = search picks

pub returns : goal.returns
unfolding narrowed
returns c = search picks
