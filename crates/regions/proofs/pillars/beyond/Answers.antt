-- `beyond` meets its contract: a straight line of calls.
-- Rests on their contracts.
use Rattle.regions.specs.Pillars.{beyond}
use Rattle.regions.proofs.pillars.beyond.Goals as goal

pub returns : goal.returns
unfolding beyond
returns c = cc
