-- `turned_by` meets its contract: a flag after one edge.
-- Rests on the law that two flags differ where the one turns the other over.
use Rattle.regions.specs.Turns.{differ}
use Rattle.regions.proofs.inside.turned_by.Goals as goal

pub returns : goal.returns
returns c = rw (← c.crosses.ensures) (differ _ _)
