-- `closer_at` meets its contract: the lesser of a square and that of an edge of a ring.
-- Rests on the contracts of what it calls.
use Rattle.regions.proofs.clearance.closer_at.Goals as goal

pub returns : goal.returns
returns c = cc
