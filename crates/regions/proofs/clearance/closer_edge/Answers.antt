-- `closer_edge` meets its contract: the lesser of a square and that of an edge.
-- Rests on the contracts of what it calls.
use Rattle.regions.proofs.clearance.closer_edge.Goals as goal

pub returns : goal.returns
returns c = rw (c.lesser.ensures, c.edge_square.ensures)
