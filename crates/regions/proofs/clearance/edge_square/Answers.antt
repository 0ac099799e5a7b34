-- `edge_square` meets its contract: the square of the distance to one edge.
-- Rests on the contract of `along_edge`.
use Rattle.regions.specs.Clearance.{edge_square}
use Rattle.regions.proofs.clearance.edge_square.Goals as goal

pub returns : goal.returns
unfolding edge_square
returns c = cc
