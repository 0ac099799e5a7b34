-- `keeps_edges` meets its contract. The invariant: the answer is that of the edges which are left.
-- Rests on the laws of a test of each element in turn.
use Rattle.std.proofs.Common.{◌≡◌, drop}
use Rattle.lattice.specs.Edges.{keeps_edges}
use Rattle.lattice.proofs.edges.keeps_edges.Given as goal

abbrev pub invariant-loop-edge : goal.invariant-loop-edge
invariant-loop-edge l =
    keeps_edges l.p.x l.p.y l.margin.least l.edges ≡ keeps_edges l.p.x l.p.y l.margin.least (drop l.edge-index l.edges)
