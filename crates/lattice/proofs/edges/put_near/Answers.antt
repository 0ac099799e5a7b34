-- `put_near` meets its contract: a far edge is left out, a near one written.
-- Rests on the law of far edges and that of one more edge written.
use Rattle.std.proofs.Common.{take, arith, length-set}
use Rattle.lattice.specs.Edges.{far_added, near_added}
use Rattle.lattice.proofs.edges.put_near.Goals as goal

pub returns-then-is_far : goal.returns-then-is_far
returns-then-is_far c =
    let a = c.args in
    (c.requires, far_added a.y a.reach a.edge (take a.m a.edges.now) (c.is_far.ensures c.if-is_far.true))

pub returns-then-m-edges : goal.returns-then-m-edges
returns-then-m-edges c =
    let a = c.args in
    (simp length-set (omega arith), near_added a.y a.reach a.edge a.m a.edges.now (omega arith))
