-- `keeps_edge` meets its contract: by the square's bounds, or by its root.
-- Rests on the laws of the two bounds of a margin.
use Rattle.std.proofs.Common.{sym, ◌∙◌}
use Rattle.laws.specs.Truth.{yes}
use Rattle.lattice.specs.Edges.{keeps_is, keeps_high, keeps_low}
use Rattle.lattice.proofs.edges.keeps_edge.Goals as goal

pub returns-then-square-margin : goal.returns-then-square-margin
returns-then-square-margin c =
    let a = c.args in
    sym (keeps_high a.p.x a.p.y a.margin.least _ a.edge c.edge_square-square.ensures (rw (a.margin.high_is) at (yes c.if-square-margin.true)))

pub returns-then-square-margin-2 : goal.returns-then-square-margin-2
returns-then-square-margin-2 c =
    let a = c.args in
    sym (keeps_low a.p.x a.p.y a.margin.least _ a.edge c.edge_square-square.ensures (rw (a.margin.low_is) at (yes c.if-square-margin-2.true)))

pub returns : goal.returns
returns c =
    let a = c.args in
    sym (keeps_is a.p.x a.p.y a.margin.least _ a.edge c.edge_square-square.ensures ∙ rw c.root.ensures)
