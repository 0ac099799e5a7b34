-- `keeps` meets its contract: a spot that is far enough needs no cell.
-- Rests on the laws that take the distance first.
use mathlib.Core.Path.{sym, ap, ◌∙◌}
use mathlib.Core.Bool.{not}
use Rattle.scatter.specs.Cells.{far_keeps, near_keeps}
use Rattle.scatter.proofs.cells.Cells.keeps.Goals as goal

pub returns-then-squared_distance-self : goal.returns-then-squared_distance-self
returns-then-squared_distance-self c =
    let a = c.args in
    let e = c.squared_distance.ensures in
    c.if-squared_distance-self.true ∙ sym (far_keeps a.self.now a.p a.q (rw (← e) c.if-squared_distance-self.true))

pub returns-else-squared_distance-self : goal.returns-else-squared_distance-self
returns-else-squared_distance-self c =
    let a = c.args in
    let e = c.squared_distance.ensures in
    ap not c.neighbours.ensures ∙ sym (near_keeps a.self.now a.p a.q (rw (← e) c.if-squared_distance-self.false))
