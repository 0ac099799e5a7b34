-- `is_before_last` meets its contract: there is no last cell, or it is asked.
-- Rests on what the definition is with no cell and with some.
use Rattle.std.proofs.Common.{ap, ◌∙◌}
use Rattle.laws.specs.Orders.{is_lt}
use Rattle.glyphs.specs.declared.rect.Point.{Point}
use Rattle.lattice.specs.Flat.{spot_is}
use Rattle.lattice.specs.Lattice.{by_anchor}
use Rattle.lattice.specs.Run.{before_none, before_some}
use Rattle.lattice.proofs.nearest.is_before_last.Goals as goal

pub returns-then-i-eq0 : goal.returns-then-i-eq0
returns-then-i-eq0 c =
    let a = c.args in
    before_none a.anchor a.p a.cells.now a.i c.if-i-eq0.true

pub returns : goal.returns
returns c =
    let a = c.args in
    c.precedes.ensures
    ∙ ap (λ (q : Point). is_lt (by_anchor a.anchor a.p q)) (c.spot.ensures ∙ spot_is _ _)
    ∙ before_some a.anchor a.p a.cells.now a.i c.if-i-eq0.false
