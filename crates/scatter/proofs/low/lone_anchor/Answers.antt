-- `lone_anchor` meets its contract: for one mark the deepest point, moved off the obstacles near the piece.
-- Rests on the laws of a lone mark's anchor.
use mathlib.Core.Path.{◌≡◌, sym, ap, ◌∙◌}
use Rattle.std.proofs.Common.{Some}
use borrow.Author.Rules.{rules}
use Rattle.std.specs.Prelude.{None}
use Rattle.regions.specs.Pieces.{rings_of}
use Rattle.scatter.specs.Passes.{no_anchor, unbounded_anchor, anchor_is}
use Rattle.scatter.proofs.low.lone_anchor.Goals as goal

pub returns-then-n-ne1 : goal.returns-then-n-ne1
returns-then-n-ne1 c =
    let a = c.args in
    sym (no_anchor a.poi (rings_of a.piece) a.n a.ctx a.obstacles.now c.if-n-ne1.true)

pub returns-in_default : goal.returns-in_default
returns-in_default c =
    let a = c.args in
    let none : c.piece_bounds.result ≡ None = search rules in
    unbounded_anchor a.poi (rings_of a.piece) a.n a.ctx a.obstacles.now c.if-n-ne1.false (sym c.piece_bounds.ensures ∙ none)

pub returns : goal.returns
returns c =
    let a = c.args in
    ap Some c.escape_obstacles.ensures
    ∙ anchor_is a.poi (rings_of a.piece) a.n a.ctx a.obstacles.now c.if-n-ne1.false c.in-Some.extents
    (sym c.piece_bounds.ensures ∙ c.in-Some.is) _ _ c.inset-inset.ensures c.near_obstacles-m.ensures.near
