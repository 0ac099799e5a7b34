-- `clears` meets its contract: the inside test first, then the distances.
-- Rests on the law that a point outside has no clearance above 0, and on the contract of `dist_at_least`.
use mathlib.Core.Path.{sym, ap, ◌∙◌}
use lib.Ieee.{Float}
use Rattle.laws.specs.Truth.{yes}
use Rattle.float.specs.Ops.{◌≤ᶠ◌}
use Rattle.regions.specs.Pieces.{rings_of}
use Rattle.regions.specs.Facts.{outside, inside_is}
use Rattle.regions.proofs.keeps.clears.Goals as goal

pub returns-then-not-inside_piece : goal.returns-then-not-inside_piece
returns-then-not-inside_piece c =
    let a = c.args in
    sym (outside a.px a.py a.margin.least (rings_of a.piece) (yes c.if-margin.true)
    (sym c.inside_piece.ensures ∙ c.if-not-inside_piece.true))

pub returns-then-margin : goal.returns-then-margin
returns-then-margin c =
    let a = c.args in
    let piece = rings_of a.piece in
    let inside = sym c.inside_piece.ensures ∙ c.if-not-inside_piece.false in
    rw c.rings.ensures at c.dist_at_least.ensures ∙ ap (λ (x : Float). a.margin.least ≤ᶠ x) (sym (inside_is a.px a.py piece inside))

pub returns : goal.returns
returns c = rw c.signed_clearance.ensures
