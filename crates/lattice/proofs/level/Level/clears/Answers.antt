-- `Level::clears` meets its contract: the inside test by the crossings first, then the near edges.
-- Rests on the laws that a place outside has no clearance above 0, and one inside that of its distance.
use Rattle.std.proofs.Common.{sym, ap, ◌∙◌}
use lib.Ieee.{Float}
use Rattle.laws.specs.Truth.{yes}
use Rattle.float.specs.Ops.{◌≤ᶠ◌}
use Rattle.regions.specs.Pieces.{rings_of}
use Rattle.regions.specs.Facts.{outside, inside_is}
use Rattle.lattice.proofs.level.Level.clears.Goals as goal

pub returns-then-not-inside_level : goal.returns-then-not-inside_level
returns-then-not-inside_level c =
    let a = c.args in
    let found = c.requires in
    sym (outside a.p.x a.p.y a.site.now.margin.least (rings_of a.site.now.piece) (yes found.positive)
    (sym (found.crossed.inside a.p.x) ∙ sym c.inside_level.ensures ∙ c.if-not-inside_level.true))

pub returns : goal.returns
returns c =
    let a = c.args in
    let found = c.requires in
    c.keeps_edges.ensures
    ∙ found.near_edges a.p.x
    ∙ ap (λ (d : Float). a.site.now.margin.least ≤ᶠ d)
    (sym (inside_is a.p.x a.p.y (rings_of a.site.now.piece) (sym (found.crossed.inside a.p.x) ∙ sym c.inside_level.ensures ∙ c.if-not-inside_level.false)))
