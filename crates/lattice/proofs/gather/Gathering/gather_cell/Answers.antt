-- `gather_cell` meets its contract: the source's two tests, asked of what was found for the row, and the cell waits or is kept among those of its kind.
-- Rests on the laws of one cell gathered.
use Rattle.std.proofs.Common.{sym, ◌∙◌}
use Rattle.regions.specs.Pieces.{rings_of}
use Rattle.lattice.specs.Gathered.{gathers_out, gathers_free, gathers_blocked}
use Rattle.lattice.proofs.gather.Gathering.gather_cell.Goals as goal

pub returns-then-not-clears_rings-clause-cells : goal.returns-then-not-clears_rings-clause-cells
returns-then-not-clears_rings-clause-cells c =
    let a = c.args in
    gathers_out a.wanted.anchor a.wanted.free a.wanted.blocked a.self.now.t a.self.now.free.now a.self.now.blocked.now a.self.now.run c.requires.1
    (rings_of a.nearby.now.site.piece) a.nearby.now.site.margin.least a.nearby.now.site.near.now a.p
    (sym c.clears_rings.ensures ∙ c.if-not-clears_rings.true)

pub returns-then-clears_pillars-clause-cells : goal.returns-then-clears_pillars-clause-cells
returns-then-clears_pillars-clause-cells c =
    let a = c.args in
    gathers_free a.wanted.anchor a.wanted.free a.wanted.blocked a.self.now.t a.self.now.free.now a.self.now.blocked.now a.self.now.run c.requires.1
    (rings_of a.nearby.now.site.piece) a.nearby.now.site.margin.least a.nearby.now.site.near.now a.p
    (sym c.clears_rings.ensures ∙ c.if-not-clears_rings.false)
    (sym c.clears_pillars.ensures ∙ c.if-clears_pillars.true)
    c.wait-self.result _ _ c.wait-self.ensures.0 c.wait-self.ensures.1 c.wait-self.ensures.2

pub returns-clause-cells : goal.returns-clause-cells
returns-clause-cells c =
    let a = c.args in
    gathers_blocked a.wanted.anchor a.wanted.free a.wanted.blocked a.self.now.t a.self.now.free.now a.self.now.blocked.now a.self.now.run c.requires.1
    (rings_of a.nearby.now.site.piece) a.nearby.now.site.margin.least a.nearby.now.site.near.now a.p
    (sym c.clears_rings.ensures ∙ c.if-not-clears_rings.false)
    (sym c.clears_pillars.ensures ∙ c.if-clears_pillars.false)
    _ c.keep-self.ensures.0 _ c.keep-self.ensures.1
