-- `relax_placed` meets its contract: the marks at the front, and just as many notes, are lent to the relaxation.
-- Rests on the law that the relaxation keeps the number of marks.
use mathlib.Core.Path.{◌≡◌, ◌∙◌}
use lib.ListN.{length, take}
use Rattle.glyphs.specs.Spots.{spots_of, spots_take}
use Rattle.regions.specs.Pieces.{rings_of}
use Rattle.relax.specs.Kept.{length_relaxed}
use Rattle.relax.specs.Scatter.{relax_scatter}
use Rattle.lattice.specs.Context.{inset, spacing}
use Rattle.scatter.specs.Placed.{length_first, front_replaced}
use Rattle.scatter.proofs.random.relax_placed.Goals as goal

pub returns : goal.returns
returns c =
    let a = c.args in
    let site = a.site.now in
    let piece = rings_of site.piece in
    let near = site.near.now in
    let ps = take a.count (spots_of a.spots.now) in
    let n : length (relax_scatter a.numbers ps piece near (spacing site.ctx) (inset site.ctx)) ≡ a.count =
    length_relaxed a.numbers ps piece near (spacing site.ctx) (inset site.ctx) ∙ length_first a.count a.spots.now c.requires.2 in
    front_replaced a.count (relax_scatter a.numbers ps piece near (spacing site.ctx) (inset site.ctx)) a.spots.now _
    (c.relax_scatter.ensures.spots ∙ rw (spots_take, c.inset.ensures, c.spacing.ensures)) n
