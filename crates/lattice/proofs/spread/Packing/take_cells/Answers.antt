-- `take_cells` meets its contract: the nearest are gathered, and the free ones filled up with blocked ones.
-- Rests on the laws of what is taken and how it is written.
use Rattle.std.proofs.Common.{◌≡◌, ◌*◌, List, length, take, sym, ap, ◌∙◌, arith, length-take, length-take-le, take-take}
use Rattle.laws.specs.Lists.{written}
use Rattle.glyphs.specs.declared.rect.Point.{Point}
use Rattle.regions.specs.Pieces.{rings_of}
use Rattle.glyphs.specs.Spots.{flat}
use Rattle.lattice.specs.Gather.{kept}
use Rattle.lattice.specs.Lattice.{never, sort_by_anchor}
use Rattle.lattice.specs.Spread.{field_take}
use Rattle.lattice.specs.Taken.{filled, taken, fill}
use Rattle.lattice.specs.Tally.{cells_of}
use Rattle.lattice.proofs.spread.Packing.take_cells.Goals as goal

pub returns : goal.returns
unfolding field_take
returns c =
    let a = c.args in
    let p = a.self.now in
    let piece = rings_of p.site.piece in
    let near = p.site.near.now in
    let cells = cells_of p.field piece p.site.margin.least near never in
    let done =
    fill p.n (kept p.field.anchor p.n c.none_if-nb.result cells) _ _ _ _ _ c.gather_cells-t.ensures
    (omega (arith, length-take p.n (sort_by_anchor p.field.anchor cells.free))) c.requires.1 _ c.min-more.ensures in
    let e : filled p.n (kept p.field.anchor p.n c.none_if-nb.result cells) ≡ field_take piece p.site.margin.least near p.n
    p.field p.honoring =
    rw c.none_if-nb.ensures (sym (taken p.n p.field.anchor cells p.honoring)) in
    let b = c.gather_cells-t.new.blocked in
    let m = c.min-more.result * 2 in
    let front : length (take m b) ≡ m = length-take-le m b (omega (arith, c.requires.0, c.min-more.ensures, c.gather_cells-t.auto.blocked)) in
    (done.0 ∙ ap length e, (rw (front, take-take m m b (omega arith)) at c.append.ensures) ∙ done.1 ∙ ap (λ (ps : List Point). written (flat ps) a.spots.now) e)
