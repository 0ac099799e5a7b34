-- `probe_uniform_piece` meets its contract: the number of spots of a trial is that of the free cells, up to n.
-- Rests on the law that a trial only counts.
use Rattle.std.proofs.Common.{◌≡◌, min, length, sym, ap, ◌∙◌, rules, None}
use Rattle.regions.specs.Pieces.{rings_of}
use Rattle.lattice.specs.Around.{probe_is, no_spots}
use Rattle.lattice.specs.declared.count.Counts.{Counts}
use Rattle.lattice.proofs.uniform.probe_uniform_piece.Goals as goal

pub returns-in_default : goal.returns-in_default
returns-in_default c =
    let a = c.args in
    let none : c.piece_bounds.result ≡ None = search rules in
    sym (ap length (no_spots a.poi (rings_of a.piece) a.n a.ctx a.obstacles.now a.rectangular (sym c.piece_bounds.ensures ∙ none) c.requires.0))

pub returns : goal.returns
returns c =
    let a = c.args in
    let s = c.site_of-site.ensures in
    c.min.ensures
    ∙ ap (λ (t : Counts). min a.n t.free) c.count_cells.ensures
    ∙ probe_is a.poi (rings_of a.piece) a.n a.ctx a.obstacles.now a.rectangular _
    (sym c.piece_bounds.ensures ∙ c.in-Some.is) _ _ _ _ s.rings s.least s.near c.field_at-field.ensures c.requires.1 c.requires.2
