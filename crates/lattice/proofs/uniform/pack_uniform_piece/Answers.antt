-- `pack_uniform_piece` meets its contract: no spots without bounds, else those of the lattice about the deepest point.
-- Rests on the laws of the packer by its parts.
use Rattle.std.proofs.Common.{◌≡◌, List, length, sym, ap, ◌∙◌, rules, None}
use Rattle.laws.specs.Lists.{written}
use Rattle.glyphs.specs.declared.rect.Point.{Point}
use Rattle.regions.specs.Pieces.{rings_of}
use Rattle.lattice.specs.Around.{around_is, no_spots}
use Rattle.glyphs.specs.Spots.{flat}
use Rattle.lattice.proofs.uniform.pack_uniform_piece.Goals as goal

pub returns-in_default : goal.returns-in_default
unfolding written flat
returns-in_default c =
    let a = c.args in
    let none : c.piece_bounds.result ≡ None = search rules in
    let e = sym (no_spots a.poi (rings_of a.piece) a.n a.ctx a.obstacles.now a.rectangular (sym c.piece_bounds.ensures ∙ none) c.requires.0) in
    (ap length e, ap (λ (ps : List Point). written (flat ps) a.spots.now) e)

pub returns : goal.returns
returns c =
    let a = c.args in
    let s = c.site_of-site.ensures in
    let e =
    around_is a.poi (rings_of a.piece) a.n a.ctx a.obstacles.now a.rectangular _
    (sym c.piece_bounds.ensures ∙ c.in-Some.is) _ _ _ _ s.rings s.least s.near c.field_at-field.ensures c.requires.1 in
    (c.pack_field.ensures.0 ∙ ap length e, c.pack_field.ensures.1 ∙ ap (λ (ps : List Point). written (flat ps) a.spots.now) e)
