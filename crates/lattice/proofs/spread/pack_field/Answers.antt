-- `pack_field` meets its contract: the definition's three cases.
-- Rests on the laws of its choices.
use Rattle.std.proofs.Common.{leb, List, length, sym, ap, ◌∙◌}
use lib.Ieee.{Float}
use Rattle.laws.specs.Lists.{written}
use Rattle.glyphs.specs.declared.rect.Point.{Point}
use Rattle.regions.specs.Pieces.{rings_of}
use Rattle.lattice.specs.Around.{pack_strict, pack_short, pack_wide}
use Rattle.glyphs.specs.Spots.{flat}
use Rattle.lattice.specs.Spread.{with_spacing, field_take}
use Rattle.lattice.specs.declared.rows.Field.{Field}
use Rattle.lattice.proofs.spread.pack_field.Goals as goal

pub returns-then-honoring-strict : goal.returns-then-honoring-strict
returns-then-honoring-strict c =
    let a = c.args in
    let e =
    sym (pack_strict (rings_of a.site.piece) a.site.margin.least a.site.near.now a.n a.field a.strict _ c.count_with-at_min.ensures
    c.if-honoring-strict.true) in
    (c.take_cells.ensures.0 ∙ ap length e, c.take_cells.ensures.1 ∙ ap (λ (ps : List Point). written (flat ps) a.spots.now) e)

pub returns-then-not-is_enough : goal.returns-then-not-is_enough
returns-then-not-is_enough c =
    let a = c.args in
    let e =
    sym
    (pack_short (rings_of a.site.piece) a.site.margin.least a.site.near.now a.n a.field a.strict _ c.count_with-at_min.ensures c.if-honoring-strict.false
    (sym c.is_enough.ensures ∙ c.if-not-is_enough.true)) in (
      c.take_cells-then-not-is_enough.ensures.0 ∙ ap length e,
      c.take_cells-then-not-is_enough.ensures.1 ∙ ap (λ (ps : List Point). written (flat ps) a.spots.now) e,
    )

pub returns : goal.returns
returns c =
    let a = c.args in
    let piece = rings_of a.site.piece in
    let near = a.site.near.now in
    let honoring = leb a.n c.count_with-at_min.result.free in
    let e =
    ap (λ (field : Field). field_take piece a.site.margin.least near a.n field honoring)
    (c.at_spacing.ensures ∙ ap (λ (x : Float). with_spacing a.field x) c.spread_spacing.ensures)
    ∙ sym
    (pack_wide piece a.site.margin.least near a.n a.field a.strict _ c.count_with-at_min.ensures c.if-honoring-strict.false
    (sym c.is_enough.ensures ∙ c.if-not-is_enough.false)) in
    (c.take_cells-2.ensures.0 ∙ ap length e, c.take_cells-2.ensures.1 ∙ ap (λ (ps : List Point). written (flat ps) a.spots.now) e)
