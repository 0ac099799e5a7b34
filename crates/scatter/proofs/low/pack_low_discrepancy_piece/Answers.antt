-- `pack_low_discrepancy_piece` meets its contract: no spots for no marks or without bounds, else those of both passes.
-- Rests on the laws of the packer by its parts.
use mathlib.Core.Path.{◌≡◌, sym, ap, ◌∙◌}
use mathlib.Core.List.{List}
use borrow.Author.Rules.{rules}
use lib.ListN.{length}
use Rattle.laws.specs.Lists.{written}
use Rattle.std.specs.Prelude.{None}
use Rattle.glyphs.specs.declared.rect.Point.{Point}
use Rattle.glyphs.specs.Spots.{flat}
use Rattle.regions.specs.Pieces.{rings_of}
use Rattle.scatter.specs.LowDiscrepancy.{pack_scatter}
use Rattle.scatter.specs.Passes.{no_marks, unbounded, scatter_at}
use Rattle.scatter.specs.Sites.{Boxed}
use Rattle.scatter.proofs.low.pack_low_discrepancy_piece.Goals as goal

pub returns-then-n-eq0 : goal.returns-then-n-eq0
unfolding written flat
returns-then-n-eq0 c =
    let a = c.args in
    let e = sym (no_marks a.anchor (rings_of a.piece) a.n a.ctx a.obstacles.now c.if-n-eq0.true) in
    (ap length e, ap (λ (ps : List Point). written (flat ps) a.spots.now) e)

pub returns-in_default : goal.returns-in_default
unfolding written flat
returns-in_default c =
    let a = c.args in
    let none : c.piece_bounds.result ≡ None = search rules in
    let e = sym (unbounded a.anchor (rings_of a.piece) a.n a.ctx a.obstacles.now c.if-n-eq0.false (sym c.piece_bounds.ensures ∙ none)) in
    (ap length e, ap (λ (ps : List Point). written (flat ps) a.spots.now) e)

pub returns : goal.returns
returns c =
    let a = c.args in
    let s = c.of.result in
    let e = c.of.ensures in
    let near = a.obstacles.now in
    let boxed : Boxed s = rw (e.piece, e.extents) (sym c.piece_bounds.ensures ∙ c.in-Some.is) in
    let same : pack_scatter a.anchor (rings_of s.piece) s.n s.ctx near ≡ pack_scatter a.anchor (rings_of a.piece) a.n a.ctx near = rw (e.piece, e.n, e.ctx) in
    rw (scatter_at s a.anchor near (rw e.n c.if-n-eq0.false) boxed e.near, same) at c.passes.ensures
