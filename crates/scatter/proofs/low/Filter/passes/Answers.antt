-- `passes` meets its contract: the second pass is made where obstacles are near and not walls.
-- Rests on the laws of both passes, and of a second run over what a first has placed.
use mathlib.Core.Path.{sym, ap, ◌∙◌}
use mathlib.Core.Bool.{true, false}
use mathlib.Core.List.{List, []}
use native.Mathlib.Omega.{arith}
use lib.ListN.{length}
use Rattle.glyphs.specs.declared.rect.Point.{Point}
use Rattle.laws.specs.Lists.{written}
use Rattle.glyphs.specs.Spots.{flat}
use Rattle.scatter.specs.LowDiscrepancy.{budget}
use Rattle.scatter.specs.Passes.{pass_at, pass_counts, once, twice}
use Rattle.scatter.specs.Placed.{run_on, written_on}
use Rattle.scatter.proofs.low.Filter.passes.Goals as goal

pub returns-then-ends_first : goal.returns-then-ends_first
returns-then-ends_first c =
    let s = c.args.self.now in
    rw (once s.site s.anchor (sym c.ends_first.ensures ∙ c.if-ends_first.true)) at c.pass-first.ensures

pub pass-requires : goal.pass-requires
pass-requires c =
    let s = c.args.self.now in
    let ps = pass_at s.site s.anchor true (budget s.site.n) 0 [] in
    let most = (pass_counts s.site s.anchor true (budget s.site.n) 0 [] (omega arith)).1 in
    (omega (arith, c.pass-first.ensures.0, most), omega (arith, c.pass-first.auto.spots, c.requires))

pub returns : goal.returns
returns c =
    let s = c.args.self.now in
    let l = c.args.spots.now in
    let ps = pass_at s.site s.anchor true (budget s.site.n) 0 [] in
    let next : List Point → List Point = pass_at s.site s.anchor false (budget s.site.n) 0 in
    let both = twice s.site s.anchor (sym c.ends_first.ensures ∙ c.if-ends_first.false) in
    let more = (pass_counts s.site s.anchor false (budget s.site.n) 0 ps (pass_counts s.site s.anchor true (budget s.site.n) 0 [] (omega arith)).1).0 in (
      c.pass.ensures.0 ∙ ap length (run_on ps l _ _ c.pass-first.ensures.0 c.pass-first.ensures.1 next ∙ both),
      c.pass.ensures.1 ∙ written_on ps l _ _ c.pass-first.ensures.0 c.pass-first.ensures.1 next more ∙ ap (λ (rs : List Point). written (flat rs) l) both,
    )
