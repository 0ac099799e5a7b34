-- `throw_passes` meets its contract: the first pass, and the second one from where it ends.
-- Rests on the laws of the two passes.
use mathlib.Core.Path.{sym, ◌∙◌}
use native.Mathlib.Omega.{arith}
use Rattle.scatter.proofs.Darts.{few_first, one_pass, second_pass}
use Rattle.scatter.proofs.random.throw_passes.Goals as goal

pub returns-then-ends_first : goal.returns-then-ends_first
returns-then-ends_first c =
    let first = c.throw_glyphs-first in
    let a = c.args in
    rw (one_pass a.site.now a.attempts a.rng a.spots.now (sym c.ends_first.ensures ∙ c.if-ends_first.true)) first.ensures

pub throw_glyphs-requires : goal.throw_glyphs-requires
throw_glyphs-requires c =
    let a = c.args in
    let first = c.throw_glyphs-first in
    (omega (arith, first.ensures.0, few_first a.site.now a.attempts a.rng a.spots.now), omega (arith, c.requires, first.auto.spots))

pub returns : goal.returns
returns c =
    let first = c.throw_glyphs-first in
    let a = c.args in
    second_pass a.site.now a.attempts a.rng a.spots.now _ _ _ _ (sym c.ends_first.ensures ∙ c.if-ends_first.false) first.ensures c.throw_glyphs.ensures
