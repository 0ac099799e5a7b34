-- `throw_glyphs` meets its contract. The invariants: what is left of the pass ends as the whole pass, and the slice differs only in its first marks.
-- Rests on the laws of a turn of each loop.
use mathlib.Core.Path.{◌≡◌, refl, sym, ap, ◌∙◌}
use native.Mathlib.Omega.{arith}
use lib.ListN.{length}
use Rattle.scatter.proofs.Darts.{held_end, next_glyph, no_glyph, out_of_attempts, missed, landed}
use Rattle.scatter.specs.Placed.{Front, placed_same}
use Rattle.scatter.proofs.random.throw_glyphs.Goals as goal

pub glyphs-init : goal.glyphs-init
glyphs-init c =
    (c.requires.0, refl, placed_same c.args.start.count c.args.spots.now (omega (arith, c.requires.0, c.requires.1)), c.aim-ahead.ensures, refl)

pub loop-init : goal.loop-init
loop-init c =
    let g = c.glyphs in
    let a = c.args in
    (refl, g.invariant.3, sym (next_glyph a.site.now a.attempts a.honor g.count g.rng g.spots (omega arith)))

pub glyphs-preserved : goal.glyphs-preserved
glyphs-preserved c =
    let l = c.loop in
    let g = c.glyphs in
    let a = c.args in
    let same : length l.spots ≡ length a.spots.now = ap length l.invariant.0 ∙ g.invariant.1 in
    let front : Front g.count l.spots a.spots.now = rw l.invariant.0 g.invariant.2 in
    let e = landed a.site.now a.attempts a.honor l.counter g.count l.rng l.spots (omega arith) l.ahead l.invariant.1 _
    c.spots_before-placed.ensures _ c.lands.ensures _ a.spots.now c.if-lands.true c.put_spot.ensures same
    (omega (arith, c.glyphs-test.true, c.requires.1)) front in
    (omega (arith, c.glyphs-test.true), c.put_spot.auto.spots ∙ same, e.0, c.aim-ahead-in-loop.ensures, sym e.1 ∙ l.invariant.2 ∙ g.invariant.4)

pub loop-preserved : goal.loop-preserved
loop-preserved c =
    let l = c.loop in
    let g = c.glyphs in
    let a = c.args in
    let e = missed a.site.now a.attempts a.honor l.counter g.count l.rng l.spots (omega arith) l.ahead l.invariant.1 _
    c.spots_before-placed.ensures _ c.lands.ensures c.if-lands.false in
    (l.invariant.0, c.aim-ahead-in-loop.ensures, sym e ∙ l.invariant.2)

pub returns : goal.returns
returns c =
    let g = c.glyphs in
    let a = c.args in
    let n : g.count ≡ a.site.now.n = omega (arith, g.invariant.0, c.glyphs-test.false) in
    held_end a.site.now.n g.rng g.spots a.spots.now _ g.invariant.1 (rw n at g.invariant.2) (omega (arith, c.requires.1))
    (sym (no_glyph a.site.now a.attempts a.honor a.site.now.n g.rng g.spots (omega arith)) ∙ rw n at g.invariant.4)

pub returns-in-glyphs : goal.returns-in-glyphs
returns-in-glyphs c =
    let l = c.loop in
    let g = c.glyphs in
    let a = c.args in
    let front : Front g.count l.spots a.spots.now = rw l.invariant.0 g.invariant.2 in
    held_end g.count l.rng l.spots a.spots.now _ (ap length l.invariant.0 ∙ g.invariant.1) front (omega (arith, c.glyphs-test.true, c.requires.1))
    (sym (out_of_attempts a.site.now a.attempts a.honor l.counter g.count l.rng l.spots (omega arith)) ∙ l.invariant.2 ∙ g.invariant.4)
