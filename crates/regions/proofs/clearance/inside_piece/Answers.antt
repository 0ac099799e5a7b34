-- `inside_piece` meets its contract. The invariant: the answer is that of the holes which are left.
-- Rests on what the iterator yields, and on the law of a piece without holes.
use mathlib.Core.Bool.{and-true}
use mathlib.Core.Path.{◌≡◌}
use native.Mathlib.Omega.{arith}
use lib.ListN.{length}
use Rattle.regions.specs.Ring.{outer, holes}
use Rattle.regions.specs.Pieces.{alone}
use Rattle.regions.specs.Clearance.{in_any, within}
use Rattle.regions.proofs.clearance.inside_piece.Goals as goal

pub returns-then-piece-eq1 : goal.returns-then-piece-eq1
unfolding within outer holes in_any
returns-then-piece-eq1 c =
    let p = c.args.piece in
    let one : length p.sizes.now ≡ 1 = omega (arith, c.if-piece-eq1.true) in
    rw (alone p.sizes.now p.points.now one, and-true, ← c.outer.ensures.ring) c.point_in_polygon-inside.ensures

pub returns-then-not-inside : goal.returns-then-not-inside
unfolding within
returns-then-not-inside c = rw (← c.outer.ensures.ring, ← c.point_in_polygon-inside.ensures, c.if-not-inside.true)

pub loop-hole-init : goal.loop-hole-init
unfolding within
loop-hole-init c = (
  tt,
  tt,
  rw (
    ← c.outer.ensures.ring,
    ← c.point_in_polygon-inside.ensures,
    c.if-not-inside.false,
    c.into_iter-hole-iterator.ensures.into_iter_gives,
    c.holes-hole-items.ensures,
  ),
)

pub returns-then-point_in_polygon : goal.returns-then-point_in_polygon
unfolding in_any
returns-then-point_in_polygon c = rw (c.loop-hole.invariant.2, c.in-Some.ensures.steps, ← c.point_in_polygon.ensures, c.if-point_in_polygon.true)

pub loop-hole-preserved : goal.loop-hole-preserved
unfolding in_any
loop-hole-preserved c = (tt, tt, rw (c.loop-hole.invariant.2, c.in-Some.ensures.steps, ← c.point_in_polygon.ensures, c.if-point_in_polygon.false))

pub returns : goal.returns
unfolding in_any
returns c = rw (c.loop-hole.invariant.2, c.in-None.ensures.steps.0)
