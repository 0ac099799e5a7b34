-- `put_ring` meets its contract. The invariant: behind those from before are the crossings of the edges visited so far.
-- Rests on the laws of crossings written one after another.
use Rattle.std.proofs.Common.{◌≡◌, ◌++◌, length, take, refl, ap, ◌∙◌, add-one, arith}
use Rattle.glyphs.specs.declared.rect.Point.{Point}
use Rattle.glyphs.specs.Points.{x_at, y_at}
use Rattle.regions.specs.Ring.{prev}
use Rattle.lattice.specs.Crossings.{crossing_if, ring_next, ring_start, ring_few, ring_whole}
use Rattle.lattice.proofs.crossings.put_ring.Goals as goal

pub returns-then-n-lt3 : goal.returns-then-n-lt3
returns-then-n-lt3 c = (c.requires, ring_few _ _ _ c.if-n-lt3.true)

pub loop-vertex-init : goal.loop-vertex-init
unfolding prev
loop-vertex-init c = (refl, c.requires, ring_start _ _ _ _)

pub loop-vertex-preserved : goal.loop-vertex-preserved
unfolding prev
loop-vertex-preserved c =
    let l = c.loop-vertex in
    let a = c.args in
    let ring = a.ring.now in
    let i = l.vertex-index in
    let x = x_at ring i in
    let y = y_at ring i in (
      rw (add-one i) refl,
      c.in_ok-c.ensures.0,
      ring_next a.y ring (length ring) i (take a.start a.crossings.now) (take l.c l.crossings) _ l.invariant.2
          (c.in_ok-c.ensures.1 ∙ ap (λ (p : Point). take l.c l.crossings ++ crossing_if a.y x y p.x p.y) l.invariant.0),
    )

pub returns : goal.returns
returns c =
    let l = c.loop-vertex in
    let e : l.vertex-index ≡ length c.args.ring.now = omega arith in
    (l.invariant.1, l.invariant.2 ∙ rw (e, ring_whole _ _ c.if-n-lt3.false))
