-- `piece_area` meets its contract. The invariant: the answer is that of the holes which are left, from `holes` on.
-- Rests on what the iterator yields.
use Rattle.regions.specs.Area.{area_sum, piece_area, minus_zero}
use Rattle.regions.proofs.area.piece_area.Goals as goal

pub loop-hole-init : goal.loop-hole-init
unfolding piece_area
loop-hole-init c = (
  tt,
  tt,
  rw (
    c.into_iter-hole-iterator.ensures.into_iter_gives,
    c.holes-hole-items.ensures,
    ← c.outer.ensures.ring,
    ← c.shoelace_area-outer.ensures,
    minus_zero,
  ),
)

pub loop-hole-preserved : goal.loop-hole-preserved
unfolding area_sum
loop-hole-preserved c = (tt, tt, rw (c.loop-hole.invariant.2, c.in-Some.ensures.steps, c.shoelace_area-holes.ensures))

pub returns : goal.returns
unfolding area_sum
returns c = rw (c.loop-hole.invariant.2, c.in-None.ensures.steps.0) (cc)
