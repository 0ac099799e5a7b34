-- `deepest_point` meets its contract: none without bounds, else the search within them.
-- Rests on the contracts of the bounds and the search.
use Rattle.std.proofs.Common.{le-ltb, lt-ltb}
use Rattle.deepest.specs.Deepest.{deepest_point}
use Rattle.deepest.proofs.search.deepest_point.Goals as goal

pub returns-then-outer-lt3 : goal.returns-then-outer-lt3
unfolding deepest_point
returns-then-outer-lt3 c = rw (← c.outer-outer.ensures.ring, lt-ltb _ _ c.if-outer-lt3.true)

pub returns-then-width-height : goal.returns-then-width-height
unfolding deepest_point
returns-then-width-height c = rw (← c.outer-outer.ensures.ring, le-ltb _ _ c.if-outer-lt3.false, ← c.ring_extents-bounds.ensures, c.if-width-height.true)

pub returns : goal.returns
unfolding deepest_point
returns c =
    rw (
      ← c.outer-outer.ensures.ring,
      le-ltb _ _ c.if-outer-lt3.false,
      ← c.ring_extents-bounds.ensures,
      c.if-width-height.false,
      ← c.min-side.ensures,
      ← c.as_chunks_mut-rows.ensures.front_len,
    )
    c.search.ensures
