-- `ring_bounds` meets its contract: the extents where both are above 0.
-- Rests on the contract of `ring_extents`.
use Rattle.std.proofs.Common.{le-ltb, lt-ltb}
use Rattle.glyphs.specs.Bounds.{box_of, ring_bounds}
use Rattle.glyphs.proofs.bounds.ring_bounds.Goals as goal

pub returns-then-ring-lt3 : goal.returns-then-ring-lt3
unfolding ring_bounds box_of
returns-then-ring-lt3 c = rw (lt-ltb _ _ c.if-ring-lt3.true)

pub returns-then-bounds : goal.returns-then-bounds
unfolding ring_bounds box_of
returns-then-bounds c = rw (le-ltb _ _ c.if-ring-lt3.false, ← c.ring_extents-bounds.ensures, c.if-bounds.true)

pub returns : goal.returns
unfolding ring_bounds box_of
returns c = rw (le-ltb _ _ c.if-ring-lt3.false, ← c.ring_extents-bounds.ensures, c.if-bounds.false)
