-- `ring_extents` meets its contract. The invariant: each extent is that of the vertices so far.
-- Rests on the contracts of `min` and `max`.
use Rattle.std.proofs.Common.{le_antisymm, add-one}
use Rattle.glyphs.specs.Bounds.{extent, extents_of, infinite, minus_infinite}
use Rattle.glyphs.proofs.bounds.ring_extents.Goals as goal

pub loop-p-init : goal.loop-p-init
unfolding extent
loop-p-init c = (rw infinite, rw minus_infinite, rw infinite, rw minus_infinite)

pub loop-p-preserved : goal.loop-p-preserved
unfolding extent
loop-p-preserved c = (rw add-one (cc), rw add-one (cc), rw add-one (cc), rw add-one (cc))

pub returns : goal.returns
unfolding extents_of
returns c = cc (le_antisymm c.loop-p.auto.p-index-end c.loop-p-test.false)
