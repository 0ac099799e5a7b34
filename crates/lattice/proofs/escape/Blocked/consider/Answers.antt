-- `consider` meets its contract: the source's tests.
-- Rests on the contracts of its calls.
use Rattle.lattice.specs.Escape.{consider}
use Rattle.lattice.proofs.escape.Blocked.consider.Goals as goal

pub returns-then-not-clear_of_obstacles : goal.returns-then-not-clear_of_obstacles
unfolding consider
returns-then-not-clear_of_obstacles c = rw (← c.clear_of_obstacles.ensures, c.if-not-clear_of_obstacles.true)

pub returns-then-signed_clearance-self : goal.returns-then-signed_clearance-self
unfolding consider
returns-then-signed_clearance-self c =
    rw (← c.clear_of_obstacles.ensures, c.if-not-clear_of_obstacles.false, ← c.signed_clearance.ensures, c.if-signed_clearance-self.true)

pub returns : goal.returns
unfolding consider
returns c =
    rw (
      ← c.clear_of_obstacles.ensures,
      c.if-not-clear_of_obstacles.false,
      ← c.signed_clearance.ensures,
      c.if-signed_clearance-self.false,
      ← c.squared_distance-square.ensures,
    )
    c.nearest.ensures
