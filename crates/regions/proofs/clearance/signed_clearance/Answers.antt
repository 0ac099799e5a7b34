-- `signed_clearance` meets its contract: the root is always taken.
-- Rests on the law that the root of the least square is the least distance.
use mathlib.Core.Path.{◌∙◌}
use Rattle.regions.specs.Unrooted.{always_rooted}
use Rattle.regions.proofs.clearance.signed_clearance.Goals as goal

pub returns : goal.returns
returns c = c.clearance.ensures ∙ always_rooted _ _ _
