-- `unrooted_clearance` meets its contract: the root is taken outside only.
-- Rests on the law that this is what the definition says.
use mathlib.Core.Path.{◌∙◌}
use Rattle.regions.specs.Unrooted.{rooted_outside}
use Rattle.regions.proofs.unrooted.unrooted_clearance.Goals as goal

pub returns : goal.returns
returns c = c.clearance.ensures ∙ rooted_outside _ _ _
