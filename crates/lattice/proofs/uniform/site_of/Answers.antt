-- `site_of` meets its contract: the piece, the margin of the inset and the obstacles near.
-- Rests on the laws of a margin.
use Rattle.std.proofs.Common.{◌∙◌}
use Rattle.regions.specs.Margins.{least_of_margin}
use Rattle.lattice.proofs.uniform.site_of.Goals as goal

pub returns-clause-least : goal.returns-clause-least
returns-clause-least c = least_of_margin _ _ c.of.ensures ∙ c.inset-inset.ensures
