-- `Site::of` meets its contract: the margin is that of the inset.
-- Rests on the laws of a margin.
use mathlib.Core.Path.{◌∙◌}
use Rattle.regions.specs.Margins.{least_of_margin}
use Rattle.scatter.proofs.site.Site.of.Goals as goal

pub invariant_of-result : goal.invariant_of-result
invariant_of-result c = record { at_inset = least_of_margin _ _ c.of.ensures ∙ c.inset-inset.ensures }
