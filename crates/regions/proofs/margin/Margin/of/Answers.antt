-- `Margin::of` meets its contract: there is but one margin of a clearance.
-- Rests on the contracts of `low_square` and `high_square`.
use Rattle.regions.specs.Margins.{own_margin}
use Rattle.regions.proofs.margin.Margin.of.Goals as goal

pub returns : goal.returns
returns c = own_margin _
