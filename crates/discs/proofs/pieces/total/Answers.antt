-- `total` meets its contract: the kit's sum is the definition's.
-- Rests on the kit's laws of sums over slices.
use Rattle.std.proofs.Common.{◌<◌, ◌^◌, ◌∙◌}
use Rattle.std.proofs.lemmas.Iterator.{YieldsList-from_slice}
use Rattle.std.proofs.lemmas.Iterator.Consumers.{sum_from_yields_List, fits_from_yields_list}
use Rattle.std.specs.List as kit
use Rattle.discs.proofs.Totals.{same_sum}
use Rattle.discs.proofs.pieces.total.Goals as goal

pub sum-requires-clause-fits : goal.sum-requires-clause-fits
sum-requires-clause-fits c =
    let fits : kit.sum c.args.counts.now < 2 ^ 64 = rw (same_sum c.args.counts.now) c.requires in
    fits_from_yields_list _ _ (YieldsList-from_slice c.args.counts.now c.iter.ensures.rest) fits

pub returns : goal.returns
returns c = sum_from_yields_List _ _ c.sum.ensures.ran (YieldsList-from_slice c.args.counts.now c.iter.ensures.rest) ∙ same_sum c.args.counts.now
