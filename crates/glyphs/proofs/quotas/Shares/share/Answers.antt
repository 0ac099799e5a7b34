-- `share` is the source's product of the count and the held quotient.
-- Rests on what `max` ensures.
use Rattle.std.proofs.Common.{rules}
use Rattle.laws.specs.Casts.{in_float_lem}
use Rattle.glyphs.specs.Apportion.{share}
use Rattle.glyphs.proofs.quotas.Shares.share.Goals as goal

pub int_to_float-result : goal.int_to_float-result
int_to_float-result c = in_float_lem _ (search rules)

pub returns : goal.returns
unfolding share
returns c = cc
