-- `no_weight` says whether a total is NaN or not above zero.
-- Rests on what the library's test for a NaN ensures.
use Rattle.glyphs.specs.Apportion.{no_weight}
use Rattle.glyphs.proofs.quotas.no_weight.Goals as goal

pub returns : goal.returns
unfolding no_weight
returns c = rw c.is_nan.ensures.value
