-- `remainder_key` is the key of the share's fraction.
-- Rests on what `share`, `floor` and `total_key` ensure.
use Rattle.glyphs.specs.Apportion.{remainder}
use Rattle.glyphs.proofs.quotas.Shares.remainder_key.Goals as goal

pub returns : goal.returns
unfolding remainder
returns c = cc
