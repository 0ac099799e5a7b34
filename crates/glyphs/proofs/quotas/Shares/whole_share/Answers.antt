-- `whole_share` is the whole part of the share.
-- Rests on what `share`, `floor` and `as_usize` ensure.
use Rattle.glyphs.specs.Apportion.{whole_share}
use Rattle.glyphs.proofs.quotas.Shares.whole_share.Goals as goal

pub returns : goal.returns
unfolding whole_share
returns c = cc
