-- `is_sane` meets its contract: the rule of `sanitize_obstacles` for one obstacle.
-- Rests on the contract of `is_finite`.
use Rattle.glyphs.specs.Rect.{sane}
use Rattle.glyphs.proofs.rect.is_sane.Goals as goal

pub returns : goal.returns
unfolding sane
returns c = cc
