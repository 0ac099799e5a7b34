-- `dist_to_rect` meets its contract: a straight line of calls.
-- Rests on their contracts.
use Rattle.glyphs.specs.Rect.{dist_to_rect}
use Rattle.glyphs.proofs.rect.dist_to_rect.Goals as goal

pub returns : goal.returns
unfolding dist_to_rect
returns c = cc
