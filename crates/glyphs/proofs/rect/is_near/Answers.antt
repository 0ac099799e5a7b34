-- `is_near` meets its contract: the near rule for one obstacle.
-- Rests on nothing but the definition.
use Rattle.std.proofs.Common.{refl}
use Rattle.glyphs.specs.Rect.{near}
use Rattle.glyphs.proofs.rect.is_near.Goals as goal

pub returns : goal.returns
unfolding near
returns c = refl
