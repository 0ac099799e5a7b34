-- `is_finite` meets its contract.
-- Rests on the library's test being that of the definition.
use Rattle.std.proofs.Common.{◌∙◌}
use Rattle.glyphs.specs.Rect.{finite_test}
use Rattle.glyphs.proofs.rect.is_finite.Goals as goal

pub returns : goal.returns
returns c = c.is_finite.ensures.value ∙ finite_test _
