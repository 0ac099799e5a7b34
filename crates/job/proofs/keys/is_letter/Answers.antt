-- `is_letter` is the definition's test.
-- Rests on the kit's letters and digits being its.
use mathlib.Core.Path.{◌∙◌}
use Rattle.job.proofs.Letters.{letter_is}
use Rattle.job.proofs.keys.is_letter.Goals as goal

pub returns : goal.returns
returns c = c.is_ascii_alphanumeric.ensures.value ∙ letter_is c.args.byte
