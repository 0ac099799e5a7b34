-- `clear` sets all to +0.
-- Rests on what `fill` ensures.
use mathlib.Core.Path.{◌∙◌}
use Rattle.plan.proofs.clear.clear.Goals as goal

pub returns : goal.returns
returns c = c.fill.ensures.after (λ y h. h) ∙ rw c.told-work
