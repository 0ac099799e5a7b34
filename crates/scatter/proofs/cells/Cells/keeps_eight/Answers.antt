-- `keeps_eight` meets its contract: eight spots that are far enough need no cells.
-- Rests on the law of spots that are all far enough.
use Rattle.std.proofs.Common.{sym, ◌∙◌}
use Rattle.scatter.specs.Cells.{all_far}
use Rattle.scatter.proofs.cells.Cells.keeps_eight.Goals as goal

pub returns-then-apart_from_eight : goal.returns-then-apart_from_eight
returns-then-apart_from_eight c =
    c.if-apart_from_eight.true ∙ sym (all_far _ _ _ (sym c.apart_from_eight.ensures ∙ c.if-apart_from_eight.true))

pub returns-else-apart_from_eight : goal.returns-else-apart_from_eight
returns-else-apart_from_eight c = c.keeps_each.ensures
