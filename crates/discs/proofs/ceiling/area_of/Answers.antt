-- `area_of` meets its contract. The invariant: the answer is that of the pieces left, from `area` on.
-- Rests on the definition alone.
use Rattle.std.proofs.Common.{sym, ◌∙◌}
use Rattle.regions.specs.Area.{minus_zero}
use Rattle.discs.specs.Radius.{area_of}
use Rattle.discs.proofs.ceiling.area_of.Goals as goal

pub loop-piece-init : goal.loop-piece-init
unfolding area_of
loop-piece-init c = rw (c.into_iter-piece-iterator.ensures.into_iter_gives, minus_zero)

pub loop-piece-preserved : goal.loop-piece-preserved
loop-piece-preserved c = c.loop-piece.invariant ∙ rw (c.in-Some.ensures.steps, c.piece_area-area.ensures)

pub returns : goal.returns
returns c = sym (c.loop-piece.invariant ∙ rw c.in-None.ensures.steps.0)
