-- `size_of` meets its contract.
-- Rests on what `unwrap_or` ensures.
use Rattle.plan.specs.Sized.{size_of}
use Rattle.plan.proofs.floor.size_of.Goals as goal

pub returns : goal.returns
unfolding size_of
returns c = c.unwrap_or.ensures
