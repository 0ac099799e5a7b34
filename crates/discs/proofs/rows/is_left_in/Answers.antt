-- `is_left_in` is the definition's test.
-- Assumes nothing.
use Rattle.std.proofs.Common.{refl}
use Rattle.discs.specs.Floor.{row_is_left_in}
use Rattle.discs.proofs.rows.is_left_in.Goals as goal

pub returns : goal.returns
unfolding row_is_left_in
returns c = refl
