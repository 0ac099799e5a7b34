-- `put` meets its contract: a row written.
-- Rests on the cell's numbers being patterns of floats that are no NaN.
use Rattle.std.proofs.Common.{refl, arith}
use Rattle.float.specs.Laws.Pattern.{no_nan}
use Rattle.deepest.specs.Cells.{put_cell, row_of}
use Rattle.deepest.proofs.queue.put.Goals as goal

pub float_from_bits-halvings : goal.float_from_bits-halvings
float_from_bits-halvings c = no_nan c.args.c.halvings (omega (arith, c.requires.1.few))

pub float_from_bits-entry : goal.float_from_bits-entry
float_from_bits-entry c = no_nan c.args.c.entry (omega (arith, c.requires.1.early))

pub returns : goal.returns
unfolding put_cell row_of
returns c = refl
