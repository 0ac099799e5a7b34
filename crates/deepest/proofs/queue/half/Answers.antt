-- `half` meets its contract: an entry of the table, and a NaN past its end.
-- Rests on what a list reads past its end.
use Rattle.std.proofs.Common.{le_refl}
use Rattle.std.specs.Float.Ieee.{nan, of_bits}
use Rattle.deepest.proofs.queue.half.Goals as goal

pub returns : goal.returns
unfolding of_bits
returns c = rw (c.unwrap_or.ensures, c.copied.ensures) (c.get.ensures.lookup.4 (le_refl c.args.k) nan)
