-- `float::total_less` meets its contract: it compares the two keys.
-- Rests on the contract of `total_key`.
use Rattle.std.proofs.Common.{rules}
use Rattle.float.specs.Total.{total_less}
use Rattle.float.proofs.total.total_less.Goals as goal

pub total_key-requires : goal.total_key-requires
total_key-requires c = search rules

pub returns : goal.returns
unfolding total_less
returns c = rw (c.total_key.ensures, c.total_key-2.ensures)
