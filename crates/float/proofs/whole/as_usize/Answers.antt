-- `float::as_usize` meets its contract: in range the value is cut, and beyond it the cast is the range's end.
-- Rests on `Casts.antt` and the contract of the kit's cut.
use lib.Ieee.{of_bits, neg}
use Rattle.std.proofs.Common.{rules}
use Rattle.laws.specs.Truth.{yes, no}
use Rattle.float.proofs.whole.Casts.{unsigned_high, unsigned_none}
use Rattle.float.proofs.whole.as_usize.Goals as goal

pub truncating_f64_to_u64-requires : goal.truncating_f64_to_u64-requires
unfolding of_bits neg
truncating_f64_to_u64-requires c = record { lower_bound = yes c.if-x.true; upper_bound = yes c.if-x-2.true }

pub returns-then-x-2 : goal.returns-then-x-2
returns-then-x-2 c = search rules

pub returns-else-x-2 : goal.returns-else-x-2
unfolding of_bits neg
returns-else-x-2 c = unsigned_high c.args.x (yes c.if-x.true) (no c.if-x-2.false)

pub returns-else-x : goal.returns-else-x
unfolding of_bits neg
returns-else-x c = unsigned_none c.args.x (no c.if-x.false)
