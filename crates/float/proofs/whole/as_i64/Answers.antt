-- `float::as_i64` meets its contract: in range the value is cut, beyond it the cast is the range's end, and 0 for a NaN.
-- Rests on `Casts.antt` and the contract of the kit's cut.
use lib.Ieee.{of_bits, neg}
use Rattle.std.proofs.Common.{rules}
use Rattle.laws.specs.Truth.{yes, no}
use Rattle.float.proofs.whole.Casts.{signed_high, signed_low, signed_none}
use Rattle.float.proofs.whole.as_i64.Goals as goal

pub truncating_f64_to_i64-requires : goal.truncating_f64_to_i64-requires
unfolding of_bits neg
truncating_f64_to_i64-requires c = record { lower_bound = yes c.if-x.true; upper_bound = yes c.if-x-2.true }

pub returns-then-x-2 : goal.returns-then-x-2
returns-then-x-2 c = search rules

pub returns-else-x-2 : goal.returns-else-x-2
unfolding of_bits neg
returns-else-x-2 c = signed_high c.args.x (yes c.if-x.true) (no c.if-x-2.false)

pub returns-then-x-3 : goal.returns-then-x-3
unfolding of_bits neg
returns-then-x-3 c = signed_low c.args.x (no c.if-x.false) (yes c.if-x-3.true)

pub returns-else-x-3 : goal.returns-else-x-3
unfolding of_bits neg
returns-else-x-3 c = signed_none c.args.x (no c.if-x.false) (no c.if-x-3.false)
