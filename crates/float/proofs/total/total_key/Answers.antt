-- `float::total_key` meets its contract: the key of a NaN is a constant, and any other value's is made of its pattern.
-- Rests on `Laws/Nan.antt` and `Laws/Total.antt`.
use Rattle.std.proofs.Common.{sym, ◌∙◌, arith}
use lib.Ieee.{binary64}
use lib.Ieee.Bits.{to_bits-lt}
use Rattle.laws.specs.Truth.{yes, no}
use Rattle.laws.specs.Choice.{picks}
use Rattle.float.specs.Total.{total_key}
use Rattle.float.specs.Laws.Nan.{is_the_nan}
use Rattle.float.specs.Laws.Total.{nan_key}
use Rattle.float.proofs.total.total_key.Goals as goal

pub float_to_bits-bits : goal.float_to_bits-bits
float_to_bits-bits c = no (sym c.is_nan.ensures.value ∙ c.if-is_nan.false)

pub overflow_sub-result : goal.overflow_sub-result
overflow_sub-result c = omega (arith, to_bits-lt binary64 c.args.x (yes c.well_formed.0.1))

pub returns-then-is_nan : goal.returns-then-is_nan
returns-then-is_nan c = rw (is_the_nan _ (sym c.is_nan.ensures.value ∙ c.if-is_nan.true)) (sym nan_key)

pub returns-then-bits-ge9223372036854775808 : goal.returns-then-bits-ge9223372036854775808
unfolding total_key
returns-then-bits-ge9223372036854775808 c = search picks

pub returns-else-bits-ge9223372036854775808 : goal.returns-else-bits-ge9223372036854775808
unfolding total_key
returns-else-bits-ge9223372036854775808 c = search picks
