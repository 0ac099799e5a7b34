-- `float::negate_unless` meets its contract: the pattern with its sign turned over is that of the opposite.
-- Rests on `Laws/Nan.antt` and `Laws/Sign.antt`.
use Rattle.std.proofs.Common.{◌≡◌, Bool, true, false, cond, T, refl, sym, ◌∙◌}
use lib.Ieee.{nan, binary64, fits, neg}
use lib.Ieee.Bits.{of_bits-to_bits}
use Rattle.laws.specs.Truth.{yes, no}
use Rattle.float.specs.Laws.Nan.{is_the_nan}
use Rattle.float.specs.Laws.Sign.{turned_pattern, turned_fits, turned_no_nan}
use Rattle.float.proofs.order.negate_unless.Goals as goal
use Rattle.float.proofs.order.negate_unless.Goals.{Start}

-- what owning an `f64` tells: the format holds it
held : (c : Start) → T (fits binary64 c.args.x)
held c = yes c.well_formed.0.1

same : (b : Bool) → nan ≡ cond b nan (neg nan)
unfolding neg
same true = refl
same false = refl

pub float_to_bits-bits : goal.float_to_bits-bits
float_to_bits-bits c = no (sym c.is_nan.ensures.value ∙ c.if-is_nan.false)

pub float_from_bits-result : goal.float_from_bits-result
float_from_bits-result c =
    rw c.sign_bit.ensures (turned_no_nan c.args.x c.args.keep (held c.before.before.before) (no (sym c.is_nan.ensures.value ∙ c.if-is_nan.false)))

pub returns-then-is_nan : goal.returns-then-is_nan
returns-then-is_nan c = rw (is_the_nan _ (sym c.is_nan.ensures.value ∙ c.if-is_nan.true)) (same c.args.keep)

pub returns-else-is_nan : goal.returns-else-is_nan
returns-else-is_nan c =
    rw (c.sign_bit.ensures, turned_pattern c.args.x c.args.keep (held c.before.before.before) (no (sym c.is_nan.ensures.value ∙ c.if-is_nan.false)))
    (of_bits-to_bits binary64 _ (turned_fits c.args.x c.args.keep (held c.before.before.before)))
