-- `float::abs` meets its contract: the pattern without its sign is that of the value without its sign.
-- Rests on `Laws/Nan.antt` and `Laws/Pattern.antt`.
use Rattle.std.proofs.Common.{T, refl, sym, ap, ◌∙◌}
use lib.Ieee.{binary64, fits, of_bits}
use lib.Ieee.Bits.{of_bits-to_bits}
use Rattle.laws.specs.Truth.{yes, no}
use Rattle.float.specs.Order.{abs}
use Rattle.float.specs.Laws.Nan.{is_the_nan}
use Rattle.float.specs.Laws.Pattern.{abs_fits, abs_pattern, pattern_number}
use Rattle.float.proofs.order.abs.Goals as goal
use Rattle.float.proofs.order.abs.Goals.{Start}

-- what owning an `f64` tells: the format holds it
held : (c : Start) → T (fits binary64 c.args.x)
held c = yes c.well_formed.0.1

pub float_to_bits-result : goal.float_to_bits-result
float_to_bits-result c = no (sym c.is_nan.ensures.value ∙ c.if-is_nan.false)

pub float_from_bits-result : goal.float_from_bits-result
float_from_bits-result c = pattern_number c.args.x (held c.before.before) (no (sym c.is_nan.ensures.value ∙ c.if-is_nan.false))

pub returns-then-is_nan : goal.returns-then-is_nan
returns-then-is_nan c = rw (is_the_nan _ (sym c.is_nan.ensures.value ∙ c.if-is_nan.true)) (unfold abs in refl)

pub returns-else-is_nan : goal.returns-else-is_nan
returns-else-is_nan c =
    let x = c.args.x in
    ap (of_bits binary64) (abs_pattern x (held c.before.before) (no (sym c.is_nan.ensures.value ∙ c.if-is_nan.false)))
    ∙ of_bits-to_bits binary64 (abs x) (abs_fits x (held c.before.before))
