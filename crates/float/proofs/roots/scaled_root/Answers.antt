-- `float::scaled_root` meets its contract: the nearest whole number's digits under the exponent's field are the root's pattern.
-- Rests on `Scaled.antt` and the contract of `digit_root`.
use Rattle.std.proofs.Common.{◌+◌, ◌*◌, ◌/◌, ◌%◌, ◌^◌, ◌≤◌, arith}
use Rattle.float.specs.Laws.Pattern.{no_nan}
use Rattle.float.proofs.roots.Scaled.{at_most, moved_le, moved_lt, from_digits}
use Rattle.float.proofs.roots.scaled_root.Goals as goal
use Rattle.float.proofs.roots.scaled_root.Goals.{After-digit_root}

-- the digits found are at most 2 ^ 53
most : (c : After-digit_root) → c.digit_root.result ≤ 2 ^ 53
most c =
    at_most (c.args.m * 2 ^ (c.args.g % 2) % 2 ^ 64) c.digit_root.result (moved_lt c.args.m c.args.g c.requires.low c.requires.high) c.digit_root.ensures

pub digit_root-requires : goal.digit_root-requires
digit_root-requires c =
    record { low = moved_le c.args.m c.args.g c.requires.low c.requires.high; high = moved_lt c.args.m c.args.g c.requires.low c.requires.high }

pub overflow_add-result : goal.overflow_add-result
overflow_add-result c = omega (arith, most c)

pub float_from_bits-result : goal.float_from_bits-result
float_from_bits-result c = no_nan (c.args.g / 2 * 2 ^ 52 + c.digit_root.result) (omega (arith, most c))

pub returns : goal.returns
returns c =
    from_digits c.args.m c.args.g c.requires.low c.requires.high c.digit_root.result c.requires.places c.digit_root.ensures
