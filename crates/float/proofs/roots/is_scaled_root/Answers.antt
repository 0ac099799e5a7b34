-- `float::is_scaled_root` meets its contract: a pattern with the nearest whole number's digits under the exponent's field is the root's.
-- Rests on `Scaled.antt` and the contract of `is_nearest`.
use Rattle.float.proofs.roots.Scaled.{moved_lt, from_pattern}
use Rattle.float.proofs.roots.is_scaled_root.Goals as goal

pub returns-then-pattern-field : goal.returns-then-pattern-field
returns-then-pattern-field c t = absurd t

pub returns-then-r-ge18014398509481984 : goal.returns-then-r-ge18014398509481984
returns-then-r-ge18014398509481984 c t = absurd t

pub is_nearest-requires : goal.is_nearest-requires
is_nearest-requires c =
    record { digits = moved_lt c.args.m c.args.g c.requires.low c.requires.high; root = c.if-r-ge18014398509481984.false }

pub returns : goal.returns
returns c t =
    from_pattern c.args.m c.args.g c.requires.low c.requires.high c.args.pattern c.if-pattern-field.false c.requires.places (c.is_nearest.ensures t)
