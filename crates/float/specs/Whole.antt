-- `f64`'s floor and ceil, and the casts of their results to integers. Definitions only.
use Rattle.std.specs.Prelude.{ℕ, zero, suc, ◌+◌, ◌-◌, ◌*◌, ◌/◌, true, false, ℤ, pos, Float}
use Rattle.std.specs.Float.{nan, inf, fin, binary64}
use Rattle.std.specs.Float.Ieee.{up, down, neg, round, of_int, to_signed, to_unsigned}

-- the greatest whole number at most x
unfoldable pub floor : Float → Float
floor nan = nan
floor (inf s) = inf s
floor (fin s zero e) = fin s zero e
floor (fin false (suc m) e) = round binary64 false (suc m * up e / down e) 1
floor (fin true (suc m) e) = round binary64 true ((suc m * up e + down e - 1) / down e) 1

-- the least whole number at least x
unfoldable pub ceil : Float → Float
unfolding floor
ceil x = neg (floor (neg x))

-- `as i64` and `as usize`: toward zero, saturating, NaN 0
abbrev pub as_i64 : Float → ℤ
as_i64 x = to_signed 63 x

abbrev pub as_usize : Float → ℕ
as_usize x = to_unsigned 64 x

-- `as f64` of a `usize`
abbrev pub as_f64 : ℕ → Float
as_f64 n = of_int binary64 (pos n)
