-- `f64::total_cmp`: IEEE 754's totalOrder, by keys that are ordered as the values are. Definitions only.
-- From the least: the negative numbers, -0, +0, the positive numbers, NaN, which has no sign in the model.
use Rattle.std.specs.Prelude.{ℕ, ◌+◌, ◌-◌, ◌^◌, Bool, cond, nat_le, nat_lt, Float}
use Prim.Native.Nat.{compare, Ordering}
use Rattle.std.specs.Float.{binary64}
use Rattle.std.specs.Float.Ieee.{to_bits}

-- the bit pattern with its sign turned over and, below zero, its other bits too
unfoldable pub total_key : Float → ℕ
unfolding to_bits
total_key x = let b = to_bits binary64 x in cond (nat_le (2 ^ 63) b) (2 ^ 64 - 1 - b) (2 ^ 63 + b)

unfoldable pub total_cmp : Float → Float → Ordering
unfolding total_key
total_cmp x y = compare (total_key x) (total_key y)

-- whether x comes before y
unfoldable pub total_less : Float → Float → Bool
unfolding total_key
total_less x y = nat_lt (total_key x) (total_key y)
