-- `float::floor` meets its contract: by the sign and the size of x, the cut value, the size rounded up, or x itself.
-- Rests on `Whole.antt`, and on the contracts of the kit's cut and of `whole_above`.
use Rattle.std.proofs.Common.{true, false, T, le_of_lt}
use lib.Ieee.{binary64, fits, of_bits, neg}
use Rattle.laws.specs.Truth.{yes, no}
use Rattle.laws.specs.Casts.{in_float_lem}
use Rattle.float.proofs.whole.Whole.{Sized, above_sized, below_sized, neg_sized, cut_asks, above_asks, cut_lt, cut_floor, above_le, below_floor, floor_far_above, floor_far_below, floor_zero}
use Rattle.float.proofs.whole.floor.Goals as goal
use Rattle.float.proofs.whole.floor.Goals.{Start, Then-x-2, Then-x-4}

held : (c : Start) → T (fits binary64 c.args.x)
held c = yes c.well_formed.0.1

-- the two ranges in which the value has a fraction
above : (c : Then-x-2) → Sized false c.args.x
unfolding of_bits
above c = above_sized c.args.x (yes c.if-x.true) (yes c.if-x-2.true)

below : (c : Then-x-4) → Sized true c.args.x
unfolding of_bits neg
below c = below_sized c.args.x (yes c.if-x-3.true) (yes c.if-x-4.true)

pub truncating_f64_to_u64-requires : goal.truncating_f64_to_u64-requires
truncating_f64_to_u64-requires c = let p = (cut_asks c.args.x (above c)) in record { lower_bound = p.0; upper_bound = p.1 }

pub int_to_float-result : goal.int_to_float-result
int_to_float-result c =
    in_float_lem _ (le_of_lt (cut_lt c.args.x c.truncating_f64_to_u64.result c.truncating_f64_to_u64.ensures (above c.before.before)))

pub whole_above-requires : goal.whole_above-requires
whole_above-requires c = let p = (above_asks (neg c.args.x) (neg_sized _ (below c))) in record { above_zero = p.0; small = p.1 }

pub int_to_float-result-then-x-4 : goal.int_to_float-result-then-x-4
int_to_float-result-then-x-4 c =
    in_float_lem _ (above_le (neg c.args.x) c.whole_above.result c.whole_above.ensures (neg_sized _ (below c.before.before)))

pub returns-then-x-2 : goal.returns-then-x-2
returns-then-x-2 c =
    cut_floor c.args.x c.truncating_f64_to_u64.result c.truncating_f64_to_u64.ensures (above c.before.before)

pub returns-else-x-2 : goal.returns-else-x-2
unfolding of_bits
returns-else-x-2 c = floor_far_above c.args.x (held c.before.before) (yes c.if-x.true) (no c.if-x-2.false)

pub returns-then-x-4 : goal.returns-then-x-4
returns-then-x-4 c =
    below_floor c.args.x c.whole_above.result c.whole_above.ensures (held c.before.before.before.before.before) (below c.before.before)

pub returns-else-x-4 : goal.returns-else-x-4
unfolding of_bits neg
returns-else-x-4 c = floor_far_below c.args.x (held c.before.before.before) (yes c.if-x-3.true) (no c.if-x-4.false)

pub returns-else-x-3 : goal.returns-else-x-3
unfolding of_bits
returns-else-x-3 c = floor_zero c.args.x (no c.if-x.false) (no c.if-x-3.false)
