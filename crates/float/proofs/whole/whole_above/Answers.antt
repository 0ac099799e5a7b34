-- `float::whole_above` meets its contract: the cut value, and one more where it lies below x.
-- Rests on `Whole.antt` and the contract of the kit's cut.
use Rattle.std.proofs.Common.{ℕ, ◌+◌, ◌^◌, ◌<◌, ◌≤◌, false, le_of_lt, arith, w64, Fits}
use Rattle.laws.specs.Casts.{in_float_lem}
use Rattle.laws.specs.Truth.{flag_le}
use Rattle.float.proofs.whole.Whole.{Sized, above_sized, cut_asks, cut_lt, cut_above}
use Rattle.float.proofs.whole.whole_above.Goals as goal
use Rattle.float.proofs.whole.whole_above.Goals.{After-truncating_f64_to_u64-n, Start}

sized : (c : Start) → Sized false c.args.x
sized c = above_sized c.args.x c.requires.above_zero c.requires.small

small : (c : After-truncating_f64_to_u64-n) → c.truncating_f64_to_u64-n.result < 2 ^ 53
small c = cut_lt c.args.x c.truncating_f64_to_u64-n.result c.truncating_f64_to_u64-n.ensures (sized c.before)

sum_fits : (n d : ℕ) → n < 2 ^ 53 → d ≤ 1 → Fits w64 (n + d)
sum_fits n d h k = record { fits = omega arith }

pub truncating_f64_to_u64-n-requires : goal.truncating_f64_to_u64-n-requires
truncating_f64_to_u64-n-requires c = let p = (cut_asks c.args.x (sized c)) in record { lower_bound = p.0; upper_bound = p.1 }

pub int_to_float-result : goal.int_to_float-result
int_to_float-result c = in_float_lem _ (le_of_lt (small c.before))

pub overflow_add-result : goal.overflow_add-result
overflow_add-result c = sum_fits _ _ (small c.before) (search flag_le)

pub returns : goal.returns
returns c = cut_above c.args.x c.truncating_f64_to_u64-n.result c.truncating_f64_to_u64-n.ensures (sized c.before.before)
