-- `float::ceil_i64` meets its contract: a fraction above zero is rounded up, and any other value is cast as it is.
-- Rests on `Whole.antt` and `Laws/Whole.antt`, and on the contracts of `whole_above` and `as_i64`.
use Rattle.std.proofs.Common.{◌≡◌, ◌^◌, ◌≤◌, false, T, sym, ◌∙◌, w64}
use lib.Ieee.{binary64, fits, of_bits}
use mir.ValLaws.{to_z-of_z}
use Rattle.laws.specs.Truth.{yes, no}
use Rattle.float.specs.Whole.{ceil, as_i64}
use Rattle.float.specs.Laws.Whole.{ceil_cast_below, ceil_cast_far}
use Rattle.float.proofs.whole.Casts.{positive_fits, positive_is}
use Rattle.float.proofs.whole.Whole.{Sized, above_sized, above_asks, above_le, above_ceil}
use Rattle.float.proofs.whole.ceil_i64.Goals as goal
use Rattle.float.proofs.whole.ceil_i64.Goals.{then-x+else-x-2, else-x, After-whole_above, Joined-x, Start, Then-x-2}

held : (c : Start) → T (fits binary64 c.args.x)
held c = yes c.well_formed.0.1

above : (c : Then-x-2) → Sized false c.args.x
unfolding of_bits
above c = above_sized c.args.x (yes c.if-x.true) (yes c.if-x-2.true)

small : (c : After-whole_above) → c.whole_above.result ≤ 2 ^ 53
small c = above_le c.args.x c.whole_above.result c.whole_above.ensures (above c.before)

-- where x is no fraction above zero
same : (c : Joined-x) → as_i64 (ceil c.args.x) ≡ as_i64 c.args.x
unfolding of_bits
same c =
    elim c.if-x.branch [
      | then-x+else-x-2 w ↦ ceil_cast_far c.args.x (held c.before) (no w.if-x-2.false)
      | else-x w ↦ ceil_cast_below c.args.x (held c.before) (no w.if-x.false)
    ]

pub whole_above-requires : goal.whole_above-requires
whole_above-requires c = let p = (above_asks c.args.x (above c)) in record { above_zero = p.0; small = p.1 }

pub overflow_cast-result : goal.overflow_cast-result
overflow_cast-result c = positive_fits _ (small c)

pub returns-then-x-2 : goal.returns-then-x-2
returns-then-x-2 c = positive_is _ (small c) ∙ above_ceil c.args.x c.whole_above.result c.whole_above.ensures (above c.before)

pub returns : goal.returns
returns c = to_z-of_z w64 c.as_i64.result (record { sfits = c.as_i64.type_inv }) ∙ c.as_i64.ensures ∙ sym (same c.before)
