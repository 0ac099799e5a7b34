-- glyphs.rs, `apportion`: a count over weights by largest remainder. Definitions only.
use Rattle.std.specs.Prelude.{ℕ, ◌+◌, ◌-◌, Bool, cond, ◌||◌, List, [], ◌∷◌, map, length, take}
use Rattle.std.specs.Prelude.{replicate, ◌==◌, slice_index, slice_index_or, slice_set, Float}
use mathlib.Core.List.{foldl}
use Prim.Native.Nat.{compare, Ordering}
use Rattle.std.specs.Float.{nan}
use Rattle.std.specs.Float.Ieee.{is_nan}
use Rattle.laws.specs.Orders.{◌then_by◌}
use Rattle.laws.specs.Sort.{sort_by}
use Rattle.laws.specs.Lists.{up_to}
use Rattle.float.specs.Ops.{◌+ᶠ◌, ◌-ᶠ◌, ◌*ᶠ◌, ◌/ᶠ◌, ◌≤ᶠ◌, 0ᶠ, -0ᶠ}
use Rattle.float.specs.Order.{max}
use Rattle.float.specs.Whole.{floor, as_usize, as_f64}
use Rattle.float.specs.Total.{total_cmp}

-- weights.iter().sum(), which starts at -0.0
unfoldable pub total : List Float → Float
total weights = foldl ◌+ᶠ◌ -0ᶠ weights

-- total.is_nan() || total <= 0.0
unfoldable pub no_weight : Float → Bool
unfolding is_nan
no_weight total = is_nan total || total ≤ᶠ 0ᶠ

unfoldable pub share : ℕ → Float → Float → Float
share n total w = as_f64 n *ᶠ max (w /ᶠ total) 0ᶠ

-- share.floor() as usize
unfoldable pub whole_share : ℕ → Float → Float → ℕ
whole_share n total w = as_usize (floor (share n total w))

-- share - share.floor()
unfoldable pub remainder : ℕ → Float → Float → Float
remainder n total w = share n total w -ᶠ floor (share n total w)

unfoldable pub base : ℕ → Float → List Float → List ℕ
base n total weights = map (whole_share n total) weights

unfoldable pub rems : ℕ → Float → List Float → List Float
rems n total weights = map (remainder n total) weights

-- base.iter().sum()
unfoldable pub assigned : List ℕ → ℕ
assigned base = foldl ◌+◌ 0 base

-- the order of two indices: the larger remainder first, then the smaller index
unfoldable pub by_remainder : List Float → ℕ → ℕ → Ordering
by_remainder rems a b = total_cmp (slice_index_or rems b nan) (slice_index_or rems a nan) then_by compare a b

unfoldable pub order : List Float → List ℕ
order rems = sort_by (by_remainder rems) (up_to (length rems))

-- base[i] += 1 for each i of the list
unfoldable pub hand_out : List ℕ → List ℕ → List ℕ
hand_out base [] = base
hand_out base (i ∷ is) = hand_out (slice_set base i (slice_index base i + 1)) is

unfoldable pub apportion : ℕ → List Float → List ℕ
apportion n weights =
    let sum = total weights in
    let floors = base n sum weights in
    cond (length weights == 0) []
    (cond (no_weight sum) (slice_set (replicate (length weights) 0) 0 n)
    (hand_out floors (take (n - assigned floors) (order (rems n sum weights)))))
