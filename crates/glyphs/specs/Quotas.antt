-- The quota of one piece: its floor, and one more where fewer than are left over come before it. All of them together are `apportion`.
-- Rests on the laws of a sorted list.
use Rattle.std.specs.Prelude.{◌≡◌, ℕ, zero, suc, ◌+◌, ◌-◌, ◌<◌, ◌≤◌, min, Bool, true, false, cond, List, [], ◌∷◌}
use Rattle.std.specs.Prelude.{◌++◌, map, length, take, replicate, ◌==◌, nat_lt, slice_index, slice_index_or, slice_set, refl, Float}
use Rattle.std.proofs.Common.{sym, ap, ◌∙◌, ⊎_elim, arith, eq-or-lt_of_le, add-one, length-set}
use Rattle.std.proofs.Common.{get_or-set_same, get_or-set_other, ext_get_or, eq-eqb, ne_eqb, lt-ltb, le-ltb}
use mathlib.Core.List.{foldl}
use Prim.Native.Nat.{compare, Ordering}
use Rattle.std.proofs.Math.Dec.{compare_is_eq}
use Rattle.std.proofs.lemmas.List.{length-replicate, get_or-replicate, length-map}
use Rattle.std.specs.Float.{nan}
use Rattle.laws.specs.Orders.{Linear, ◌then_by◌, linear_compare, linear_on, linear_reversed, linear_then, told, compared, lt_or_le}
use Rattle.laws.specs.Sort.{sort_by}
use Rattle.laws.specs.Sorted.{weigh, weigh_sort, rank, levels, if_lt, if_eq, sort_ascending, in_first}
use Rattle.laws.specs.Lists.{up_to, tabulate, length_tabulate, tabulate_at, get_d_map}
use Rattle.float.specs.Total.{total_key, total_cmp}
use Rattle.glyphs.specs.Apportion.{total, no_weight, whole_share, remainder, base, rems, assigned, by_remainder, order, hand_out, apportion}

-- ---- one more for each index handed out
abbrev at : ℕ → ℕ → ℕ
at i j = cond (j == i) 1 0

length_hand_out : (l is : List ℕ) → length (hand_out l is) ≡ length l
unfolding hand_out
length_hand_out l [] = refl
length_hand_out l (i ∷ is) = length_hand_out (slice_set l i (slice_index l i + 1)) is ∙ length-set l i (slice_index l i + 1)

one_more :
    (l : List ℕ) (i j : ℕ) (o : Ordering) → compare j i ≡ o → i < length l
    → slice_index (slice_set l j (slice_index l j + 1)) i ≡ slice_index l i + at i j
one_more l i j Ordering.lt e h = rw e (get_or-set_other l j i (slice_index l j + 1) 0 (λ (k : i ≡ j). omega (arith, told j i Ordering.lt e)) ∙ omega arith)
one_more l i j Ordering.eq e h =
    let k : j ≡ i = told j i Ordering.eq e in
    rw (e, k) (get_or-set_same l i (slice_index l i + 1) 0 h)
one_more l i j Ordering.gt e h = rw e (get_or-set_other l j i (slice_index l j + 1) 0 (λ (k : i ≡ j). omega (arith, told j i Ordering.gt e)) ∙ omega arith)

handed : (l is : List ℕ) (i : ℕ) → i < length l → slice_index (hand_out l is) i ≡ slice_index l i + weigh (at i) is
unfolding hand_out weigh
handed l [] i h = omega arith
handed l (j ∷ js) i h = omega (arith, handed (slice_set l j (slice_index l j + 1)) js i (rw length-set h), one_more l i j (compare j i) refl h)

-- ---- the order of the indices
linear_by_remainder : (rems : List Float) → Linear (by_remainder rems)
unfolding by_remainder total_cmp
linear_by_remainder rems = linear_then (linear_reversed (linear_on (λ (i : ℕ). total_key (slice_index_or rems i nan)) linear_compare)) linear_compare

level_then : (o c : Ordering) → (c ≡ Ordering.eq → o ≡ Ordering.eq) → if_eq (o then_by c) ≡ cond (compare_is_eq c) 1 0
level_then Ordering.lt Ordering.lt h = refl
level_then Ordering.lt Ordering.eq h = let e : Ordering.lt ≡ Ordering.eq = h refl in cc
level_then Ordering.lt Ordering.gt h = refl
level_then Ordering.eq Ordering.lt h = refl
level_then Ordering.eq Ordering.eq h = refl
level_then Ordering.eq Ordering.gt h = refl
level_then Ordering.gt Ordering.lt h = refl
level_then Ordering.gt Ordering.eq h = let e : Ordering.gt ≡ Ordering.eq = h refl in cc
level_then Ordering.gt Ordering.gt h = refl

-- an index is level with itself alone
level_at : (rems : List Float) (i j : ℕ) → if_eq (by_remainder rems j i) ≡ at i j
unfolding by_remainder total_cmp
level_at rems i j =
    level_then (compare (total_key (slice_index_or rems i nan)) (total_key (slice_index_or rems j nan))) (compare j i)
    (λ (e : compare j i ≡ Ordering.eq). rw (told j i Ordering.eq e)
    (compared (total_key (slice_index_or rems i nan)) (total_key (slice_index_or rems i nan)) Ordering.eq refl))

weigh_same : (p q : ℕ → ℕ) (is : List ℕ) → ((j : ℕ) → p j ≡ q j) → weigh p is ≡ weigh q is
unfolding weigh
weigh_same p q [] h = refl
weigh_same p q (i ∷ is) h = rw (h i, weigh_same p q is h)

pub weigh_append : (p : ℕ → ℕ) (is js : List ℕ) → weigh p (is ++ js) ≡ weigh p is + weigh p js
unfolding weigh
weigh_append p [] js = omega arith
weigh_append p (i ∷ is) js = omega (arith, weigh_append p is js)

-- how many of the first k indices come before i: the next
pub rank_next :
    (rems : List Float) (i k : ℕ) → rank (by_remainder rems) i (up_to (k + 1)) ≡ rank (by_remainder rems) i (up_to k) + if_lt (by_remainder rems k i)
unfolding up_to weigh
rank_next rems i k = rw add-one (weigh_append (λ (j : ℕ). if_lt (by_remainder rems j i)) (up_to k) (k ∷ []) ∙ omega arith)

none : (i k : ℕ) → k ≤ i → weigh (at i) (up_to k) ≡ 0
unfolding up_to weigh
none i zero h = refl
none i (suc k) h =
    rw (weigh_append (at i) (up_to k) (k ∷ []), none i k (omega arith), ne_eqb k i (λ (e : k ≡ i). omega arith))

once : (i k : ℕ) → i < k → weigh (at i) (up_to k) ≡ 1
unfolding up_to weigh
once i zero h = absurd (omega arith)
once i (suc k) h =
    weigh_append (at i) (up_to k) (k ∷ [])
    ∙ ⊎_elim (λ (e : i ≡ k). rw (e, none k k (omega arith), eq-eqb k k refl) refl)
    (λ (l : i < k). rw (once i k l, ne_eqb k i (λ (e : k ≡ i). omega arith)) refl)
    (eq-or-lt_of_le (omega arith))

-- of one, what is left over after r others
last_one : (n r : ℕ) → min (n - r) 1 ≡ cond (nat_lt r n) 1 0
last_one n r = ⊎_elim (λ (h : r < n). rw (lt-ltb r n h) (omega arith)) (λ (h : n ≤ r). rw (le-ltb r n h) (omega arith)) (lt_or_le r n)

-- ---- the quotas
extra :
    (n i : ℕ) (rems : List Float) → i < length rems
    → weigh (at i) (take n (order rems)) ≡ cond (nat_lt (rank (by_remainder rems) i (up_to (length rems))) n) 1 0
unfolding order
extra n i rems h =
    let cmp = by_remainder rems in
    let all = up_to (length rems) in
    let same : (is : List ℕ) → levels cmp i is ≡ weigh (at i) is = λ is. weigh_same (λ (j : ℕ). if_eq (cmp j i)) (at i) is (level_at rems i) in
    sym (same (take n (sort_by cmp all)))
    ∙ in_first cmp (linear_by_remainder rems) n i (sort_by cmp all) (sort_ascending cmp (linear_by_remainder rems) all)
    ∙ rw (weigh_sort cmp (λ (j : ℕ). if_lt (cmp j i)) all, weigh_sort cmp (λ (j : ℕ). if_eq (cmp j i)) all, same all, once i (length rems) h)
    (last_one n (rank cmp i all))

-- the quota of piece i, of `left` that are left over
unfoldable pub quota_at : List ℕ → List Float → ℕ → ℕ → ℕ
quota_at floors rems left i = slice_index floors i + cond (nat_lt (rank (by_remainder rems) i (up_to (length rems))) left) 1 0

handed_out :
    (floors : List ℕ) (rems : List Float) (left : ℕ) → length floors ≡ length rems
    → hand_out floors (take left (order rems)) ≡ tabulate (quota_at floors rems left) (length rems)
unfolding quota_at
handed_out floors rems left e =
    let is = take left (order rems) in
    let quota = quota_at floors rems left in
    ext_get_or 0 (hand_out floors is) (tabulate quota (length rems)) (length_hand_out floors is ∙ e ∙ sym (length_tabulate quota (length rems)))
    (λ i h. let k : i < length floors = rw (length_hand_out floors is) at h in
    handed floors is i k ∙ rw (extra left i rems (rw e at k)) (sym (tabulate_at quota (length rems) i 0 (rw e at k))))

-- all to the first
abbrev pub first_only : ℕ → ℕ → ℕ
first_only n i = cond (i == 0) n 0

all_to_first : (n k : ℕ) → slice_set (replicate k 0) 0 n ≡ tabulate (first_only n) k
all_to_first n k =
    ext_get_or 0 (slice_set (replicate k 0) 0 n) (tabulate (first_only n) k)
    (length-set (replicate k 0) 0 n ∙ length-replicate {A = ℕ} k 0 ∙ sym (length_tabulate (first_only n) k))
    (λ i h. let l : i < k = rw (length-set (replicate k 0) 0 n, length-replicate {A = ℕ} k 0) at h in
    entry i k l ∙ sym (tabulate_at (first_only n) k i 0 l))
  where
    entry : (i k : ℕ) → i < k → slice_index (slice_set (replicate k 0) 0 n) i ≡ first_only n i
    entry zero k l = get_or-set_same (replicate k 0) 0 n 0 (rw (length-replicate {A = ℕ} k 0) l)
    entry (suc i) k l =
        get_or-set_other (replicate k 0) 0 (suc i) n 0 (λ (e : suc i ≡ 0). omega arith)
        ∙ get_or-replicate k (suc i) 0 0 l ∙ rw (ne_eqb (suc i) 0 (λ (e : suc i ≡ 0). omega arith))

length_base : (n : ℕ) (sum : Float) (weights : List Float) → length (base n sum weights) ≡ length weights
unfolding base
length_base n sum weights = length-map weights (whole_share n sum)

length_rems : (n : ℕ) (sum : Float) (weights : List Float) → length (rems n sum weights) ≡ length weights
unfolding rems
length_rems n sum weights = length-map weights (remainder n sum)

-- the quota of piece i
unfoldable pub quota_of : ℕ → Float → ℕ → List Float → ℕ → ℕ
quota_of n sum left weights i = cond (no_weight sum) (first_only n i) (quota_at (base n sum weights) (rems n sum weights) left i)

-- what the floors leave over
unfoldable pub left_over : ℕ → Float → List Float → ℕ
left_over n sum weights = n - assigned (base n sum weights)

-- ---- as the code goes
abbrev pub spend : ℕ → Float → ℕ → Float → ℕ
spend n sum left w = left - whole_share n sum w

add_from : (a : ℕ) (l : List ℕ) → foldl ◌+◌ a l ≡ a + foldl ◌+◌ 0 l
add_from a [] = omega arith
add_from a (x ∷ xs) = omega (arith, add_from (a + x) xs, add_from (0 + x) xs)

spent_from :
    (n : ℕ) (sum : Float) (left : ℕ) (weights : List Float)
    → foldl (spend n sum) left weights ≡ left - foldl ◌+◌ 0 (map (whole_share n sum) weights)
spent_from n sum left [] = omega arith
spent_from n sum left (w ∷ ws) =
    omega (arith, spent_from n sum (left - whole_share n sum w) ws, add_from (0 + whole_share n sum w) (map (whole_share n sum) ws))

pub spent : (n : ℕ) (sum : Float) (weights : List Float) → foldl (spend n sum) n weights ≡ left_over n sum weights
unfolding left_over assigned base
spent n sum weights = spent_from n sum n weights

-- where something is left over, no floor reaches n
pub floor_below :
    (n : ℕ) (sum : Float) (weights : List Float) (i : ℕ) (d : Float) → i < length weights → 0 < left_over n sum weights
    → whole_share n sum (slice_index_or weights i d) < n
unfolding left_over assigned base
floor_below n sum weights i d h k = omega (arith, below weights i h)
  where
    below : (ws : List Float) (i : ℕ) → i < length ws → whole_share n sum (slice_index_or ws i d) ≤ foldl ◌+◌ 0 (map (whole_share n sum) ws)
    below [] i h = absurd (omega arith)
    below (w ∷ ws) zero h = omega (arith, add_from (0 + whole_share n sum w) (map (whole_share n sum) ws))
    below (w ∷ ws) (suc i) h = omega (arith, below ws i (omega arith), add_from (0 + whole_share n sum w) (map (whole_share n sum) ws))

-- two indices by the keys of their remainders
pub by_keys :
    (n : ℕ) (sum : Float) (weights : List Float) (i j : ℕ) (d : Float) → i < length weights → j < length weights
    → by_remainder (rems n sum weights) j i
    ≡ compare (total_key (remainder n sum (slice_index_or weights i d))) (total_key (remainder n sum (slice_index_or weights j d))) then_by compare j i
unfolding by_remainder total_cmp rems
by_keys n sum weights i j d h k = rw (get_d_map (remainder n sum) weights i d nan h, get_d_map (remainder n sum) weights j d nan k)

-- the quota where there is weight: the floor, and one by the rank
pub by_rank :
    (n : ℕ) (sum : Float) (left : ℕ) (weights : List Float) (i : ℕ) → no_weight sum ≡ false → i < length weights
    → quota_of n sum left weights i
    ≡ whole_share n sum (slice_index_or weights i nan) + cond (nat_lt (rank (by_remainder (rems n sum weights)) i (up_to (length weights))) left) 1 0
unfolding quota_of quota_at base
by_rank n sum left weights i e h = rw (e, get_d_map (whole_share n sum) weights i nan 0 h, length_rems n sum weights)

by_weight :
    {A : Type 0} (b : Bool) (f g : ℕ → A) (k : ℕ) (l m : List A) → l ≡ tabulate f k → m ≡ tabulate g k
    → cond b l m ≡ tabulate (λ (i : ℕ). cond b (f i) (g i)) k
by_weight true f g k l m p q = p
by_weight false f g k l m p q = q

pub apportioned :
    (n : ℕ) (weights : List Float)
    → apportion n weights ≡ tabulate (quota_of n (total weights) (left_over n (total weights) weights) weights) (length weights)
unfolding apportion quota_of left_over tabulate
apportioned n [] = refl
apportioned n (w ∷ ws) =
    let weights = w ∷ ws in
    let sum = total weights in
    let floors = base n sum weights in
    let parts = rems n sum weights in
    let left = n - assigned floors in
    rw (ne_eqb (length weights) 0 (λ (e : length weights ≡ 0). omega arith))
    (by_weight (no_weight sum) (first_only n) (quota_at floors parts left) (length weights) (slice_set (replicate (length weights) 0) 0 n)
    (hand_out floors (take left (order parts)))
    (all_to_first n (length weights))
    (handed_out floors parts left (length_base n sum weights ∙ sym (length_rems n sum weights))
    ∙ ap (tabulate (quota_at floors parts left)) (length_rems n sum weights)))
