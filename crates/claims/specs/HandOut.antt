-- What is handed out adds up: one for each index of the order, all of which are in range.
-- Rests on a sorted list having the elements of the list.
use Rattle.std.specs.Prelude.{◌≡◌, refl, ◌⊎◌, cond, ℕ, zero, suc, ◌+◌, ◌<◌, ◌≤◌, min, ltb, length, get_or, set, take, Float}
use Rattle.std.proofs.Common.{sym, ◌∙◌, inl, inr, arith, length-set, length-take, lt-ltb, le-ltb}
use mathlib.Core.List.{List, [], ◌∷◌, foldl}
use Rattle.laws.specs.Orders.{lt_or_le}
use Rattle.laws.specs.Sort.{sort_by}
use Rattle.laws.specs.Sorted.{weigh, weigh_sort}
use Rattle.laws.specs.Lists.{up_to, length_up_to}
use Rattle.glyphs.specs.Apportion.{assigned, by_remainder, order, hand_out}
use Rattle.glyphs.specs.Quotas.{weigh_append}

-- ---- the sum of a list
abbrev pub sum : List ℕ → ℕ
sum l = weigh (λ (x : ℕ). x) l

sum_from : (a : ℕ) (l : List ℕ) → foldl ◌+◌ a l ≡ a + sum l
unfolding weigh
sum_from a [] = omega arith
sum_from a (x ∷ xs) = omega (arith, sum_from (a + x) xs)

pub assigned_sum : (l : List ℕ) → assigned l ≡ sum l
unfolding assigned
assigned_sum l = omega (arith, sum_from 0 l)

sum_set : (l : List ℕ) (i : ℕ) → i < length l → sum (set l i (get_or l i 0 + 1)) ≡ sum l + 1
unfolding weigh
sum_set [] i h = absurd (omega arith)
sum_set (x ∷ xs) zero h = omega arith
sum_set (x ∷ xs) (suc i) h = omega (arith, sum_set xs i (omega arith))

-- ---- how many indices of a list are k or more
abbrev pub beyond : ℕ → ℕ → ℕ
beyond k i = cond (ltb i k) 0 1

in_range_lem : (k i : ℕ) (is : List ℕ) → weigh (beyond k) (i ∷ is) ≡ 0 → (i < k) × (weigh (beyond k) is ≡ 0)
unfolding weigh
in_range_lem k i is h = go (lt_or_le i k)
  where
    out : k ≤ i → beyond k i ≡ 1
    out l = rw (le-ltb i k l)

    go : (i < k) ⊎ (k ≤ i) → (i < k) × (weigh (beyond k) is ≡ 0)
    go (inl l) = (l, omega (arith, h))
    go (inr l) = absurd (omega (arith, h, out l))

pub sum_hand_out : (l is : List ℕ) → weigh (beyond (length l)) is ≡ 0 → sum (hand_out l is) ≡ sum l + length is
unfolding hand_out
sum_hand_out l [] h = omega arith
sum_hand_out l (i ∷ is) h =
    let r = in_range_lem (length l) i is h in
    let m = set l i (get_or l i 0 + 1) in
    omega (arith, sum_hand_out m is (rw (length-set l i (get_or l i 0 + 1)) r.1), sum_set l i r.0)

-- ---- the order of the remainders
weigh_take : (p : ℕ → ℕ) (t : ℕ) (is : List ℕ) → weigh p (take t is) ≤ weigh p is
unfolding weigh
weigh_take p zero [] = omega arith
weigh_take p zero (i ∷ is) = omega arith
weigh_take p (suc t) [] = omega arith
weigh_take p (suc t) (i ∷ is) = omega (arith, weigh_take p t is)

all_in_range : (k t : ℕ) → t ≤ k → weigh (beyond k) (up_to t) ≡ 0
unfolding up_to weigh
all_in_range k zero h = refl
all_in_range k (suc t) h = rw (weigh_append (beyond k) (up_to t) (t ∷ []), all_in_range k t (omega arith), lt-ltb t k h)

length_weigh : (is : List ℕ) → weigh (λ (i : ℕ). 1) is ≡ length is
unfolding weigh
length_weigh [] = refl
length_weigh (i ∷ is) = omega (arith, length_weigh is)

order_in_range : (rems : List Float) (t : ℕ) → weigh (beyond (length rems)) (take t (order rems)) ≡ 0
unfolding order
order_in_range rems t =
    let k = length rems in
    omega (
      arith,
      weigh_take (beyond k) t (sort_by (by_remainder rems) (up_to k)),
      weigh_sort (by_remainder rems) (beyond k) (up_to k),
      all_in_range k k (omega arith),
    )

length_order : (rems : List Float) → length (order rems) ≡ length rems
unfolding order
length_order rems =
    sym (length_weigh (sort_by (by_remainder rems) (up_to (length rems)))) ∙ weigh_sort (by_remainder rems) (λ (i : ℕ). 1) (up_to (length rems))
    ∙ length_weigh (up_to (length rems)) ∙ length_up_to (length rems)

-- WHAT IS HANDED OUT: the floors, and one each for as many as are left
pub handed_sum :
    (floors : List ℕ) (rems : List Float) (left : ℕ) → length floors ≡ length rems
    → assigned (hand_out floors (take left (order rems))) ≡ assigned floors + min left (length rems)
handed_sum floors rems left e =
    assigned_sum (hand_out floors (take left (order rems)))
    ∙ sum_hand_out floors (take left (order rems)) (rw e (order_in_range rems left))
    ∙ rw (length-take left (order rems), length_order rems) (omega (arith, assigned_sum floors))
