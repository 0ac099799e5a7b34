-- `rank_of` counts the indices that come before one: the library's count of those that pass is the rank.
-- Rests on what `before` ensures and the library's laws of filters over ranges.
use Rattle.std.specs.Prelude.{◌≡◌, ℕ, ◌+◌, ◌<◌, cond, List, [], ◌∷◌, length, filter, refl}
use Rattle.std.specs.List.{range_with_len}
use Rattle.std.proofs.Common.{◌∙◌, ap, sym, arith, rules, zero-add, ext_get_or}
use Rattle.std.proofs.lemmas.Iterator.{YieldsList-from_range}
use Rattle.std.proofs.lemmas.Iterator.Consumers.{YieldsList-from_filter, count_from_yields_List}
use Rattle.std.proofs.lemmas.List.FromFn.{length-range_with_len, get_or-range_with_len}
use Prim.Native.Nat.{Ordering}
use Rattle.laws.specs.Lists.{up_to, length_up_to, up_to_at}
use Rattle.laws.specs.Orders.{is_lt}
use Rattle.laws.specs.Sorted.{weigh, rank, if_lt}
use Rattle.glyphs.specs.Apportion.{rems, by_remainder}
use Rattle.glyphs.proofs.quotas.Shares.rank_of.Goals as goal

all_indices : (n : ℕ) → range_with_len 0 n ≡ up_to n
all_indices n =
    ext_get_or 0 (range_with_len 0 n) (up_to n) (length-range_with_len 0 n ∙ sym (length_up_to n))
    (λ i h. let l : i < n = omega (arith, h, length-range_with_len 0 n) in get_or-range_with_len 0 n i 0 l ∙ zero-add i ∙ sym (up_to_at n i 0 l))

one_more : (o : Ordering) (j : ℕ) (js : List ℕ) → length (cond (is_lt o) (j ∷ js) js) ≡ if_lt o + length js
one_more Ordering.lt j js = omega arith
one_more Ordering.eq j js = omega arith
one_more Ordering.gt j js = omega arith

counted : (cmp : ℕ → ℕ → Ordering) (i : ℕ) (js : List ℕ) → length (filter (λ j. is_lt (cmp j i)) js) ≡ rank cmp i js
unfolding weigh
counted cmp i [] = refl
counted cmp i (j ∷ js) = one_more (cmp j i) j (filter (λ k. is_lt (cmp k i)) js) ∙ ap (λ (n : ℕ). if_lt (cmp j i) + n) (counted cmp i js)

pub returns : goal.returns
returns c =
    let s = c.args.self.now in
    let cmp = by_remainder (rems s.n s.total s.weights.now) in
    let n = length s.weights.now in
    let indices = YieldsList-from_range 0 n n c.filter.ensures.source (omega arith) in
    count_from_yields_List c.filter.result c.count.result c.count.ensures.ran
    (YieldsList-from_filter _ (λ j. is_lt (cmp j c.args.i)) indices c.filter.ensures.closure (λ x b q k. search rules))
    ∙ counted cmp c.args.i (range_with_len 0 n) ∙ ap (rank cmp c.args.i) (all_indices n)
