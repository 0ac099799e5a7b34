-- `quota_of` is the quota of one piece: all or nothing without weight, else its floor and one by its rank.
-- Rests on what `whole_share` and `rank_of` ensure.
use Rattle.std.proofs.Common.{sym, ◌∙◌, arith, rules, le-ltb, lt-ltb}
use lib.Ieee.{nan}
use Rattle.laws.specs.Choice.{picks}
use Rattle.glyphs.specs.Quotas.{quota_of, floor_below, by_rank}
use Rattle.glyphs.proofs.quotas.Shares.quota_of.Goals as goal

pub returns-then-i-eq0 : goal.returns-then-i-eq0
unfolding quota_of
returns-then-i-eq0 c = rw (← c.no_weight.ensures, c.if-no_weight.true) (search picks)

pub returns-else-i-eq0 : goal.returns-else-i-eq0
unfolding quota_of
returns-else-i-eq0 c = rw (← c.no_weight.ensures, c.if-no_weight.true) (search picks)

pub overflow_add-result : goal.overflow_add-result
overflow_add-result c =
    let a = c.args in
    let s = a.self.now in
    omega (arith, floor_below s.n s.total s.weights.now a.i nan (search rules) (search rules), c.whole_share-whole.ensures)

pub returns-then-rank_of-left : goal.returns-then-rank_of-left
returns-then-rank_of-left c =
    let a = c.args in
    let s = a.self.now in
    let none = sym c.no_weight.ensures ∙ c.if-no_weight.false in
    let ranked = by_rank s.n s.total a.left s.weights.now a.i none (search rules) in
    rw (ranked, ← c.rank_of.ensures, lt-ltb _ _ c.if-rank_of-left.true, c.whole_share-whole.ensures)

pub returns : goal.returns
returns c =
    let a = c.args in
    let s = a.self.now in
    let none = sym c.no_weight.ensures ∙ c.if-no_weight.false in
    let ranked = by_rank s.n s.total a.left s.weights.now a.i none (search rules) in
    rw (ranked, ← c.rank_of.ensures, le-ltb _ _ c.if-rank_of-left.false, c.whole_share-whole.ensures) (omega arith)
