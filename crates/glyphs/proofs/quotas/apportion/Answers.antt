-- `apportion` writes the quotas. Invariant: the quotas of the first i pieces stand in front.
-- Rests on what `quota_of` ensures and the law that the quotas one by one are `apportion`.
use Rattle.std.proofs.Common.{◌≡◌, length, refl, ◌∙◌, arith, length-set, rules}
use Rattle.laws.specs.Lists.{tabulate, written, write_next}
use Rattle.glyphs.specs.Quotas.{quota_of, apportioned}
use Rattle.glyphs.proofs.quotas.apportion.Goals as goal

pub loop-i-init : goal.loop-i-init
unfolding tabulate written
loop-i-init c = (refl, refl)

pub loop-i-preserved : goal.loop-i-preserved
loop-i-preserved c =
    let l = c.loop-i in
    let a = c.args in
    let quota = quota_of a.n c.total.result c.left_over-left.result a.weights.now in (
      length-set l.quotas l.i c.quota_of.result ∙ l.invariant.0,
      write_next quota l.quotas a.quotas.now l.i c.quota_of.result l.invariant.1 c.quota_of.ensures (search rules),
    )

pub returns : goal.returns
returns c =
    let l = c.loop-i in
    let a = c.args in
    let e : l.i ≡ length a.weights.now = omega arith in
    let t = c.total.ensures in
    let v = c.left_over-left.ensures in
    l.invariant.1 ∙ rw (apportioned, e, v, t)
