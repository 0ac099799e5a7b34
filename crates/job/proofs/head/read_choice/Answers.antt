-- `read_choice` reads a kind and the number after it.
-- Rests on what its calls ensure, and the two cases of the definition.
use mathlib.Core.Path.{sym, ◌∙◌}
use Prim.Native.Nat.{◌+◌}
use Rattle.job.specs.HeadLaws.{after_none, after_some}
use Rattle.format.specs.RefusalLaws.{fails, passes, handed}
use Rattle.job.proofs.head.read_choice.Goals as goal

pub returns-in_err-kind-clause-fault : goal.returns-in_err-kind-clause-fault
returns-in_err-kind-clause-fault c = fails _ _ _ _ c.in_err-kind.ensures.fault c.from_residual.ensures.1

pub returns-in_err-item-clause-fault : goal.returns-in_err-item-clause-fault
returns-in_err-item-clause-fault c =
    let o = c.in_ok-kind.ensures in
    let a = c.args in
    let n = after_none _ a.job.now.bytes.now (a.job.now.at + 1) a.most (sym o.value.0 ∙ c.if-kind-eq0.true) in
    passes _ _ o.fault (handed _ _ (c.in_err-item.ensures.fault ∙ rw (o.bytes, o.next) n) c.from_residual-in_err-item.ensures.1)

pub returns-then-kind-eq0-clause-fault : goal.returns-then-kind-eq0-clause-fault
returns-then-kind-eq0-clause-fault c =
    let o = c.in_ok-kind.ensures in
    let a = c.args in
    let n = after_none _ a.job.now.bytes.now (a.job.now.at + 1) a.most (sym o.value.0 ∙ c.if-kind-eq0.true) in
    passes _ _ o.fault (c.in_ok-item.ensures.fault ∙ rw (o.bytes, o.next) n)

pub returns-in_err-share-clause-fault : goal.returns-in_err-share-clause-fault
returns-in_err-share-clause-fault c =
    let o = c.in_ok-kind.ensures in
    let a = c.args in
    let n = after_some _ a.job.now.bytes.now (a.job.now.at + 1) a.most (λ e. c.if-kind-eq0.false (o.value.0 ∙ e)) in
    passes _ _ o.fault (handed _ _ (c.in_err-share.ensures.fault ∙ rw (o.bytes, o.next) n) c.from_residual-in_err-share.ensures.1)

pub returns-clause-fault : goal.returns-clause-fault
returns-clause-fault c =
    let o = c.in_ok-kind.ensures in
    let a = c.args in
    let n = after_some _ a.job.now.bytes.now (a.job.now.at + 1) a.most (λ e. c.if-kind-eq0.false (o.value.0 ∙ e)) in
    passes _ _ o.fault (c.in_ok-share.ensures.fault ∙ rw (o.bytes, o.next) n)
