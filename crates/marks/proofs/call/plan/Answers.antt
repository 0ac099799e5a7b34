-- `plan` gives the call's answer by its number; the sheet that it gives keeps what is claimed of every sheet.
-- Rests on what the layer's `plan` ensures, and on the theorem of `claims`.
use Rattle.job.specs.Plan.{plan_of}
use Rattle.claims.proofs.EverySheet.{every_sheet_kept}
use Rattle.marks.specs.CallLaws.{answered_is, kept_is}
use Rattle.marks.proofs.call.plan.Goals as goal

pub returns-clause-answer : goal.returns-clause-answer
returns-clause-answer c =
    let a = c.args in
    answered_is c.plan.result (plan_of a.job.now a.first.now a.second.now a.sheet.now) c.plan.ensures.answer

pub returns-clause-kept : goal.returns-clause-kept
returns-clause-kept c =
    let a = c.args in
    let p = c.plan.ensures in
    kept_is c.plan.result (plan_of a.job.now a.first.now a.second.now a.sheet.now) a.job.now c.plan.new.sheet p.answer
    (λ e. rw p.sheet (every_sheet_kept a.job.now a.first.now a.second.now a.sheet.now e))
