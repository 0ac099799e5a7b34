-- `plan` refuses by rows 1 and 2, or gives the job's answer, with the work slices cleared.
-- Rests on what its calls ensure, and on the laws of the call.
use mathlib.Core.Path.{sym}
use lib.ListN.{length}
use Rattle.float.specs.Ops.{0ᶠ}
use Rattle.format.specs.RefusalLaws.{numbered}
use Rattle.plan.specs.Answer.{answer_in}
use Rattle.plan.specs.CallLaws.{lent_short, work_long, filled_front}
use Rattle.plan.proofs.CallLaws.{ends_lent, ends_work, ends_cleared}
use Rattle.plan.proofs.Refusals.{refusal_in}
use Rattle.plan.proofs.plan.Goals as goal

pub returns-in_err-job : goal.returns-in_err-job
returns-in_err-job c =
    let a = c.args in
    let r = c.from_residual.ensures.1 in
    let f = c.in_err-job.ensures.fault in
    let e = ends_lent a.s.now a.first.now a.second.now a.sheet.now _ (answer_in c.from_residual.result) f (numbered _) (refusal_in _ _ r) in
    record { answer = e.answer; first = e.lent.0; second = e.lent.1; sheet = e.lent.2 }

pub returns-in_err-check_work : goal.returns-in_err-check_work
returns-in_err-check_work c =
    let a = c.args in
    let r = c.from_residual-in_err-check_work.ensures.1 in
    let f = c.in_err-check_work.ensures in
    let e =
    ends_work a.s.now a.first.now a.second.now a.sheet.now _ (answer_in c.from_residual-in_err-check_work.result) (sym c.in_ok-job.ensures.fault) f
    (numbered _) (refusal_in _ _ r) in
    record { answer = e.answer; first = e.lent.0; second = e.lent.1; sheet = e.lent.2 }

pub unwrap-first-requires : goal.unwrap-first-requires
unwrap-first-requires c =
    let w = work_long (length c.args.first.now) (length c.args.second.now) (sym c.in_ok-check_work.ensures) in
    c.first_chunk_mut.ensures.variant.1 w.0

pub unwrap-second-requires : goal.unwrap-second-requires
unwrap-second-requires c =
    let w = work_long (length c.args.first.now) (length c.args.second.now) (sym c.in_ok-check_work.ensures) in
    c.first_chunk_mut-2.ensures.variant.1 w.1

pub plan_job-answer-requires-clause-bytes : goal.plan_job-answer-requires-clause-bytes
plan_job-answer-requires-clause-bytes c = rw c.in_ok-job.ensures.job.0 (lent_short c.args.s.now (sym c.in_ok-job.ensures.fault))

pub returns : goal.returns
returns c =
    let a = c.args in
    let one = filled_front 8000 0ᶠ c.clear.new.work a.first.now c.clear.ensures in
    let two = filled_front 8000 0ᶠ c.clear-2.new.work a.second.now c.clear-2.ensures in
    let e =
    ends_cleared a.s.now a.first.now a.second.now a.sheet.now (answer_in c.plan_job-answer.result) _ _ c.plan_job-answer.new.sheet
    (sym c.in_ok-job.ensures.fault) (sym c.in_ok-check_work.ensures) one two (rw c.in_ok-job.ensures.job.0 at c.plan_job-answer.ensures) in
    record { answer = e.answer; first = e.lent.0; second = e.lent.1; sheet = e.lent.2 }
