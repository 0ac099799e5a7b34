-- A refusal that is handed on is the answer by its number, and leaves the sheet buffer as it was.
-- Rests on no number of a refusal being 0.
use Rattle.std.specs.Prelude.{ℕ, ◌≡◌, refl, List, length, Result, IsErrAnd}
use Rattle.std.proofs.Common.{ap, ◌∙◌}
use Rattle.std.proofs.lemmas.Result.{err_from_is_err_and}
use Rattle.format.specs.declared.refusal.Refusal.{Refusal}
use Rattle.format.specs.Refusals.{number_of}
use Rattle.format.specs.RowLaws.{row_fault}
use Rattle.format.specs.RefusalLaws.{numbered}
use Rattle.job.specs.Job.{Job, job_of, items_fault}
use Rattle.plan.specs.declared.answer.Planned.{Planned}
use Rattle.plan.specs.Answer.{refused_by, answer_in}
use Rattle.plan.specs.Called.{Answered, items_number}

pub refusal_in : (refusal : Refusal) (r : Result Planned Refusal) → IsErrAnd r (λ e. e ≡ refusal) → answer_in r ≡ refused_by (number_of refusal)
refusal_in refusal r h =
    let p = err_from_is_err_and r h in
    rw (p.1, p.2)

pub refused_with :
    (fault : ℕ) (job : Job) (refusal : Refusal) (r : Result Planned Refusal) (sheet : List ℕ) → number_of refusal ≡ fault → IsErrAnd r (λ e. e ≡ refusal)
    → Answered fault job (answer_in r) sheet sheet
refused_with fault job refusal r sheet f h =
    record { refused = λ _. (refusal_in refusal r h ∙ ap refused_by f, refl); given = λ z. absurd (numbered refusal (f ∙ z)) }

-- the reader's goes before every later row
pub items_refused :
    (s : List ℕ) (refusal : Refusal) (r : Result Planned Refusal) (sheet : List ℕ) → number_of refusal ≡ items_fault s → IsErrAnd r (λ e. e ≡ refusal)
    → Answered (items_number s (length sheet)) (job_of s) (answer_in r) sheet sheet
items_refused s refusal r sheet e h =
    refused_with (items_number s (length sheet)) (job_of s) refusal r sheet
    (e ∙ row_fault (items_fault s) (items_fault s) _ refl (λ z. numbered refusal (e ∙ z)) refl) h
