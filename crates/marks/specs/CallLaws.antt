-- The call's answer by its number, and how large its numbers are.
-- Rests on the laws of the trials and of the sheet's length, and for the latter on that of every sheet.
use Rattle.std.specs.Prelude.{◌≡◌, refl, Bool, true, false, cond, List, ℕ, ◌≤◌, eqb, length, Result, Ok, Err, Float}
use Rattle.std.proofs.Common.{sym, ap, ◌∙◌, arith, eqb-true, eq-eqb, ne_eqb}
use Rattle.format.specs.RowLaws.{both}
use Rattle.job.specs.Head.{lent_fault, work_fault}
use Rattle.job.specs.Job.{job_of, items_fault}
use Rattle.job.proofs.Known.{job_known}
use Rattle.job.specs.Plan.{number_of, placements_of, Plan, given, refused, plan_of}
use Rattle.claims.specs.Claim.{SheetKept}
use Rattle.claims.proofs.EverySheet.{every_sheet_kept}
use Rattle.marks.specs.Call.{Planned, Sheet, Refused, Kept, answered, planned}
use Rattle.format.specs.declared.refusal.Refusal.{Refusal}
use Rattle.format.specs.RefusalLaws.{numbered}
use Rattle.plan.specs.declared.answer.Planned.{Planned as Given}
use Rattle.plan.specs.Answer.{Answer, answer_in}
use Rattle.plan.specs.Called.{answer_of}
use Rattle.marks.specs.Room.{sheet_short, room_small}
use Rattle.marks.specs.Trials.{few_trials}

pub planned_sheet : (plan : Plan) → plan.number ≡ 0 → planned plan ≡ Sheet plan.length plan.free_trials plan.obstacle_trials
unfolding planned
planned_sheet plan e = rw (eq-eqb plan.number 0 e)

pub planned_refused : (plan : Plan) → (plan.number ≡ 0 → ⊥) → planned plan ≡ Refused plan.number
unfolding planned
planned_refused plan e = rw (ne_eqb plan.number 0 e)

-- what the call returns is the answer by its number
pub answered_is : (r : Result Given Refusal) (plan : Plan) → answer_in r ≡ answer_of plan → answered r ≡ planned plan
answered_is (Ok given) plan e =
    rw (planned_sheet plan (sym (ap (λ (x : Answer). x.number) e)))
    (rw (ap (λ (x : Answer). x.length) e, ap (λ (x : Answer). x.free_trials) e, ap (λ (x : Answer). x.obstacle_trials) e))
answered_is (Err refusal) plan e =
    let n = ap (λ (x : Answer). x.number) e in
    rw (planned_refused plan (λ z. numbered refusal (n ∙ z)), n)

pub kept_is :
    (r : Result Given Refusal) (plan : Plan) (job sheet : List ℕ) → answer_in r ≡ answer_of plan → (plan.number ≡ 0 → SheetKept job sheet)
    → Kept (answered r) job sheet
kept_is (Ok given) plan job sheet e h = h (sym (ap (λ (x : Answer). x.number) e))
kept_is (Err refusal) plan job sheet e h = tt

-- at most 34,383 bytes and 25 trials of each kind
abbrev pub Small : Planned → Type 0
Small (Sheet length free-trials obstacle-trials) = (length ≤ 34383) × (free-trials ≤ 25) × (obstacle-trials ≤ 25)
Small (Refused number) = Unit {0}

faultless : (s : List ℕ) (first second : List Float) (sheet : List ℕ) → number_of s first second sheet ≡ 0 → items_fault s ≡ 0
unfolding number_of
faultless s first second sheet e =
    (both (items_fault s) _ (both (work_fault (length first) (length second)) _ (both (lent_fault s) _ e).1).1).0

plan_small : (s : List ℕ) (first second : List Float) (sheet : List ℕ) → Small (planned (plan_of s first second sheet))
unfolding planned plan_of given refused
plan_small s first second sheet = go (eqb n 0) refl (every_sheet_kept s first second sheet)
  where
    n : ℕ
    n = number_of s first second sheet

    plan : Bool → Plan
    plan t = cond t (given (placements_of (job_of s)) first second sheet) (refused n first second sheet)

    go :
        (t : Bool) → eqb n 0 ≡ t → ((plan t).number ≡ 0 → SheetKept s (plan t).sheet)
        → Small (cond (eqb (plan t).number 0) (Sheet (plan t).length (plan t).free_trials (plan t).obstacle_trials) (Refused (plan t).number))
    go true e k =
        let known = job_known s (faultless s first second sheet (eqb-true n 0 e)) in
        let few = few_trials (job_of s) in
        (omega (arith, sheet_short s _ (k refl), room_small (job_of s) known), few.free, few.walled)
    go false e k = rw e tt

pub small : (s : List ℕ) (first second : List Float) (sheet : List ℕ) (a : Planned) → a ≡ planned (plan_of s first second sheet) → Small a
small s first second sheet a e = rw e (plan_small s first second sheet)
