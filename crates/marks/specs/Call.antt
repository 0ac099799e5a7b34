-- The answer of the call: its number for each case, and what is kept by a sheet that is given. Definitions only.
use Rattle.std.specs.Prelude.{cond, List, [], ◌∷◌, ℕ, eqb, Result, Ok, Err}
use Rattle.job.specs.Plan.{Plan}
use Rattle.claims.specs.Claim.{SheetKept}
use Rattle.format.specs.declared.refusal.Refusal.{Refusal}
use Rattle.format.specs.Refusals.{number_of}
use Rattle.plan.specs.declared.answer.Planned.{Planned as Given}

-- a sheet that is given: its length, and the trials made for the radius, free of obstacles and with them; or the number of the refusal
pub data Planned : Type 0 where
  Sheet : ℕ → ℕ → ℕ → Planned
  Refused : ℕ → Planned

-- what the call returns: the number and the values of each case
abbrev pub answered : Result Given Refusal → Planned
answered (Ok given) = Sheet given.length given.free_trials given.obstacle_trials
answered (Err refusal) = Refused (number_of refusal)

-- a sheet is given where the number is 0
unfoldable pub planned : Plan → Planned
planned plan = cond (eqb plan.number 0) (Sheet plan.length plan.free_trials plan.obstacle_trials) (Refused plan.number)

-- the sheet's length
abbrev pub plan_length : Planned → ℕ
plan_length (Sheet length free-trials obstacle-trials) = length
plan_length (Refused number) = 0

-- the number of the refusal, and the trials free of obstacles and with them
abbrev pub plan_numbers : Planned → List ℕ
plan_numbers (Sheet length free-trials obstacle-trials) = 0 ∷ free-trials ∷ obstacle-trials ∷ []
plan_numbers (Refused number) = number ∷ 0 ∷ 0 ∷ []

-- what is claimed of a sheet: a job's bytes, and a buffer that begins with its sheet
abbrev pub Kept : Planned → List ℕ → List ℕ → Type 0
Kept (Sheet length free-trials obstacle-trials) job sheet = SheetKept job sheet
Kept (Refused number) job sheet = Unit {0}
