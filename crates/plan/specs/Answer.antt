-- What the call answers, by numbers: the number and the values of each case. Definitions only.
use Rattle.std.specs.Prelude.{ℕ, Result, Ok, Err}
use Rattle.format.specs.declared.refusal.Refusal.{Refusal}
use Rattle.format.specs.Refusals.{number_of}
use Rattle.plan.specs.declared.answer.Planned.{Planned}

-- the sheet's length, the number of the refusal, and the trials made for the radius, free of obstacles and with them
pub record Answer : Type 0 where
  pub length : ℕ
  pub number : ℕ
  pub free_trials : ℕ
  pub obstacle_trials : ℕ

abbrev pub refused_by : ℕ → Answer
refused_by number = record { length = 0; number = number; free_trials = 0; obstacle_trials = 0 }

abbrev pub answer_in : Result Planned Refusal → Answer
answer_in (Ok planned) = record { length = planned.length; number = 0; free_trials = planned.free_trials; obstacle_trials = planned.obstacle_trials }
answer_in (Err refusal) = refused_by (number_of refusal)
