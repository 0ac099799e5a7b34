-- What is asked and answered of a job that was read into flat slices. Definitions only.
use Rattle.std.specs.Prelude.{ℕ, ◌≡◌, List, length}
use Rattle.laws.specs.Lists.{written}
use Rattle.glyphs.specs.Rect.{rectangles}
use Rattle.glyphs.specs.declared.rect.Rectangle.{Rectangle}
use Rattle.glyphs.specs.declared.rect.Point.{Point}
use Rattle.sheet.specs.Sheet.{sheet_of}
use Rattle.discs.specs.declared.rows.Row.{Row}
use Rattle.discs.specs.declared.options.GlyphOptions.{GlyphOptions}
use Rattle.discs.specs.PlaceGlyphs.{Placements}
use Rattle.discs.specs.Floor.{start}
use Rattle.format.specs.Rows.{◌or_else◌}
use Rattle.job.specs.Job.{Job, job_of, items_fault, sheet_fault}
use Rattle.job.specs.Plan.{search_fault, ceiling_fault, placements_of, sheet_for, Plan}
use Rattle.plan.specs.Answer.{Answer, refused_by}
use Rattle.plan.specs.Left.{Left}

-- a job without fault that stands in the slices
pub record ReadIn
    (s : List ℕ) (options : GlyphOptions) (obstacles : List Rectangle) (rows : List Row) (rings sizes : List ℕ) (points : List Point) :
    Type 0 where
  pub whole : items_fault s ≡ 0
  pub choices : options ≡ (job_of s).options
  pub pillars : obstacles ≡ rectangles (job_of s).obstacles
  pub left : Left s rows rings sizes points (job_of s).zones start

abbrev pub given_by : Placements → Answer
given_by placements =
    record {
      length = length (sheet_of (sheet_for placements));
      number = 0;
      free_trials = placements.free_trials;
      obstacle_trials = placements.obstacle_trials;
    }

-- refused with the fault, and the sheet buffer as it was; without one, given the sheet
pub record Answered (fault : ℕ) (job : Job) (r : Answer) (sheet sheet' : List ℕ) : Type 0 where
  pub refused : (fault ≡ 0 → ⊥) → (r ≡ refused_by fault) × (sheet' ≡ sheet)
  pub given : fault ≡ 0 → (r ≡ given_by (placements_of job)) × (sheet' ≡ written (sheet_of (sheet_for (placements_of job))) sheet)

-- rows 15 and 16
abbrev pub zones_number : Job → ℕ
zones_number job = search_fault job or_else ceiling_fault job

-- rows 3 to 16
abbrev pub items_number : List ℕ → ℕ → ℕ
items_number s sheet = items_fault s or_else sheet_fault (job_of s) sheet or_else zones_number (job_of s)

abbrev pub answer_of : Plan → Answer
answer_of plan = record { length = plan.length; number = plan.number; free_trials = plan.free_trials; obstacle_trials = plan.obstacle_trials }
