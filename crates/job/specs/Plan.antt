-- The call, from job bytes to sheet: the number of its refusal, its answer, and what the lent slices hold after it. Definitions only.
use Rattle.std.specs.Prelude.{ℕ, ◌-◌, cond, ◌||◌, length, replicate, eqb, Float, None, Some, Option}
use mathlib.Core.List.{List, map, flatten}
use Rattle.laws.specs.Any.{all}
use Rattle.laws.specs.Lists.{written}
use Rattle.float.specs.Ops.{◌≥ᶠ◌, 0ᶠ, literal}
use Rattle.glyphs.specs.Rect.{rectangles}
use Rattle.glyphs.specs.Spots.{flat}
use Rattle.relax.specs.Scatter.{source}
use Rattle.discs.specs.declared.options.GlyphOptions.{GlyphOptions}
use Rattle.discs.specs.declared.options.Radius.{Radius}
use Rattle.discs.specs.declared.options.Radius.TheVariants.{Auto, Stated}
use Rattle.discs.specs.Region.{Zone, quotas, placed_in}
use Rattle.discs.specs.Searches.{searches_in, had_room}
use Rattle.discs.specs.Radius.{boundary_gap_of, analytic_r_hi}
use Rattle.discs.specs.PlaceGlyphs.{Placed, Placements, work_of, place_glyphs}
use Rattle.format.specs.Rows.{◌unless◌, ◌or_else◌}
use Rattle.sheet.specs.Sheet.{Placement, Sheet, sheet_of}
use Rattle.job.specs.Head.{lent_fault, work_fault}
use Rattle.job.specs.Job.{Job, job_of, items_fault, sheet_fault}

-- ---- row 15, the deepest-point searches that the reference makes

-- so many cells may wait at once
abbrev pub room : ℕ
room = 1600

unfoldable pub search_fault : Job → ℕ
search_fault job =
    15 unless all (λ (zone : Zone). all had_room (searches_in room job.options zone.pieces (quotas zone))) (work_of job.zones)

-- ---- row 16, the ceiling, which only an automatic radius has

-- 2^-10
abbrev pub least_ceiling : Float
least_ceiling = literal 0x3f50_0000_0000_0000

unfoldable pub low_fault : Option Float → ℕ
low_fault None = 0
low_fault (Some r-hi) = 16 unless (r-hi ≥ᶠ least_ceiling)

unfoldable pub ceiling_of : GlyphOptions → List Zone → Radius → Option Float
ceiling_of options work Auto = analytic_r_hi room work (boundary_gap_of options) options.precision
ceiling_of options work (Stated r) = None

unfoldable pub ceiling_fault : Job → ℕ
ceiling_fault job = low_fault (ceiling_of job.options (work_of job.zones) job.options.radius)

-- ---- all rows, by the order of the checks: the number of a refusal, and 0 where the job is given its sheet

unfoldable pub number_of : List ℕ → List Float → List Float → List ℕ → ℕ
number_of s first second sheet =
    lent_fault s
    or_else work_fault (length first) (length second)
    or_else items_fault s
    or_else sheet_fault (job_of s) (length sheet)
    or_else search_fault (job_of s)
    or_else ceiling_fault (job_of s)

-- ---- what is given

unfoldable pub placements_of : Job → Placements
placements_of job = place_glyphs room source job.options (rectangles job.obstacles) job.zones

-- a zone left in: x and y of the spots of its pieces, piece after piece
unfoldable pub placement_of : Placed → Placement
placement_of placed =
    record {
      key = placed.zone.key;
      unplaced = placed.zone.count - placed_in placed.spots;
      spots = flat (flatten placed.spots);
    }

unfoldable pub sheet_for : Placements → Sheet
sheet_for placements = record { radius = placements.radius; zones = map placement_of placements.zones }

-- ---- the call

-- the first 8,000 floats are +0; untouched after 1 and 2
unfoldable pub work_after : ℕ → List Float → List Float
work_after number work = cond (eqb number 1 || eqb number 2) work (written (replicate 8000 0ᶠ) work)

-- the sheet's length, the number of the refusal, the trials made free of obstacles and with them; the two work slices and the sheet buffer after the call
pub record Plan : Type 0 where
  pub length : ℕ
  pub number : ℕ
  pub free_trials : ℕ
  pub obstacle_trials : ℕ
  pub first : List Float
  pub second : List Float
  pub sheet : List ℕ

unfoldable pub refused : ℕ → List Float → List Float → List ℕ → Plan
refused number first second sheet =
    record {
      length = 0;
      number = number;
      free_trials = 0;
      obstacle_trials = 0;
      first = work_after number first;
      second = work_after number second;
      sheet = sheet;
    }

unfoldable pub given : Placements → List Float → List Float → List ℕ → Plan
given placements first second sheet =
    let bytes = sheet_of (sheet_for placements) in
    record {
      length = length bytes;
      number = 0;
      free_trials = placements.free_trials;
      obstacle_trials = placements.obstacle_trials;
      first = work_after 0 first;
      second = work_after 0 second;
      sheet = written bytes sheet;
    }

unfoldable pub plan_of : List ℕ → List Float → List Float → List ℕ → Plan
plan_of s first second sheet =
    let number = number_of s first second sheet in
    cond (eqb number 0) (given (placements_of (job_of s)) first second sheet) (refused number first second sheet)
