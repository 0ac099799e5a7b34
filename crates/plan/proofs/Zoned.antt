-- A job that was read is answered as the definition says, from what each step of the call ensures.
-- Rests on what is put beside the zones being theirs, and on the ceiling, the size and the sheet being the job's.
use Rattle.std.specs.Prelude.{ℕ, ◌≤◌, ◌≡◌, refl, Bool, true, false, List, length, Option}
use Rattle.std.proofs.Common.{sym, ◌∙◌, arith}
use Rattle.std.proofs.Math.Path.{ap}
use Rattle.std.proofs.lemmas.List.Edits.{sets}
use Rattle.laws.specs.Any.{all}
use Rattle.laws.specs.Lists.{written}
use Rattle.glyphs.specs.Rect.{sanitize_obstacles}
use Rattle.glyphs.specs.declared.rect.Rectangle.{Rectangle}
use Rattle.glyphs.specs.declared.rect.Point.{Point}
use Rattle.format.specs.RowLaws.{row_true, row_false}
use Rattle.sheet.specs.Sheet.{Placement, Sheet, sheet_of}
use Rattle.deepest.specs.declared.search.Deepest.{Deepest}
use Rattle.discs.specs.declared.rows.Row.{Row}
use Rattle.discs.specs.declared.radius.Size.{Size}
use Rattle.discs.specs.declared.options.GlyphOptions.{GlyphOptions}
use Rattle.discs.specs.Region.{Zone}
use Rattle.discs.specs.Searches.{had_room}
use Rattle.discs.specs.Floor.{Handed, EachRow, Floor, start, work_in}
use Rattle.job.specs.Job.{Job, job_of}
use Rattle.job.specs.Known.{RadiusKnown}
use Rattle.job.proofs.Known.{job_known}
use Rattle.relax.specs.declared.Spreading.{Spreading}
use Rattle.relax.specs.Scatter.{source}
use Rattle.job.specs.Plan.{ceiling_fault, low_fault}
use Rattle.plan.specs.Answer.{Answer, refused_by}
use Rattle.plan.specs.Rows.{Readable, flat_rows, all_rows, shares_at, fits_at, found_at}
use Rattle.plan.specs.Found.{Searched}
use Rattle.plan.specs.Placing.{placed_at, Fair}
use Rattle.plan.specs.Sized.{ceiling_for, sizing_for, answer_to, SheetPlanned}
use Rattle.plan.specs.Left.{Left, all_readable}
use Rattle.plan.specs.Own.{found_of, Filled}
use Rattle.plan.specs.Read.{search_fault_lem}
use Rattle.plan.specs.Put.{fits_put, filled_put}
use Rattle.plan.specs.Asked.{floor_is, all_fair}
use Rattle.plan.specs.Made.{Roomy}
use Rattle.plan.specs.Whole.{sized, put, low_is, sheet_is, free_is, walled_is}
use Rattle.plan.specs.Called.{ReadIn, zones_number, Answered}

same_answer :
    (a b : Sheet) (free free' walled walled' : ℕ) → a ≡ b → free ≡ free' → walled ≡ walled'
    → ◌≡◌ {A = Answer} (record { length = length (sheet_of a); number = 0; free_trials = free; obstacle_trials = walled })
    (record { length = length (sheet_of b); number = 0; free_trials = free'; obstacle_trials = walled' })
same_answer a b free free' walled walled' e f w = rw (e, f, w)

-- ---- a job each of whose searches had room, planned over its slices

module _
    (s : List ℕ) (rows : List Row) (rings sizes : List ℕ) (points : List Point) (shares : List ℕ) (deepest : List Deepest) (job : Job)
    (k : RadiusKnown job.options.radius) (room : Roomy job.options job.zones)
    (l : Left s rows rings sizes points job.zones start) (f : Filled job.options shares deepest job.zones start) where
  abbrev work : List Handed
  work = work_in s rows rings sizes points shares deepest

  abbrev size : Option Size
  size = sized s rows rings sizes points shares deepest job k room l f

  abbrev zones : List Placement
  zones = put s rows rings sizes points shares deepest job k room l f

  number_is : low_fault (ceiling_for job.options work job.options.radius) ≡ zones_number job
  number_is =
      let low = low_is s rows rings sizes points shares deepest job k room l f in
      let fits = all (λ (zone : Zone). all had_room (found_of job.options zone)) job.zones in
      rw (search_fault_lem job) (row_true fits true 15 (ceiling_fault job) (sym room) refl low)

  planned_job :
      (r : Answer) (sheet sheet' : List ℕ) → SheetPlanned (low_fault (ceiling_for job.options work job.options.radius)) size zones r sheet sheet'
      → Answered (zones_number job) job r sheet sheet'
  planned_job r sheet sheet' p =
      let same = sheet_is s rows rings sizes points shares deepest job k room l f in
      let free = free_is s rows rings sizes points shares deepest job k room l f in
      let walled = walled_is s rows rings sizes points shares deepest job k room l f in
      record {
        refused = λ (e : zones_number job ≡ 0 → ⊥). let g = p.refused (λ z. e (sym number_is ∙ z)) in (g.0 ∙ ap refused_by number_is, g.1);
        given = λ (e : zones_number job ≡ 0).
            let g = p.given (number_is ∙ e) in (
              g.0 ∙ (unfold answer_to in same_answer _ _ _ _ _ _ same free walled),
              g.1 ∙ ap (λ (t : Sheet). written (sheet_of t) sheet) same,
            );
      }

-- ---- a job that was read in

module _
    (s : List ℕ) (options : GlyphOptions) (obstacles : List Rectangle) (rows : List Row) (rings sizes : List ℕ) (points : List Point)
    (read : ReadIn s options obstacles rows rings sizes points) where
  pub rows_readable : EachRow rings sizes (Readable rings sizes points) rows start
  rows_readable = all_readable s rows rings sizes points (job_of s).zones start read.left

  -- its quotas are put, and its searches made
  module _
      (shares₀ shares : List ℕ) (h : length rings ≤ length shares₀)
      (e : shares ≡ sets shares₀ 0 (flat_rows rings sizes (shares_at rings sizes points) rows start))
      (deepest₀ deepest : List Deepest) (i : length rings ≤ length deepest₀) (b : Bool)
      (found :
      Searched 0 (all_rows rings sizes (fits_at rings sizes points options shares) rows start)
      (flat_rows rings sizes (found_at rings sizes points options shares) rows start) b deepest₀ deepest) where
    abbrev job_zones : List Zone
    job_zones = (job_of s).zones

    fits_own : b ≡ all (λ (zone : Zone). all had_room (found_of (job_of s).options zone)) job_zones
    fits_own = found.fits ∙ rw read.choices (fits_put (job_of s).options s rows rings sizes points job_zones read.left shares₀ shares h e)

    -- row 15
    pub refused_search : b ≡ false → (r : Answer) → r ≡ refused_by 15 → (sheet : List ℕ) → Answered (zones_number (job_of s)) (job_of s) r sheet sheet
    refused_search lacks r a sheet =
        let f : 15 ≡ zones_number (job_of s) =
        rw (search_fault_lem (job_of s)) (row_false _ b 15 (ceiling_fault (job_of s)) fits_own lacks (omega arith) refl) in
        record {
          refused = λ (z : zones_number (job_of s) ≡ 0 → ⊥). (a ∙ ap refused_by f, refl);
          given = λ (z : zones_number (job_of s) ≡ 0). absurd (omega (arith, f, z));
        }

    module _ (roomy : b ≡ true) where
      filled : Filled (job_of s).options shares deepest job_zones start
      filled =
          filled_put (job_of s).options s rows rings sizes points job_zones read.left shares₀ shares h e deepest₀ deepest i
          (rw read.choices at (found.put roomy))

      abbrev handed : List Handed
      handed = work_in s rows rings sizes points shares deepest

      pub zones_floor : Floor s rows rings sizes points shares deepest
      zones_floor = floor_is (job_of s).options s rings sizes points shares deepest rows job_zones read.left filled

      pub zones_fair :
          (numbers : Spreading) (pillars : List Rectangle) (size : Option Size)
          → EachRow rings sizes (Fair numbers size options pillars s rings sizes points shares deepest) rows start
      zones_fair numbers pillars size =
          rw read.choices (all_fair (job_of s).options s rings sizes points shares deepest numbers size pillars rows job_zones start read.left filled)

      -- row 16, and the sheet
      pub planned_zones :
          (pillars : List Rectangle) → pillars ≡ sanitize_obstacles obstacles → (r : Answer) (sheet sheet' : List ℕ)
          → SheetPlanned (low_fault (ceiling_for options handed options.radius)) (sizing_for source options pillars handed)
          (flat_rows rings sizes (placed_at source (sizing_for source options pillars handed) options pillars s rings sizes points shares deepest) rows start)
          r sheet sheet'
          → Answered (zones_number (job_of s)) (job_of s) r sheet sheet'
      planned_zones pillars same r sheet sheet' p =
          planned_job s rows rings sizes points shares deepest (job_of s) (job_known s read.whole).options.radius (sym fits_own ∙ roomy) read.left filled
          r sheet sheet' (rw (same, read.pillars, read.choices) at p)
