-- Of every job that is not refused, the sheet keeps what is claimed of it: clearances, exact distances, pillars under Strict, quotas.
-- Rests on the laws of its zones and of the radius, and on the sheet's bytes being read back.
use Rattle.std.specs.Prelude.{◌≡◌, refl, Bool, true, false, not, cond, ◌&&◌, List, [], ◌∷◌, ◌++◌, map, ℕ, suc, ◌*◌, ◌≤◌, ◌<◌, T, eqb, ltb, length, Float, None}
use Rattle.std.specs.Prelude.{Some, Option}
use Rattle.std.proofs.Common.{sym, ap, subst, ◌∙◌, arith, eqb→eq, ltb→lt, eq-eqb}
use Rattle.std.proofs.lemmas.List.{length-map}
use Rattle.std.specs.Float.Ieee.{of_bits, fits}
use Rattle.laws.specs.Every.{Every, every_weaken}
use Rattle.laws.specs.Lists.{written}
use Rattle.laws.specs.Truth.{yes}
use Rattle.float.specs.Ops.{◌≥ᶠ◌}
use Rattle.rounding.specs.Signed.{plain, signed, ◌≼◌}
use Rattle.rounding.specs.Value.{U, sgn, mag, val, Num}
use Rattle.rounding.specs.Comparison.{le→≼}
use Rattle.glyphs.specs.Rect.{rectangles}
use Rattle.discs.specs.Region.{Zone}
use Rattle.discs.specs.declared.options.Radius.{Radius}
use Rattle.discs.specs.declared.options.Radius.TheVariants.{Auto, Stated}
use Rattle.discs.specs.Radius.{boundary_gap_of, analytic_r_hi}
use Rattle.discs.specs.PlaceGlyphs.{Placed, is_left_in, work_of}
use Rattle.format.specs.RowLaws.{both, passed}
use Rattle.format.specs.Known.{All, PieceKnown}
use Rattle.sheet.specs.Sheet.{sheet_of}
use Rattle.sheet.specs.Back.{WritableSheet}
use Rattle.sheet.proofs.Back.{sheet_back}
use Rattle.job.specs.Head.{lent_fault, work_fault}
use Rattle.job.specs.Job.{Job, job_of, items_fault, sheet_fault}
use Rattle.job.specs.Known.{ZoneKnown, marks_of, JobKnown}
use Rattle.job.proofs.Known.{job_known}
use Rattle.relax.specs.Scatter.{source}
use Rattle.job.specs.Plan.{room, least_ceiling, low_fault, ceiling_of, search_fault, ceiling_fault, number_of, placements_of, placement_of, sheet_for, Plan}
use Rattle.job.specs.Plan.{given, refused, plan_of}
use Rattle.claims.specs.Claim.{pillars_of, SheetKept}
use Rattle.claims.specs.Ceilings.{Top}
use Rattle.claims.proofs.Ceilings.{ceiling_known}
use Rattle.claims.specs.Chosen.{High, TopKnown}
use Rattle.claims.proofs.Entries.{all_writable, zones_kept}
use Rattle.claims.specs.Measured.{boundary_gap_lem}
use Rattle.claims.specs.Placings.{LeftIn}
use Rattle.claims.proofs.Placings.{placements_kept}

-- ---- the zones left in
left_in : (zones : List Zone) → All ZoneKnown zones → marks_of zones ≤ 2000 → Every LeftIn (work_of zones)
unfolding work_of is_left_in marks_of
left_in [] k m = tt
left_in (zone ∷ zones) k m = go (ltb 0 zone.count) (ltb 0 (length zone.pieces)) (ltb→lt 0 (length zone.pieces)) (left_in zones k.1 (omega arith))
  where
    go : (a b : Bool) → (T b → 0 < length zone.pieces) → Every LeftIn (work_of zones) → Every LeftIn (cond (a && b) (zone ∷ work_of zones) (work_of zones))
    go true true f later = (record { known = k.0; some = f tt; few = omega arith }, later)
    go true false f later = later
    go false b f later = later

few_left : (zones : List Zone) → length (work_of zones) ≤ length zones
unfolding work_of
few_left [] = omega arith
few_left (zone ∷ zones) = go (is_left_in zone) (few_left zones)
  where
    go : (t : Bool) → length (work_of zones) ≤ length zones → length (cond t (zone ∷ work_of zones) (work_of zones)) ≤ suc (length zones)
    go true h = omega arith
    go false h = omega arith

every_unmap : {A B : Type 0} (P : B → Type 0) (f : A → B) (xs : List A) → Every P (map f xs) → Every (λ (x : A). P (f x)) xs
every_unmap P f [] h = tt
every_unmap P f (x ∷ xs) h = (h.0, every_unmap P f xs h.1)

-- ---- the ceiling of an accepted job, where its radius is automatic
abbrev most : ℕ
most = 1031

least_num : Num least_ceiling
unfolding of_bits fits
least_num = record { fit = tt; fine = tt }

least_val : val least_ceiling ≡ signed false (mag least_ceiling)
unfolding of_bits sgn
least_val = refl

least_is : mag least_ceiling * 1024 ≡ U
unfolding of_bits mag U
least_is = refl

high : (r-hi : Float) → Top r-hi → low_fault (Some r-hi) ≡ 0 → High most r-hi
unfolding low_fault
high r-hi t e =
    let l : signed false (mag least_ceiling) ≼ val r-hi =
    rw least_val at (le→≼ least_ceiling r-hi least_num t.sized.num (yes (passed 16 (r-hi ≥ᶠ least_ceiling) (omega arith) e))) in
    record { sized = t.sized; nonneg = t.nonneg; least = omega (arith, l, least_is, plain (sgn r-hi) (mag r-hi) t.nonneg) }

top_known :
    (job : Job) → JobKnown job → ceiling_fault job ≡ 0
    → TopKnown most job.options.radius (analytic_r_hi room (work_of job.zones) (boundary_gap_of job.options) job.options.precision)
unfolding ceiling_fault ceiling_of
top_known job k e = go job.options.radius e _ refl
  where
    go :
        (radius : Radius) → low_fault (ceiling_of job.options (work_of job.zones) radius) ≡ 0 → (top : Option Float)
        → analytic_r_hi room (work_of job.zones) (boundary_gap_of job.options) job.options.precision ≡ top → TopKnown most radius top
    go (Stated r) e top q = tt
    go Auto e None q = tt
    go Auto e (Some r-hi) q =
        let g = boundary_gap_lem job.options k.options in
        let known =
        every_weaken LeftIn (λ (zone : Zone). All PieceKnown zone.pieces) (work_of job.zones) (λ zone l. l.known.pieces)
        (left_in job.zones k.zones k.marks) in
        high r-hi (ceiling_known room (boundary_gap_of job.options) job.options.precision g.sized g.nonneg (work_of job.zones) known r-hi q)
        (subst (λ (c : Option Float). low_fault c ≡ 0) q e)

-- ---- the whole
accepted : (s : List ℕ) (first second : List Float) (sheet : List ℕ) → number_of s first second sheet ≡ 0 → (items_fault s ≡ 0) × (ceiling_fault (job_of s) ≡ 0)
unfolding number_of
accepted s first second sheet e =
    let a = (both (lent_fault s) _ e).1 in
    let b = (both (work_fault (length first) (length second)) _ a).1 in
    let c = both (items_fault s) _ b in
    let d = (both (sheet_fault (job_of s) (length sheet)) _ c.1).1 in
    (c.0, (both (search_fault (job_of s)) _ d).1)

-- a job without fault, its sheet and any bytes after it
kept : (s : List ℕ) → items_fault s ≡ 0 → ceiling_fault (job_of s) ≡ 0 → (ys : List ℕ) → SheetKept s (sheet_of (sheet_for (placements_of (job_of s))) ++ ys)
unfolding placements_of sheet_for
kept s i c ys =
    let job = job_of s in
    let p = placements_of job in
    let k = job_known s i in
    let l = left_in job.zones k.zones k.marks in
    let h = placements_kept most (omega arith) (omega arith) source job.options k.options (rectangles job.obstacles) job.zones l (top_known job k c) in
    let few : length p.zones ≤ 64 =
    omega (arith, sym (length-map p.zones (λ (placed : Placed). placed.zone)), ap length h.same, few_left job.zones, k.few_zones) in
    let inside : Every (λ (placed : Placed). LeftIn placed.zone) p.zones = every_unmap LeftIn (λ (placed : Placed). placed.zone) p.zones (rw h.same l) in
    let w : WritableSheet (sheet_for p) =
    record {
      fit = h.fit;
      few = rw (length-map p.zones placement_of) (omega (arith, few));
      zones = all_writable job.options (pillars_of job) p.radius p.zones inside h.own;
    } in
    record {
      left_in = h.same;
      radius = rw (sheet_back (sheet_for p) ys w);
      zones = rw (sheet_back (sheet_for p) ys w) (zones_kept job.options (pillars_of job) p.radius p.zones inside h.own);
    }

-- THE CLAIM: whatever bytes and slices are lent, where the call gives a sheet
pub every_sheet_kept :
    (s : List ℕ) (first second : List Float) (sheet : List ℕ) → (plan_of s first second sheet).number ≡ 0 → SheetKept s (plan_of s first second sheet).sheet
unfolding plan_of given refused written
every_sheet_kept s first second sheet e = go (eqb n 0) refl e
  where
    n : ℕ
    n = number_of s first second sheet

    plan : Bool → Plan
    plan t = cond t (given (placements_of (job_of s)) first second sheet) (refused n first second sheet)

    go : (t : Bool) → eqb n 0 ≡ t → (plan t).number ≡ 0 → SheetKept s (plan t).sheet
    go true f e = let a = accepted s first second sheet (eqb→eq n 0 (yes f)) in kept s a.0 a.1 _
    go false f e = absurd (subst (λ (t : Bool). T (not t)) (sym f ∙ eq-eqb n 0 e) tt)
