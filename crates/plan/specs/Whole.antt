-- The sheet made of a job's zones as they lie in the slices is the definition's: its radius, its zones, and the trials made for it.
-- Rests on the size and the zones put being the definition's, and on a stated radius being a number that is not negative.
use Rattle.std.specs.Prelude.{ℕ, zero, suc, ◌*◌, ◌^◌, ◌<◌, ◌≤◌, Bool, cond, ◌&&◌, T, eqb, Float, None, Some, Option}
use Rattle.std.proofs.Math.Path.{◌≡◌, refl, ap}
use Rattle.std.proofs.Common.{sym, ◌∙◌, arith, eqb→eq, pow_pos}
use Rattle.std.proofs.Math.Bool.{true, false}
use mathlib.Core.List.{List, [], ◌∷◌, map, map-map}
use Rattle.std.proofs.Math.ListN.{length}
use Rattle.std.specs.Float.Ieee
use Rattle.std.specs.Float.{nan, inf, fin}
use Rattle.std.specs.Float.Ieee.Bits.{is_true}
use Rattle.laws.specs.Any.{all}
use Rattle.laws.specs.Truth.{both_true}
use Rattle.float.specs.Ops.{◌>ᶠ◌, 0ᶠ, ∞}
use Rattle.float.specs.Order.{abs, max}
use Rattle.rounding.specs.Signed.{Exact, nat, ◌≼◌, ◌≺◌, ◌≈◌}
use Rattle.rounding.specs.Value.{Num, val}
use Rattle.rounding.specs.Comparison.{≺→lt}
use Rattle.rounding.specs.Signs.{Nonneg, zero_num, zero_val}
use Rattle.rounding.specs.Selection.{max_zero_same}
use Rattle.glyphs.specs.Rect.{is_finite, rectangles, sanitize_obstacles}
use Rattle.glyphs.specs.declared.rect.Rectangle.{Rectangle}
use Rattle.glyphs.specs.declared.rect.Point.{Point}
use Rattle.format.specs.Numbers.{share}
use Rattle.format.specs.Exact.{share_exact, share_value}
use Rattle.sheet.specs.Sheet.{Placement, Sheet}
use Rattle.deepest.specs.declared.search.Deepest.{Deepest}
use Rattle.discs.specs.declared.rows.Row.{Row}
use Rattle.discs.specs.declared.options.GlyphOptions.{GlyphOptions}
use Rattle.discs.specs.declared.options.Radius.{Radius}
use Rattle.discs.specs.declared.options.Radius.TheVariants.{Auto, Stated}
use Rattle.discs.specs.declared.radius.Size.{Size}
use Rattle.discs.specs.Region.{Zone}
use Rattle.discs.specs.Radius.{if_positive, analytic_r_hi}
use Rattle.discs.specs.PlaceGlyphs.{Placements, is_left_in, work_of, size_for, pack_at, sizing, stated_radius, place_glyphs}
use Rattle.discs.specs.Searches.{had_room}
use Rattle.discs.specs.Floor.{Handed, handed_work, start, work_in}
use Rattle.job.specs.Job.{Job}
use Rattle.job.specs.Known.{Shares, RadiusKnown}
use Rattle.relax.specs.Scatter.{source}
use Rattle.job.specs.Plan.{room, low_fault, ceiling_fault, placements_of, placement_of, sheet_for}
use Rattle.plan.specs.Walk.{never}
use Rattle.plan.specs.Rows.{flat_rows}
use Rattle.plan.specs.Left.{Left}
use Rattle.plan.specs.Placing.{place_for, placement_for, placed_at}
use Rattle.plan.specs.Sized.{ceiling_for, sizing_for, size_of}
use Rattle.plan.specs.Own.{found_of, own_of, Filled, handed_zones}
use Rattle.plan.specs.Packing.{packs_at, packing_own}
use Rattle.plan.specs.Placements.{placed_of, place_own, placed_are}
use Rattle.plan.specs.Made.{Roomy, ceiling_is, sizing_is}

-- ---- a zone put at the size of a job

-- where there is a size, the packing is the zone's own
put_own :
    (options : GlyphOptions) (fits : List Rectangle → Float → Bool) (pillars obstacles : List Rectangle) (zone : Zone) → is_left_in zone ≡ true
    → all had_room (found_of options zone) ≡ true
    → (radius : Radius) → options.radius ≡ radius → (top : Option Float)
    → placement_for source (size_for fits pillars radius top) options obstacles (own_of options zone)
    ≡ placement_of (placed_of (size_for fits pillars radius top) options obstacles zone)
unfolding size_for
put_own options fits pillars obstacles zone l h = go
  where
    none : placement_for source None options obstacles (own_of options zone) ≡ placement_of (placed_of None options obstacles zone)
    none = unfold placement_for placement_of placed_of place_for in refl

    some :
        (size : Size) → packs_at options.radius ≡ true
        → placement_for source (Some size) options obstacles (own_of options zone) ≡ placement_of (placed_of (Some size) options obstacles zone)
    some size p = place_own (Some size) options obstacles zone (packing_own options zone p l h)

    stated :
        (r : Float) → options.radius ≡ Stated r → (b : Bool) → (r >ᶠ 0ᶠ && is_finite r) ≡ b → (size : Size)
        → placement_for source (cond b (Some size) None) options obstacles (own_of options zone)
        ≡ placement_of (placed_of (cond b (Some size) None) options obstacles zone)
    stated r e true p size = some size (unfold packs_at in rw e (both_true (r >ᶠ 0ᶠ) (is_finite r) p).0)
    stated r e false p size = none

    go :
        (radius : Radius) → options.radius ≡ radius → (top : Option Float)
        → placement_for source (size_for fits pillars radius top) options obstacles (own_of options zone)
        ≡ placement_of (placed_of (size_for fits pillars radius top) options obstacles zone)
    go Auto e None = unfold size_for in none
    go Auto e (Some r-hi) = unfold size_for in some _ (unfold packs_at in rw e)
    go (Stated r) e top = unfold size_for in stated r e (r >ᶠ 0ᶠ && is_finite r) refl _

-- ---- the size where no zone is left in

finite_is : (x : Float) → Num x → is_finite x ≡ true
unfolding is_finite abs Ieee.lt Ieee.of_bits Ieee.of_fields Ieee.odd
finite_is nan n = absurd n.fine
finite_is (inf s) n = absurd n.fine
finite_is (fin s m e) n = refl

endless : is_finite ∞ ≡ false
unfolding is_finite abs Ieee.lt Ieee.of_bits Ieee.of_fields Ieee.odd
endless = refl

share_none : share 0 ≡ 0ᶠ
unfolding share Ieee.of_int Ieee.div Ieee.round Ieee.size Ieee.units Ieee.of_bits Ieee.of_fields Ieee.odd
share_none = refl

share_some : (n : ℕ) → suc n ≤ 1048576 → share (suc n) >ᶠ 0ᶠ ≡ true
share_some n h =
    is_true _
    (≺→lt 0ᶠ (share (suc n)) zero_num (share_exact (suc n) (omega arith)).num
    (rw zero_val (above (val (share (suc n))) n (2 ^ 1064) (pow_pos 1064) (share_value (suc n) (omega arith)))))
  where
    above : (v : Exact) (n g : ℕ) → 0 < g → v ≈ nat (suc n * g) → nat 0 ≺ v
    above v n g p e = omega arith

module _ (r : Float) (s : Shares 0 1048576 r) where
  stated_num : Num r
  stated_num = rw s.is (share_exact s.number (omega (arith, s.to))).num

  stated_nonneg : Nonneg r
  stated_nonneg = rw s.is (above (val (share s.number)) (s.number * 2 ^ 1064) (share_value s.number (omega (arith, s.to))))
    where
      above : (v : Exact) (m : ℕ) → v ≈ nat m → nat 0 ≼ v
      above v m e = omega arith

  not_above : r >ᶠ 0ᶠ ≡ false → r ≡ 0ᶠ
  not_above e = go s.number s.to s.is
    where
      go : (n : ℕ) → n ≤ 1048576 → r ≡ share n → r ≡ 0ᶠ
      go zero h i = i ∙ share_none
      go (suc n) h i = absurd (never (sym e ∙ rw i (share_some n h)))

  stated_size :
      (fits : List Rectangle → Float → Bool) (pillars : List Rectangle) (top : Option Float)
      → ◌≡◌ {A = Size} (size_of (size_for fits pillars (Stated r) top)) (record { radius = max r 0ᶠ; free_trials = 0; obstacle_trials = 0 })
  unfolding size_for size_of
  stated_size fits pillars top = rw (finite_is r stated_num, max_zero_same r stated_num stated_nonneg) (go (r >ᶠ 0ᶠ) refl)
    where
      go :
          (b : Bool) → r >ᶠ 0ᶠ ≡ b
          → ◌≡◌ {A = Size} (size_of (cond (b && true) (Some (record { radius = r; free_trials = 0; obstacle_trials = 0 })) None))
          (record { radius = r; free_trials = 0; obstacle_trials = 0 })
      go true e = unfold size_of in refl
      go false e = unfold size_of in rw (not_above e)

-- ---- all placements

module _ (options : GlyphOptions) (given : List Rectangle) (zones : List Zone) where
  -- radius, trials and zones as the sizing says
  made : Option Size → Placements
  made size =
      record {
        radius = (size_of size).radius;
        free_trials = (size_of size).free_trials;
        obstacle_trials = (size_of size).obstacle_trials;
        zones = map (placed_of size options (sanitize_obstacles given)) (work_of zones);
      }

  packed : (size : Option Size) → pack_at room source options given zones size ≡ made size
  unfolding pack_at size_of placed_of made
  packed None = refl
  packed (Some size) = refl

  size_alone :
      (radius : Radius) → RadiusKnown radius → (fits : List Rectangle → Float → Bool) (gap precision : Float)
      → ◌≡◌ {A = Size} (size_of (size_for fits (sanitize_obstacles given) radius (analytic_r_hi room [] gap precision)))
      (record { radius = stated_radius room source options given zones radius; free_trials = 0; obstacle_trials = 0 })
  size_alone Auto k fits gap precision =
      unfold analytic_r_hi if_positive size_for size_of in rw (endless, max_zero_same 0ᶠ zero_num (rw zero_val (omega arith)))
  size_alone (Stated r) k fits gap precision = stated_size r k fits (sanitize_obstacles given) (analytic_r_hi room [] gap precision)

  alone : RadiusKnown options.radius → work_of zones ≡ []
      → ◌≡◌ {A = Placements}
      (record { radius = stated_radius room source options given zones options.radius; free_trials = 0; obstacle_trials = 0; zones = [] })
      (made (sizing room source options given zones))
  unfolding made
  alone k e =
      let n : ◌≡◌ {A = Size} (size_of (sizing room source options given zones))
      (record { radius = stated_radius room source options given zones options.radius; free_trials = 0; obstacle_trials = 0 }) =
      unfold sizing in rw e (size_alone options.radius k _ _ _) in
      rw (n, e)

  glyphs_are : RadiusKnown options.radius → place_glyphs room source options given zones ≡ made (sizing room source options given zones)
  unfolding place_glyphs
  glyphs_are k = go (eqb (length (work_of zones)) 0) (eqb→eq (length (work_of zones)) 0)
    where
      nothing : (work : List Zone) → length work ≡ 0 → work ≡ []
      nothing [] e = refl
      nothing (zone ∷ work) e = absurd (omega (arith, e))

      go :
          (b : Bool) → (T b → length (work_of zones) ≡ 0)
          → ◌≡◌ {A = Placements}
          (cond b (record { radius = stated_radius room source options given zones options.radius; free_trials = 0; obstacle_trials = 0; zones = [] })
          (pack_at room source options given zones (sizing room source options given zones)))
          (made (sizing room source options given zones))
      go true e = alone k (nothing (work_of zones) (e tt))
      go false e = packed (sizing room source options given zones)

-- ---- a job as it lies in the slices, each of whose searches had room
module _
    (s : List ℕ) (rows : List Row) (rings sizes : List ℕ) (points : List Point) (shares : List ℕ) (deepest : List Deepest) (job : Job)
    (k : RadiusKnown job.options.radius) (r : Roomy job.options job.zones)
    (l : Left s rows rings sizes points job.zones start) (f : Filled job.options shares deepest job.zones start) where
  abbrev given : List Rectangle
  given = rectangles job.obstacles

  abbrev pub sized : Option Size
  sized = sizing_for source job.options (sanitize_obstacles (rectangles job.obstacles)) (work_in s rows rings sizes points shares deepest)

  abbrev pub put : List Placement
  put =
      flat_rows rings sizes (placed_at source sized job.options (sanitize_obstacles (rectangles job.obstacles)) s rings sizes points shares deepest) rows start

  work_is : work_in s rows rings sizes points shares deepest ≡ handed_work (map (own_of job.options) job.zones)
  work_is = ap handed_work (handed_zones job.options s rows rings sizes points shares deepest job.zones start l f)

  size_is : sized ≡ sizing room source job.options given job.zones
  size_is = ap (λ (hs : List Handed). sizing_for source job.options (sanitize_obstacles given) hs) work_is ∙ sizing_is job.options job.zones r given

  -- row 16
  pub low_is : low_fault (ceiling_for job.options (work_in s rows rings sizes points shares deepest) job.options.radius) ≡ ceiling_fault job
  unfolding ceiling_fault
  low_is = ap low_fault (ap (λ (hs : List Handed). ceiling_for job.options hs job.options.radius) work_is ∙ ceiling_is job.options job.zones r)

  placements_are : placements_of job ≡ made job.options given job.zones sized
  unfolding placements_of
  placements_are = glyphs_are job.options given job.zones k ∙ ap (made job.options given job.zones) (sym size_is)

  put_is : put ≡ map placement_of (map (placed_of sized job.options (sanitize_obstacles given)) (work_of job.zones))
  put_is =
      placed_are sized job.options (sanitize_obstacles given) s rings sizes points shares deepest own rows job.zones start l f r
      ∙ sym (map-map placement_of (placed_of sized job.options (sanitize_obstacles given)) (work_of job.zones))
    where
      own :
          (zone : Zone) → is_left_in zone ≡ true → all had_room (found_of job.options zone) ≡ true
          → placement_for source sized job.options (sanitize_obstacles given) (own_of job.options zone)
          ≡ placement_of (placed_of sized job.options (sanitize_obstacles given) zone)
      own zone i h = unfold sizing_for in put_own job.options _ (sanitize_obstacles given) (sanitize_obstacles given) zone i h job.options.radius refl _

  -- the sheet
  pub sheet_is : ◌≡◌ {A = Sheet} (record { radius = (size_of sized).radius; zones = put }) (sheet_for (placements_of job))
  unfolding sheet_for made
  sheet_is = rw (placements_are, put_is)

  -- the trials
  pub free_is : (size_of sized).free_trials ≡ (placements_of job).free_trials
  unfolding made
  free_is = rw placements_are

  pub walled_is : (size_of sized).obstacle_trials ≡ (placements_of job).obstacle_trials
  unfolding made
  walled_is = rw placements_are
