-- What is known of a job without fault: the ranges of its options, its coordinates, its zones and their marks.
-- Rests on the laws of rows and runs, and on coordinates being exact.
use Rattle.std.specs.Prelude.{ℕ, zero, suc, ◌+◌, ◌≤◌, ◌≡◌, refl, Bool, true, false, cond, List, [], ◌∷◌, length, eqb, Float, None, Some, Option}
use Rattle.std.proofs.Common.{arith}
use Rattle.discs.specs.Region.{Zone}
use Rattle.discs.specs.declared.options.Radius.{Radius}
use Rattle.discs.specs.declared.options.Radius.TheVariants.{Auto, Stated}
use Rattle.discs.specs.declared.options.GlyphOptions.{GlyphOptions}
use Rattle.format.specs.Numbers.{u8, u32, share}
use Rattle.format.specs.RowLaws.{both}
use Rattle.format.specs.NumberLaws.{item_passed}
use Rattle.format.specs.Exact.{Coordinate}
use Rattle.format.specs.Known.{All, PieceKnown}
use Rattle.job.specs.Head.{radius_kind_at, radius_at, gap_at, boundary_kind_at, boundary_gap_at, precision_at, attempts_at, number_after, choices_fault}
use Rattle.job.specs.Head.{measures_fault, head_fault, radius_of, boundary_of, options_of}
use Rattle.job.specs.Job.{Job}

-- ---- options

-- x is a number of 1/1024 in least..most
pub record Shares (least most : ℕ) (x : Float) : Type 0 where
  pub number : ℕ
  pub from : least ≤ number
  pub to : number ≤ most
  pub is : x ≡ share number

abbrev pub RadiusKnown : Radius → Type 0
RadiusKnown Auto = Unit {0}
RadiusKnown (Stated x) = Shares 0 1048576 x

abbrev pub BoundaryKnown : Option Float → Type 0
BoundaryKnown None = Unit {0}
BoundaryKnown (Some x) = Shares 0 16384 x

pub record OptionsKnown (o : GlyphOptions) : Type 0 where
  pub radius : RadiusKnown o.radius
  pub gap : Shares 0 16384 o.gap
  pub boundary : BoundaryKnown o.boundary_gap
  pub precision : Shares 1 1048576 o.precision
  pub attempts : o.max_attempts ≤ 2000

number_known : (kind : ℕ) (s : List ℕ) (at most : ℕ) → number_after kind s at most ≡ 0 → u32 s at ≤ most
unfolding number_after
number_known zero s at most e = omega (arith, (item_passed 4 s at 0 0 5 (omega arith) e).to)
number_known (suc kind) s at most e = (item_passed 4 s at 0 most 4 (omega arith) e).to

radius_known : (b : Bool) (n : ℕ) → n ≤ 1048576 → RadiusKnown (cond b Auto (Stated (share n)))
radius_known true n h = tt
radius_known false n h = record { number = n; from = omega arith; to = h; is = refl }

boundary_known : (b : Bool) (n : ℕ) → n ≤ 16384 → BoundaryKnown (cond b None (Some (share n)))
boundary_known true n h = tt
boundary_known false n h = record { number = n; from = omega arith; to = h; is = refl }

pub options_known : (s : List ℕ) → head_fault s ≡ 0 → OptionsKnown (options_of s)
unfolding head_fault choices_fault measures_fault options_of radius_of boundary_of
options_known s e =
    let h = (both _ _ e).1 in
    let c = (both _ _ (both _ _ (both _ _ (both _ _ h).0).1).1).1 in
    let m = (both _ _ h).1 in
    let m1 = (both _ _ m).1 in
    let m2 = (both _ _ m1).1 in
    let m3 = (both _ _ m2).1 in
    let m4 = (both _ _ m3).1 in
    let p = item_passed 4 s precision_at 1 1048576 4 (omega arith) (both _ _ m3).0 in
    let r = number_known (u8 s radius_kind_at) s radius_at 1048576 c in
    let b = number_known (u8 s boundary_kind_at) s boundary_gap_at 16384 (both _ _ m2).0 in
    record {
      radius = radius_known (eqb (u8 s radius_kind_at) 0) (u32 s radius_at) r;
      gap = record { number = u32 s gap_at; from = omega arith; to = (item_passed 4 s gap_at 0 16384 4 (omega arith) (both _ _ m).0).to; is = refl };
      boundary = boundary_known (eqb (u8 s boundary_kind_at) 0) (u32 s boundary_gap_at) b;
      precision = record { number = u32 s precision_at; from = p.from; to = p.to; is = refl };
      attempts = (item_passed 4 s attempts_at 0 2000 4 (omega arith) (both _ _ m4).0).to;
    }

-- ---- zones

pub record ZoneKnown (z : Zone) : Type 0 where
  pub some : 1 ≤ length z.key
  pub short : length z.key ≤ 32
  pub few : length z.pieces ≤ 16
  pub pieces : All PieceKnown z.pieces

-- the marks of all zones
unfoldable pub marks_of : List Zone → ℕ
marks_of [] = 0
marks_of (z ∷ zs) = z.count + marks_of zs

-- ---- the job

pub record JobKnown (job : Job) : Type 0 where
  pub options : OptionsKnown job.options
  pub few_obstacles : length job.obstacles ≤ 256
  pub obstacles : All Coordinate job.obstacles
  pub few_zones : length job.zones ≤ 64
  pub zones : All ZoneKnown job.zones
  pub marks : marks_of job.zones ≤ 2000
