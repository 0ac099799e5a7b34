-- What is claimed of the spots of a piece, of a zone left in, and of a job's whole sheet. Definitions only.
-- An exact number is a whole number of 2 ^ -1074 (`mag`), so that no step of a comparison rounds.
use Rattle.std.specs.Prelude.{◌≡◌, ℕ, ◌-◌, ◌*◌, ◌≤◌, ◌<◌, T, length, get_or, Float}
use mathlib.Core.List.{List, [], ◌∷◌, map, flatten}
use Rattle.std.specs.Float.{nan}
use Rattle.laws.specs.Every.{Every, Pairwise}
use Rattle.float.specs.Ops.{◌>ᶠ◌, ◌≥ᶠ◌, 0ᶠ}
use Rattle.rounding.specs.Value.{mag, Num}
use Rattle.rounding.specs.Distance.{Length, tiny, distance²}
use Rattle.rounding.specs.Shares.{Weights, sum}
use Rattle.glyphs.specs.declared.options.ObstaclePolicy.{ObstaclePolicy}
use Rattle.glyphs.specs.declared.options.ObstaclePolicy.TheVariants.{Strict}
use Rattle.glyphs.specs.declared.rect.Point.{Point}
use Rattle.glyphs.specs.declared.rect.Rectangle.{Rectangle}
use Rattle.glyphs.specs.Apportion.{assigned}
use Rattle.glyphs.specs.Rect.{dist_to_rect, rectangles, sanitize_obstacles}
use Rattle.glyphs.specs.Spots.{flat}
use Rattle.regions.specs.Ring.{Piece}
use Rattle.regions.specs.Clearance.{signed_clearance}
use Rattle.lattice.specs.declared.context.PackCtx.{PackCtx}
use Rattle.lattice.specs.Context.{inset, spacing}
use Rattle.lattice.specs.Uniform.{local_to}
use Rattle.discs.specs.declared.options.GlyphOptions.{GlyphOptions}
use Rattle.discs.specs.Region.{areas, quotas}
use Rattle.discs.specs.Radius.{context_at}
use Rattle.discs.specs.PlaceGlyphs.{Placed, work_of, pack}
use Rattle.sheet.specs.Sheet.{Placement, read_sheet}
use Rattle.job.specs.Job.{Job, job_of}
use Rattle.job.specs.Plan.{placements_of}
use Rattle.claims.specs.Fair.{Fair}

-- ---- a spot

-- x and y are numbers that 64 bits hold, neither NaN nor infinite
pub record Exact (p : Point) : Type 0 where
  pub across : Num p.x
  pub along : Num p.y

-- its computed signed clearance in a piece is at least the inset
abbrev pub Inset : Piece → Float → Point → Type 0
Inset piece inset p = T (signed_clearance p.x p.y piece ≥ᶠ inset)

-- it is, as computed, at least the inset away from a pillar
abbrev pub Away : Float → Point → Rectangle → Type 0
Away inset p pillar = T (dist_to_rect p.x p.y pillar ≥ᶠ inset)

-- the exact distance of two is at least s less 2 ^ -30, compared by squares; where s is not above 2 ^ -30 the difference is 0 and every pair passes
abbrev pub FarApart : Float → Point → Point → Type 0
FarApart s p q = (mag s - tiny) * (mag s - tiny) ≤ distance² p.x p.y q.x q.y

-- ---- the spots of one piece; two entries of the list are two spots, even at equal x and y

pub record PieceKept (ctx : PackCtx) (policy : ObstaclePolicy) (pillars : List Rectangle) (piece : Piece) (quota : ℕ) (spots : List Point) : Type 0 where
  pub exact : Every Exact spots
  -- the computed spacing is a number, from 2 ^ -20 to 65,536
  pub known : Length (spacing ctx)
  -- each spot's computed signed clearance in its own piece is at least the inset
  pub insets : Every (Inset piece (inset ctx)) spots
  -- any two are, in exact distance, at least the computed spacing less 2 ^ -30 apart
  pub spaced : Pairwise (FarApart (spacing ctx)) spots
  -- under Strict every spot is, as computed, at least the inset away from every pillar that the near rule keeps for its piece
  pub clear : policy ≡ Strict → Every (λ (p : Point). Every (Away (inset ctx) p) (local_to piece pillars (inset ctx))) spots
  -- no more spots than the quota
  pub within : length spots ≤ quota

-- ---- a zone left in: the job's options and pillars, the sheet's radius, the spots that the packer's definition places in its pieces, and its entry
module _ (options : GlyphOptions) (pillars : List Rectangle) (radius : Float) where
  -- r is the sheet's radius
  abbrev pub context : PackCtx
  context = context_at options (pack options) radius

  -- the spots of each piece in turn; where all are unplaced there are none
  abbrev pub OwnPieces : List Piece → List ℕ → List (List Point) → Type 0
  OwnPieces pieces quotas [] = Unit {0}
  OwnPieces [] quotas (spots ∷ later) = ⊥
  OwnPieces (piece ∷ pieces) [] (spots ∷ later) = ⊥
  OwnPieces (piece ∷ pieces) (quota ∷ quotas) (spots ∷ later) =
      PieceKept context options.obstacle_policy pillars piece quota spots × OwnPieces pieces quotas later

  pub record ZoneKept (placed : Placed) (entry : Placement) : Type 0 where
    pub key : entry.key ≡ placed.zone.key
    -- the entry's x and y are those of the spots, piece after piece
    pub own : entry.spots ≡ flat (flatten placed.spots)
    pub pieces : OwnPieces placed.zone.pieces (quotas placed.zone) placed.spots
    -- the quotas add up to the count, also at radius 0
    pub quotas_sum : assigned (quotas placed.zone) ≡ placed.zone.count
    -- the computed areas are numbers, and not negative
    pub weights : Weights (areas placed.zone.pieces)
    -- where some piece has positive computed area, each quota is less than 1 + 2 ^ -20 away from its exact share, count * area / sum of the areas
    pub fair : (j : ℕ) → j < length placed.zone.pieces → T (get_or (areas placed.zone.pieces) j nan >ᶠ 0ᶠ)
        → (i : ℕ) → i < length placed.zone.pieces
        → Fair (get_or (quotas placed.zone) i 0) placed.zone.count (mag (get_or (areas placed.zone.pieces) i nan)) (sum (areas placed.zone.pieces))

  -- each zone left in with its entry, in order, and no other entry
  abbrev pub Zones : List Placed → List Placement → Type 0
  Zones [] [] = Unit {0}
  Zones [] (entry ∷ entries) = ⊥
  Zones (zone ∷ zones) [] = ⊥
  Zones (zone ∷ zones) (entry ∷ entries) = ZoneKept zone entry × Zones zones entries

-- ---- THE WHOLE: a job's bytes, and bytes that begin with its sheet

-- an obstacle of the job that is not dropped
abbrev pub pillars_of : Job → List Rectangle
pillars_of job = sanitize_obstacles (rectangles job.obstacles)

-- where the packer's definition, run on the job, places its spots: for each zone left in, those of each piece
abbrev pub placed_of : Job → List Placed
placed_of job = (placements_of job).zones

pub record SheetKept (s bytes : List ℕ) : Type 0 where
  -- these are the zones left in, in job order
  pub left_in : map (λ (placed : Placed). placed.zone) (placed_of (job_of s)) ≡ work_of (job_of s).zones
  -- r is the radius that it finds
  pub radius : (read_sheet bytes).radius ≡ (placements_of (job_of s)).radius
  pub zones : Zones (job_of s).options (pillars_of (job_of s)) (read_sheet bytes).radius (placed_of (job_of s)) (read_sheet bytes).zones
