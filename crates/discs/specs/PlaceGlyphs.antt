-- discs.rs, `place_glyphs`: the radius, the trials made for it, and the spots of each piece. Definitions only.
use Rattle.std.specs.Prelude.{ℕ, Bool, true, false, cond, ◌&&◌, List, [], ◌∷◌, map, length, ◌==◌, nat_lt, Float, None, Some, Option}
use Rattle.std.specs.Option.{unwrap_or}
use Rattle.float.specs.Ops.{◌*ᶠ◌, ◌>ᶠ◌, 0ᶠ, ½ᶠ, literal}
use Rattle.float.specs.Order.{max}
use Rattle.glyphs.specs.Rect.{is_finite, sanitize_obstacles}
use Rattle.glyphs.specs.declared.mode.PackMode.{PackMode}
use Rattle.glyphs.specs.declared.options.ObstaclePolicy.{ObstaclePolicy}
use Rattle.glyphs.specs.declared.options.ObstaclePolicy.TheVariants.{BestEffort, Strict}
use Rattle.glyphs.specs.declared.rect.Point.{Point}
use Rattle.glyphs.specs.declared.rect.Rectangle.{Rectangle}
use Rattle.relax.specs.declared.Spreading.{Spreading}
use Rattle.discs.specs.Radius.{boundary_gap_of, context_at, analytic_r_hi, feasible, auto_radius}
use Rattle.discs.specs.Region.{Zone, pack_region}
use Rattle.discs.specs.declared.radius.Size.{Size}
use Rattle.discs.specs.declared.options.GlyphOptions.{GlyphOptions}
use Rattle.discs.specs.declared.options.Radius.{Radius}
use Rattle.discs.specs.declared.options.Radius.TheVariants.{Auto, Stated}

-- OBSTACLE_FREE_FALLBACK: 0.25; OBSTACLE_SHRINK_FLOOR is 0.5
abbrev pub ¼ᶠ : Float
¼ᶠ = literal 0x3fd0_0000_0000_0000

-- a zone left in, with the spots of each of its pieces
pub record Placed : Type 0 where
  pub zone : Zone
  pub spots : List (List Point)

pub record Placements : Type 0 where
  pub radius : Float
  pub free_trials : ℕ
  pub obstacle_trials : ℕ
  pub zones : List Placed

-- n > 0 && !pieces.is_empty()
unfoldable pub is_left_in : Zone → Bool
is_left_in zone = nat_lt 0 zone.count && nat_lt 0 (length zone.pieces)

unfoldable pub work_of : List Zone → List Zone
work_of [] = []
work_of (zone ∷ zones) = cond (is_left_in zone) (zone ∷ work_of zones) (work_of zones)

-- given `feasible` for obstacles
module _ (fits : List Rectangle → Float → Bool) (obstacles : List Rectangle) where
  -- under a ceiling: free of obstacles, then with them down to half of that
  unfoldable pub size_under : Float → Size
  size_under r-hi =
      let free = auto_radius (fits []) r-hi in
      let r_free = unwrap_or free.best (¼ᶠ *ᶠ r-hi) in
      let walled = auto_radius (fits obstacles) r-hi in
      cond (length obstacles == 0) (record { radius = r_free; free_trials = free.trials; obstacle_trials = 0 })
      (record { radius = max (unwrap_or walled.best 0ᶠ) (½ᶠ *ᶠ r_free); free_trials = free.trials; obstacle_trials = walled.trials })

  -- match options.radius, with the ceiling of an automatic one
  unfoldable pub size_for : Radius → Option Float → Option Size
  size_for (Stated r) ceiling = cond (r >ᶠ 0ᶠ && is_finite r) (Some (record { radius = r; free_trials = 0; obstacle_trials = 0 })) None
  size_for Auto None = None
  size_for Auto (Some r-hi) = Some (size_under r-hi)

-- PACK, strict where the policy is
abbrev pub pack : GlyphOptions → PackMode
pack options = record { spread = true; strict_obstacles = is_strict options.obstacle_policy }
  where
    is_strict : ObstaclePolicy → Bool
    is_strict BestEffort = false
    is_strict Strict = true

-- `room` is how many cells of a search may wait at once
module _ (room : ℕ) (numbers : Spreading) (options : GlyphOptions) (given : List Rectangle) (zones : List Zone) where
  abbrev pub work : List Zone
  work = work_of zones

  abbrev pub obstacles : List Rectangle
  obstacles = sanitize_obstacles given

  -- every count unplaced
  abbrev pub unplaced : Placements
  unplaced = record { radius = 0ᶠ; free_trials = 0; obstacle_trials = 0; zones = map (λ (zone : Zone). record { zone = zone; spots = [] }) work }

  unfoldable pub pack_at : Option Size → Placements
  pack_at None = unplaced
  pack_at (Some size) =
      record {
        radius = size.radius;
        free_trials = size.free_trials;
        obstacle_trials = size.obstacle_trials;
        zones = map (λ (zone : Zone). record {
          zone = zone;
          spots = pack_region room numbers options (context_at options (pack options) size.radius) obstacles zone;
        }) work;
      }

  -- where some zone is left in
  unfoldable pub sizing : Option Size
  sizing = size_for (feasible room numbers options work) obstacles options.radius (analytic_r_hi room work (boundary_gap_of options) options.precision)

  -- where none is: the stated radius, or 0
  abbrev pub stated_radius : Radius → Float
  stated_radius Auto = max 0ᶠ 0ᶠ
  stated_radius (Stated r) = max r 0ᶠ

  unfoldable pub place_glyphs : Placements
  place_glyphs =
      cond (length work == 0) (record { radius = stated_radius options.radius; free_trials = 0; obstacle_trials = 0; zones = [] })
      (pack_at sizing)
