-- discs.rs, `analytic_r_hi` and `auto_radius`, with the number of trials. Definitions only.
use Rattle.std.specs.Prelude.{ℕ, zero, suc, ◌+◌, Bool, true, false, cond, ◌&&◌, List, nat_eq, Float, None, Some, Option}
use mathlib.Core.List.{foldl}
use Rattle.laws.specs.Any.{all}
use Rattle.std.specs.Option.{unwrap_or}
use Rattle.float.specs.Ops.{◌+ᶠ◌, ◌-ᶠ◌, ◌*ᶠ◌, ◌/ᶠ◌, ◌≤ᶠ◌, ◌>ᶠ◌, 0ᶠ, -0ᶠ, ½ᶠ, 1ᶠ, ∞, literal}
use Rattle.float.specs.Order.{min, max, sqrt}
use Rattle.float.specs.Whole.{as_f64}
use Rattle.glyphs.specs.Rect.{is_finite}
use Rattle.glyphs.specs.declared.mode.PackMode.{PackMode}
use Rattle.glyphs.specs.declared.rect.Rectangle.{Rectangle}
use Rattle.regions.specs.Ring.{Piece}
use Rattle.deepest.specs.declared.search.Deepest.{Deepest}
use Rattle.deepest.specs.declared.search.Deepest.TheVariants.{Found, Nothing, Full}
use Rattle.deepest.specs.Deepest.{poi_with_holes}
use Rattle.relax.specs.declared.Spreading.{Spreading}
use Rattle.discs.specs.Region.{Zone, areas, pack_region, placed_in}
use Rattle.lattice.specs.Uniform.{1e-3ᶠ}
use Rattle.lattice.specs.declared.context.PackCtx.{PackCtx}
use Rattle.discs.specs.declared.radius.Search.{Search}
use Rattle.discs.specs.declared.options.GlyphOptions.{GlyphOptions}

-- PI
abbrev pub π : Float
π = literal 0x4009_21fb_5444_2d18

-- ---- the gaps

-- options.gap.max(0.0)
abbrev pub gap_of : GlyphOptions → Float
gap_of options = max options.gap 0ᶠ

-- options.boundary_gap.unwrap_or(gap).max(0.0)
abbrev pub boundary_gap_of : GlyphOptions → Float
boundary_gap_of options = max (unwrap_or options.boundary_gap (gap_of options)) 0ᶠ

abbrev pub context_at : GlyphOptions → PackMode → Float → PackCtx
context_at options mode r = record { r = r; gap = gap_of options; boundary_gap = boundary_gap_of options; mode = mode }

-- ---- the ceiling

-- pieces.iter().map(|p| p.area()).sum(), which starts at -0.0
unfoldable pub area_of : List Piece → Float
area_of pieces = foldl ◌+ᶠ◌ -0ᶠ (areas pieces)

-- the bounds of n marks: their zone's deepest point, and its area
unfoldable pub lowered : Float → ℕ → Float → Float → Deepest → Float
lowered gap n r-hi area Nothing = r-hi
lowered gap n r-hi area Full = r-hi
lowered gap n r-hi area (Found x y clearance) = min (min r-hi (clearance /ᶠ (1ᶠ +ᶠ gap))) (sqrt (area /ᶠ (as_f64 n *ᶠ π)))

-- (r_hi.is_finite() && r_hi > 0.0).then_some(r_hi)
unfoldable pub if_positive : Float → Option Float
if_positive r-hi = cond (is_finite r-hi && r-hi >ᶠ 0ᶠ) (Some r-hi) None

unfoldable pub analytic_r_hi : ℕ → List Zone → Float → Float → Option Float
analytic_r_hi room work gap precision =
    if_positive (foldl (λ (r-hi : Float) (zone : Zone). lowered gap zone.count r-hi (area_of zone.pieces) (poi_with_holes room precision zone.pieces)) ∞ work)

-- ---- the search

-- PackMode's PROBE
abbrev pub probe : PackMode
probe = record { spread = false; strict_obstacles = true }

-- let feasible = |r: f64|
unfoldable pub feasible : ℕ → Spreading → GlyphOptions → List Zone → List Rectangle → Float → Bool
feasible room numbers options work obstacles r =
    all (λ (zone : Zone). nat_eq (placed_in (pack_region room numbers options (context_at options probe r) obstacles zone)) zone.count) work

-- given `feasible`
module _ (fits : Float → Bool) (r-hi : Float) where
  -- for _ in 0..24, after `made` trials
  unfoldable pub halve : ℕ → Float → Float → Option Float → ℕ → Search
  halve zero lo hi best made = record { best = best; trials = made }
  halve (suc turns) lo hi best made =
      let mid = ½ᶠ *ᶠ (lo +ᶠ hi) in
      cond (hi -ᶠ lo ≤ᶠ 1e-3ᶠ *ᶠ r-hi) (record { best = best; trials = made })
      (cond (fits mid) (halve turns mid hi (Some mid) (made + 1)) (halve turns lo mid best (made + 1)))

  unfoldable pub auto_radius : Search
  auto_radius = cond (fits r-hi) (record { best = Some r-hi; trials = 1 }) (halve 24 0ᶠ r-hi None 1)
