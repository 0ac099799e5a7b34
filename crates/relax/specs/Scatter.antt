-- relax.rs, `relax_scatter`: sweeps over a scatter, each mark moved where it may. Definitions only.
use Rattle.std.specs.Prelude.{Bool, false, not, Option, Some, None, cond, ◌||◌, ℕ, zero, suc, eqb, length, get_or, set, Float}
use mathlib.Core.List.{List, map, foldl}
use Rattle.std.specs.Float.{nan}
use Rattle.laws.specs.Lists.{up_to}
use Rattle.float.specs.Ops.{◌+ᶠ◌, ◌-ᶠ◌, ◌*ᶠ◌, ◌/ᶠ◌, ◌≤ᶠ◌, 0ᶠ, 1ᶠ, 2ᶠ, ½ᶠ, literal}
use Rattle.float.specs.Order.{hypot, min}
use Rattle.float.specs.Whole.{as_f64}
use Rattle.glyphs.specs.declared.rect.Point.{Point}
use Rattle.glyphs.specs.declared.rect.Rectangle.{Rectangle}
use Rattle.glyphs.specs.Rect.{clear_of_obstacles, is_finite}
use Rattle.regions.specs.Ring.{Piece}
use Rattle.regions.specs.Clearance.{signed_clearance}
use Rattle.relax.specs.Field.{field_of, at, force_on, accepts}
use Rattle.relax.specs.declared.Spreading.{Spreading}
use Rattle.relax.specs.declared.distances.Distances.{Distances}

-- SWEEPS: 8, INFLUENCE: 1.5, BOUNDARY_INFLUENCE: 2.0, BOUNDARY_WEIGHT: 0.75, MAX_STEP: 0.35 and BACKTRACKS: 2
abbrev pub source : Spreading
source =
    record {
      sweeps = 8;
      influence = literal 0x3ff8_0000_0000_0000;
      boundary_influence = 2ᶠ;
      boundary_weight = literal 0x3fe8_0000_0000_0000;
      max_step = literal 0x3fd6_6666_6666_6666;
      backtracks = 2;
    }

-- the marks, and the clearance of each
pub record Scatter : Type 0 where
  pub points : List Point
  pub clearance : List Float

-- points[i] = candidate; clearance[i] = c
abbrev pub moved : Scatter → ℕ → Point → Float → Scatter
moved s i candidate c = record { points = set s.points i candidate; clearance = set s.clearance i c }

-- what becomes of a candidate: the mark moves there, or what else is tried
unfoldable pub settle : Scatter → ℕ → Point → Option Float → Scatter → Scatter
settle s i candidate (Some c) otherwise = moved s i candidate c
settle s i candidate None otherwise = otherwise

-- p, moved by a step in the direction (ux, uy)
abbrev pub stepped : Point → Float → Float → Float → Point
stepped p ux uy step = record { x = p.x +ᶠ ux *ᶠ step; y = p.y +ᶠ uy *ᶠ step }

-- What every sweep reads and none changes.
pub record Surroundings : Type 0 where
  pub field : Distances
  pub piece : Piece
  pub obstacles : List Rectangle
  pub honoring : List Bool

-- for _ in 0..=BACKTRACKS: the step, halved where it is refused, with `tries` left
unfoldable pub try_step : Surroundings → ℕ → Point → Float → Float → ℕ → Float → Scatter → Scatter
try_step e i p ux uy zero step s = s
try_step e i p ux uy (suc tries) step s =
    let candidate = stepped p ux uy step in
    settle s i candidate (accepts e.field e.piece e.obstacles candidate i s.points (get_or e.honoring i false))
    (try_step e i p ux uy tries (step *ᶠ ½ᶠ) s)

-- one mark of a sweep
unfoldable pub relax_point : Spreading → Surroundings → Float → Scatter → ℕ → Scatter
relax_point numbers e maxStep s i =
    let p = at s.points i in
    let f = force_on e.field e.piece i s.points (get_or s.clearance i nan) in
    let magnitude = hypot f.x f.y in
    cond (not (is_finite magnitude) || magnitude ≤ᶠ 0ᶠ) s
    (try_step e i p (f.x /ᶠ magnitude) (f.y /ᶠ magnitude) (suc numbers.backtracks) (maxStep *ᶠ min magnitude 1ᶠ) s)

-- the greatest step of a sweep, less from each to the next
unfoldable pub max_step_of : Spreading → Float → ℕ → Float
max_step_of numbers spacing sweep =
    let cooling = 1ᶠ -ᶠ as_f64 sweep /ᶠ as_f64 numbers.sweeps in
    numbers.max_step *ᶠ spacing *ᶠ cooling

unfoldable pub relax_sweep : Spreading → Surroundings → Scatter → ℕ → Scatter
relax_sweep numbers e s sweep =
    foldl (relax_point numbers e (max_step_of numbers e.field.spacing sweep)) s (up_to (length s.points))

unfoldable pub relax_sweeps : Spreading → Surroundings → Scatter → Scatter
relax_sweeps numbers e s = foldl (relax_sweep numbers e) s (up_to numbers.sweeps)

-- signed_clearance and clear_of_obstacles of each mark
unfoldable pub clearances_of : Piece → List Point → List Float
clearances_of piece points = map (λ (p : Point). signed_clearance p.x p.y piece) points

unfoldable pub honoring_of : List Rectangle → Float → List Point → List Bool
honoring_of obstacles inset points = map (λ (p : Point). clear_of_obstacles p.x p.y obstacles inset) points

-- points.is_empty() || !spacing.is_finite() || spacing <= 0.0
unfoldable pub idle : ℕ → Float → Bool
idle count spacing = eqb count 0 || (not (is_finite spacing) || spacing ≤ᶠ 0ᶠ)

abbrev pub around : Spreading → List Point → Piece → List Rectangle → Float → Float → Surroundings
around numbers points piece obstacles spacing inset =
    record { field = field_of numbers spacing inset; piece = piece; obstacles = obstacles; honoring = honoring_of obstacles inset points }

unfoldable pub relax_scatter : Spreading → List Point → Piece → List Rectangle → Float → Float → List Point
relax_scatter numbers points piece obstacles spacing inset =
    cond (idle (length points) spacing) points
    (relax_sweeps numbers (around numbers points piece obstacles spacing inset) (record { points = points; clearance = clearances_of piece points })
    ).points
