-- What the functions that read leave behind where they find no fault. Definitions only.
use Rattle.std.specs.Prelude.{ℕ, zero, suc, ◌+◌, ◌*◌, ◌≤◌, ◌≡◌, List, ◌++◌, length, Option, None, Some, Float}
use Rattle.glyphs.specs.Rect.{rectangles}
use Rattle.glyphs.specs.declared.rect.Rectangle.{Rectangle}
use Rattle.discs.specs.declared.options.GlyphOptions.{GlyphOptions}
use Rattle.discs.specs.declared.rows.Row.{Row}
use Rattle.format.specs.Rows.{past, each, flat}
use Rattle.format.specs.Numbers.{share}
use Rattle.format.specs.Steps.{PiecesPut}
use Rattle.format.specs.declared.pieces.Pieces.{Pieces}
use Rattle.job.specs.declared.before.Before.{Before}
use Rattle.job.specs.Head.{options_of, obstacles}
use Rattle.job.specs.Zones.{Place, zone_next, zone_end, zone_points, zone_sizes, zone_rings, row_at}
use Rattle.job.specs.Job.{zones, points_of, sizes_of, rings_of, rows_of}

-- the number after a kind
abbrev pub number_of_kind : ℕ → ℕ → Option Float
number_of_kind zero n = None
number_of_kind (suc kind) n = Some (share n)

-- ---- zones

-- the place of a zone at `at`, by what came before it
abbrev pub place_of : ℕ → Before → Place
place_of at before = record { at = at; last = before.key.now; marks = before.marks }

pub record ZonePut
    {V R P : ℕ} (s : List ℕ) (at : ℕ) (before : Before) (pieces : Pieces V R P) (row : Row) (to : ℕ) (before' : Before) (pieces' : Pieces V R P) :
    Type 0 where
  pub put : PiecesPut at (zone_end s at) (zone_points s at) (zone_sizes s at) (zone_rings s at) pieces to pieces'
  pub numbers : row ≡ row_at s at
  pub place : place_of to before' ≡ zone_next s (place_of at before)

pub record ZonesPut
    {V R P : ℕ} (s : List ℕ) (n at : ℕ) (pieces : Pieces V R P) (rows : List Row) (to : ℕ) (pieces' : Pieces V R P) (rows' : List Row) :
    Type 0 where
  pub put :
      PiecesPut at (past (zone_end s) n at)
      (flat (zone_points s) (zone_end s) n at)
      (flat (zone_sizes s) (zone_end s) n at)
      (flat (zone_rings s) (zone_end s) n at)
      pieces to pieces'
  pub row : rows' ≡ rows ++ each (row_at s) (zone_end s) n at
  pub few_rings : length pieces'.sizes.items ≤ length pieces.sizes.items + 144 * n
  pub few_pieces : length pieces'.rings.items ≤ length pieces.rings.items + 16 * n

-- ---- the job

-- the zones are the job's, and stand behind those there
pub record JobPut {V R P : ℕ} (s : List ℕ) (pieces pieces' : Pieces V R P) (rows rows' : List Row) : Type 0 where
  pub points : pieces'.points.items ≡ pieces.points.items ++ points_of (zones s)
  pub sizes : pieces'.sizes.items ≡ pieces.sizes.items ++ sizes_of (zones s)
  pub rings : pieces'.rings.items ≡ pieces.rings.items ++ rings_of (zones s)
  pub row : rows' ≡ rows ++ rows_of s

pub record ItemsRead
    {V R P : ℕ} (s : List ℕ) (options : GlyphOptions) (pillars pillars' : List Rectangle) (pieces pieces' : Pieces V R P) (rows rows' : List Row) :
    Type 0 where
  pub choices : options ≡ options_of s
  pub pillar : pillars' ≡ pillars ++ rectangles (obstacles s)
  pub put : JobPut s pieces pieces' rows rows'
