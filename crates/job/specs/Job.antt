-- The job: what the reader refuses, what it reads, and what the call asks of its lent slices. Definitions only.
use Rattle.std.specs.Prelude.{ℕ, ◌+◌, ◌*◌, cond, length, leb, Float}
use mathlib.Core.List.{List, [], ◌∷◌, map, flatten, flat_map}
use Rattle.discs.specs.Region.{Zone}
use Rattle.discs.specs.PlaceGlyphs.{work_of}
use Rattle.discs.specs.Floor.{row_is_left_in}
use Rattle.discs.specs.declared.options.GlyphOptions.{GlyphOptions}
use Rattle.discs.specs.declared.rows.Row.{Row}
use Rattle.glyphs.specs.declared.rect.Point.{Point}
use Rattle.glyphs.specs.Points.{vertices}
use Rattle.format.specs.Rows.{◌unless◌, ◌or_else◌, faults, past, each}
use Rattle.format.specs.Numbers.{u16, u16_in}
use Rattle.job.specs.Head.{lent_fault, head_fault, options_of, obstacles_fault, obstacles_end, obstacles}
use Rattle.job.specs.Zones.{Place, first_place, zone, zone_end, zone_fault, zone_next, row_at}

-- ---- zone count u16 0..64, zones, and nothing after them

abbrev pub zones_at : List ℕ → ℕ
zones_at s = obstacles_end s

abbrev pub first_zone : List ℕ → Place
first_zone s = first_place (zones_at s + 2)

unfoldable pub zones_end : List ℕ → ℕ
zones_end s = past (zone_end s) (u16 s (zones_at s)) (zones_at s + 2)

unfoldable pub zones_fault : List ℕ → ℕ
zones_fault s =
    u16_in s (zones_at s) 0 64 9
    or_else faults (zone_fault s) (zone_next s) (u16 s (zones_at s)) (first_zone s)
    or_else 7 unless leb (length s) (zones_end s)

unfoldable pub zones : List ℕ → List Zone
zones s = each (zone s) (zone_end s) (u16 s (zones_at s)) (zones_at s + 2)

-- rows 3 to 13, and 7
unfoldable pub items_fault : List ℕ → ℕ
items_fault s = head_fault s or_else obstacles_fault s or_else zones_fault s

unfoldable pub read_fault : List ℕ → ℕ
read_fault s = lent_fault s or_else items_fault s

pub record Job : Type 0 where
  pub options : GlyphOptions
  pub obstacles : List Float
  pub zones : List Zone

unfoldable pub job_of : List ℕ → Job
job_of s = record { options = options_of s; obstacles = obstacles s; zones = zones s }

-- ---- what the reader puts into flat slices

-- the points of all rings, end to end; the number of vertices of each ring; the number of rings of each piece
unfoldable pub points_of : List Zone → List Point
points_of zs = flat_map (λ (z : Zone). flat_map flatten z.pieces) zs

unfoldable pub sizes_of : List Zone → List ℕ
sizes_of zs = flat_map (λ (z : Zone). flat_map (map vertices) z.pieces) zs

unfoldable pub rings_of : List Zone → List ℕ
rings_of zs = flat_map (λ (z : Zone). map length z.pieces) zs

-- the row of each zone
unfoldable pub rows_of : List ℕ → List Row
rows_of s = each (row_at s) (zone_end s) (u16 s (zones_at s)) (zones_at s + 2)

-- ---- row 14, the sheet buffer, by its length

unfoldable pub zones_room : List Zone → ℕ
zones_room [] = 0
zones_room (z ∷ zs) = 5 + length z.key + 16 * z.count + zones_room zs

unfoldable pub sheet_room : Job → ℕ
sheet_room job = 15 + zones_room (work_of job.zones)

unfoldable pub sheet_fault : Job → ℕ → ℕ
sheet_fault job sheet = 14 unless leb (sheet_room job) sheet

-- the same of rows
unfoldable pub row_room : Row → ℕ
row_room row = cond (row_is_left_in row) (5 + row.len + 16 * row.count) 0

unfoldable pub rows_room : List Row → ℕ
rows_room [] = 0
rows_room (row ∷ rows) = row_room row + rows_room rows
