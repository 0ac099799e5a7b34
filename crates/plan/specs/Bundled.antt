-- What is found for zones as the code holds them, and what is put into the sheet for them. Definitions only.
use Rattle.std.specs.Prelude.{ℕ, Bool, Float, Option}
use mathlib.Core.List.{List}
use Rattle.glyphs.specs.declared.rect.Point.{Point}
use Rattle.sheet.specs.Sheet.{Placement}
use Rattle.deepest.specs.declared.search.Deepest.{Deepest}
use Rattle.discs.specs.declared.options.GlyphOptions.{GlyphOptions}
use Rattle.discs.specs.declared.radius.Size.{Size}
use Rattle.discs.specs.declared.rows.Row.{Row}
use Rattle.discs.specs.declared.rows.Offsets.{Offsets}
use Rattle.discs.specs.declared.layout.Layout.{Layout}
use Rattle.discs.specs.declared.bundle.Zones.{Zones}
use Rattle.discs.specs.declared.bundle.Packing.{Packing}
use Rattle.discs.specs.Bundles.{zones_work}
use Rattle.discs.specs.Floor.{EachRow, start}
use Rattle.plan.specs.declared.read.ReadJob.{ReadJob}
use Rattle.plan.specs.declared.setting.Setting.{Setting}
use Rattle.plan.specs.Rows.{flat_rows, all_rows, shares_at, fits_at, found_at}
use Rattle.plan.specs.Placing.{spots_at, placed_at, bytes_at, Fair}
use Rattle.job.specs.Plan.{low_fault}
use Rattle.plan.specs.Answer.{Answer}
use Rattle.plan.specs.Sized.{ceiling_for, sizing_for, SheetPlanned}
use Rattle.plan.specs.Called.{ReadIn}

module _ (layout : Layout) where
  -- the quotas of a zone's pieces, and of all
  abbrev pub zone_shares : Row → Offsets → List ℕ
  zone_shares = shares_at layout.rings.now layout.sizes.now layout.points.now

  abbrev pub all_shares : List ℕ
  all_shares = flat_rows layout.rings.now layout.sizes.now zone_shares layout.rows.now start

  -- their deepest points
  abbrev pub zone_found : GlyphOptions → List ℕ → Row → Offsets → List Deepest
  zone_found = found_at layout.rings.now layout.sizes.now layout.points.now

  abbrev pub all_found : GlyphOptions → List ℕ → List Deepest
  all_found options quotas = flat_rows layout.rings.now layout.sizes.now (zone_found options quotas) layout.rows.now start

  -- whether each search had room
  abbrev pub zone_fits : GlyphOptions → List ℕ → Row → Offsets → Bool
  zone_fits = fits_at layout.rings.now layout.sizes.now layout.points.now

  abbrev pub all_fit : GlyphOptions → List ℕ → Bool
  all_fit options quotas = all_rows layout.rings.now layout.sizes.now (zone_fits options quotas) layout.rows.now start

-- the ceiling and the size of a radius for these zones
abbrev pub ceiling_in : GlyphOptions → Zones → Option Float
ceiling_in options zones = ceiling_for options (zones_work zones) options.radius

abbrev pub size_in : Packing → Zones → Option Size
size_in packing zones = sizing_for packing.numbers packing.options packing.obstacles.now (zones_work zones)

module _ (setting : Setting) (zones : Zones) where
  -- the spots of a zone's pieces, the zone with them where it is left in, and its bytes
  abbrev pub zone_spots : Row → Offsets → List (List Point)
  zone_spots =
      spots_at setting.packing.numbers setting.size setting.packing.options setting.packing.obstacles.now
      zones.bytes.now zones.layout.rings.now zones.layout.sizes.now zones.layout.points.now zones.quotas.now zones.deepest.now

  abbrev pub zone_placed : Row → Offsets → List Placement
  zone_placed =
      placed_at setting.packing.numbers setting.size setting.packing.options setting.packing.obstacles.now
      zones.bytes.now zones.layout.rings.now zones.layout.sizes.now zones.layout.points.now zones.quotas.now zones.deepest.now

  abbrev pub zone_bytes : Row → Offsets → List ℕ
  zone_bytes =
      bytes_at setting.packing.numbers setting.size setting.packing.options setting.packing.obstacles.now
      zones.bytes.now zones.layout.rings.now zones.layout.sizes.now zones.layout.points.now zones.quotas.now zones.deepest.now

  -- it is given no more marks than it has
  abbrev pub ZoneFair : Row → Offsets → Type 0
  ZoneFair =
      Fair setting.packing.numbers setting.size setting.packing.options setting.packing.obstacles.now
      zones.bytes.now zones.layout.rings.now zones.layout.sizes.now zones.layout.points.now zones.quotas.now zones.deepest.now

  -- the same of all zones
  abbrev pub all_placed : List Placement
  all_placed = flat_rows zones.layout.rings.now zones.layout.sizes.now zone_placed zones.layout.rows.now start

  abbrev pub all_bytes : List ℕ
  all_bytes = flat_rows zones.layout.rings.now zones.layout.sizes.now zone_bytes zones.layout.rows.now start

  abbrev pub AllFair : Type 0
  AllFair = EachRow zones.layout.rings.now zones.layout.sizes.now ZoneFair zones.layout.rows.now start

-- refused by row 16, or given the sheet of these zones
abbrev pub PiecesPlanned : Packing → Zones → Answer → List ℕ → List ℕ → Type 0
PiecesPlanned packing zones =
    let size = size_in packing zones in
    SheetPlanned (low_fault (ceiling_in packing.options zones)) size (all_placed (record { packing = packing; size = size }) zones)

-- a job that was read lies in its slices
abbrev pub WasRead : ReadJob → Type 0
WasRead job = ReadIn job.bytes.now job.options job.obstacles.now job.layout.rows.now job.layout.rings.now job.layout.sizes.now job.layout.points.now
