-- What is put into the sheet for each zone, from what the flat slices hand in. Definitions only.
use Rattle.std.specs.Prelude.{ℕ, ◌-◌, ◌≤◌, ◌≡◌, true, cond, None, Some, Option}
use mathlib.Core.List.{List, [], ◌∷◌, flatten, flat_map}
use Rattle.glyphs.specs.Spots.{flat}
use Rattle.glyphs.specs.declared.rect.Point.{Point}
use Rattle.glyphs.specs.declared.rect.Rectangle.{Rectangle}
use Rattle.sheet.specs.Sheet.{Placement, placement_bytes}
use Rattle.deepest.specs.declared.search.Deepest.{Deepest}
use Rattle.discs.specs.declared.radius.Size.{Size}
use Rattle.discs.specs.declared.options.GlyphOptions.{GlyphOptions}
use Rattle.discs.specs.declared.rows.Row.{Row}
use Rattle.discs.specs.declared.rows.Offsets.{Offsets}
use Rattle.discs.specs.Region.{placed_in}
use Rattle.discs.specs.Radius.{context_at}
use Rattle.discs.specs.PlaceGlyphs.{pack}
use Rattle.discs.specs.Floor.{Handed, handed_at, pack_handed, row_is_left_in}
use Rattle.relax.specs.declared.Spreading.{Spreading}

-- the spots of each piece of a zone; none without a size
unfoldable pub place_for : Spreading → Option Size → GlyphOptions → List Rectangle → Handed → List (List Point)
place_for numbers None options obstacles handed = []
place_for numbers (Some size) options obstacles handed = pack_handed numbers options (context_at options (pack options) size.radius) obstacles handed

unfoldable pub placement_for : Spreading → Option Size → GlyphOptions → List Rectangle → Handed → Placement
placement_for numbers sizing options obstacles handed =
    record {
      key = handed.zone.key;
      unplaced = handed.zone.count - placed_in (place_for numbers sizing options obstacles handed);
      spots = flat (flatten (place_for numbers sizing options obstacles handed));
    }

module _
    (numbers : Spreading) (sizing : Option Size) (options : GlyphOptions) (obstacles : List Rectangle) (s rings sizes : List ℕ) (points : List Point)
    (quotas : List ℕ) (deepest : List Deepest) where
  abbrev pub spots_at : Row → Offsets → List (List Point)
  spots_at row at = place_for numbers sizing options obstacles (handed_at s rings sizes points quotas deepest row at)

  -- a zone of the sheet, where it is left in
  unfoldable pub placed_at : Row → Offsets → List Placement
  placed_at row at = cond (row_is_left_in row) (placement_for numbers sizing options obstacles (handed_at s rings sizes points quotas deepest row at) ∷ []) []

  unfoldable pub bytes_at : Row → Offsets → List ℕ
  bytes_at row at = flat_map placement_bytes (placed_at row at)

  -- no more marks are placed than the zone has
  unfoldable pub Fair : Row → Offsets → Type 0
  Fair row at = row_is_left_in row ≡ true → placed_in (spots_at row at) ≤ row.count
