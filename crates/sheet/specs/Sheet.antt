-- The sheet: its bytes, from the radius and each zone's spots, and what a sheet's bytes say. Definitions only.
use Rattle.std.specs.Prelude.{ℕ, ◌+◌, ◌*◌, ◌/◌, length, take, drop, Float}
use mathlib.Core.List.{List, ◌++◌, flat_map}
use Rattle.format.specs.Rows.{each}
use Rattle.format.specs.Numbers.{u8, u16, bytes, float_at, float_bytes}

-- a zone left in: its key, its marks that are unplaced, and x and y of each spot in turn
pub record Placement : Type 0 where
  pub key : List ℕ
  pub unplaced : ℕ
  pub spots : List Float

pub record Sheet : Type 0 where
  pub radius : Float
  pub zones : List Placement

-- ---- written

-- key length u8, key, placed u16, unplaced u16
unfoldable pub zone_head : List ℕ → ℕ → ℕ → List ℕ
zone_head key placed unplaced = bytes 1 (length key) ++ key ++ bytes 2 placed ++ bytes 2 unplaced

-- then x and y of each spot as 64 bits
unfoldable pub placement_bytes : Placement → List ℕ
placement_bytes z = zone_head z.key (length z.spots / 2) z.unplaced ++ flat_map float_bytes z.spots

-- length u32 of what follows, version 1, radius as its 64 bits, zone count u16
unfoldable pub sheet_head : ℕ → Float → ℕ → List ℕ
sheet_head rest radius zones = bytes 4 rest ++ bytes 1 1 ++ float_bytes radius ++ bytes 2 zones

-- then the zones; what follows the length is 11 bytes and these
unfoldable pub sheet_of : Sheet → List ℕ
sheet_of sheet =
    let zones = flat_map placement_bytes sheet.zones in
    sheet_head (11 + length zones) sheet.radius (length sheet.zones) ++ zones

-- ---- read

abbrev pub next_float : ℕ → ℕ
next_float at = at + 8

-- of a zone at `at`: where placed stands, and where the zone ends
unfoldable pub placed_at : List ℕ → ℕ → ℕ
placed_at s at = at + 1 + u8 s at

unfoldable pub placement_end : List ℕ → ℕ → ℕ
placement_end s at = placed_at s at + 4 + 16 * u16 s (placed_at s at)

unfoldable pub placement : List ℕ → ℕ → Placement
placement s at =
    record {
      key = take (u8 s at) (drop (at + 1) s);
      unplaced = u16 s (placed_at s at + 2);
      spots = each (float_at s) next_float (2 * u16 s (placed_at s at)) (placed_at s at + 4);
    }

unfoldable pub read_sheet : List ℕ → Sheet
read_sheet s = record { radius = float_at s 5; zones = each (placement s) (placement_end s) (u16 s 13) 15 }
