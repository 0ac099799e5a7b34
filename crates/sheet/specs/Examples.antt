-- A worked sheet: its 37 bytes, and what they say.
-- Assumes nothing.
use Rattle.std.specs.Prelude.{◌≡◌, refl, ℕ}
use mathlib.Core.List.{List, [], ◌∷◌}
use Rattle.std.specs.Float.Ieee.{of_bits}
use Rattle.float.specs.Ops.{literal, 1ᶠ}
use Rattle.format.specs.Rows.{each}
use Rattle.format.specs.Numbers.{uint, float_at}
use Rattle.sheet.specs.Sheet.{Sheet, placed_at, placement_end, placement, read_sheet}

-- radius 1; zone A, one mark placed at (5, 5), none unplaced
unfoldable pub worked : Sheet
worked =
    record {
      radius = 1ᶠ;
      zones = record { key = 65 ∷ []; unplaced = 0; spots = literal 0x4014_0000_0000_0000 ∷ literal 0x4014_0000_0000_0000 ∷ [] } ∷ [];
    }

-- length, version, radius, zones, key, placed, unplaced, x, y
unfoldable pub worked_bytes : List ℕ
worked_bytes =
    0x00 ∷ 0x00 ∷ 0x00 ∷ 0x21
    ∷ 0x01
    ∷ 0x3f ∷ 0xf0 ∷ 0x00 ∷ 0x00 ∷ 0x00 ∷ 0x00 ∷ 0x00 ∷ 0x00
    ∷ 0x00 ∷ 0x01
    ∷ 0x01 ∷ 0x41
    ∷ 0x00 ∷ 0x01
    ∷ 0x00 ∷ 0x00
    ∷ 0x40 ∷ 0x14 ∷ 0x00 ∷ 0x00 ∷ 0x00 ∷ 0x00 ∷ 0x00 ∷ 0x00
    ∷ 0x40 ∷ 0x14 ∷ 0x00 ∷ 0x00 ∷ 0x00 ∷ 0x00 ∷ 0x00 ∷ 0x00
    ∷ []

worked_read : read_sheet worked_bytes ≡ worked
unfolding worked worked_bytes read_sheet placement placed_at placement_end each uint float_at of_bits
worked_read = refl
