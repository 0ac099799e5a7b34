-- A worked sheet: its 37 bytes, and what they say.
-- Assumes nothing.
use Rattle.std.specs.Prelude.{◌≡◌, refl}
use mathlib.Core.List.{flat_map}
use Rattle.std.specs.Float.Ieee.{to_bits, of_bits}
use Rattle.format.specs.Numbers.{bytes, float_bytes}
use Rattle.sheet.specs.Sheet.{zone_head, placement_bytes, sheet_head, sheet_of}
use Rattle.sheet.specs.Examples.{worked, worked_bytes}

worked_written : sheet_of worked ≡ worked_bytes
unfolding worked worked_bytes sheet_of sheet_head placement_bytes zone_head bytes float_bytes flat_map to_bits of_bits
worked_written = refl
