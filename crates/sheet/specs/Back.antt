-- Reading inverts writing: the bytes of a sheet say its radius, and the key, unplaced number and spots of each zone.
-- Rests on numbers and floats being read back.
use Rattle.std.specs.Prelude.{ℕ, ◌*◌, ◌/◌, ◌<◌, ◌≡◌, T, Float}
use Rattle.std.proofs.Math.Path.{refl}
use Rattle.std.proofs.Common.{length-append}
use mathlib.Core.List.{List, [], ◌∷◌, flat_map}
use native.Mathlib.Omega.{arith}
use Rattle.std.proofs.Math.ListN.{length}
use Rattle.std.specs.Float.{binary64}
use Rattle.std.specs.Float.Ieee.{fits}
use Rattle.format.specs.Numbers.{float_bytes}
use Rattle.format.specs.NumberLaws.{length_bytes}
use Rattle.format.specs.Back.{length_float}
use Rattle.sheet.specs.Sheet.{Placement, Sheet, sheet_head}

-- ---- what a sheet can hold

abbrev pub AllFit : List Float → Type 0
AllFit [] = Unit {0}
AllFit (x ∷ xs) = T (fits binary64 x) × AllFit xs

-- ---- lengths

pub length_floats : (xs : List Float) → length (flat_map float_bytes xs) ≡ 8 * length xs
unfolding flat_map
length_floats [] = refl
length_floats (x ∷ xs) = simp (length-append, length_float) (omega (arith, length_floats xs))

pub length_sheet_head : (rest : ℕ) (radius : Float) (zones : ℕ) → length (sheet_head rest radius zones) ≡ 15
unfolding sheet_head
length_sheet_head rest radius zones = simp (length-append, length_bytes, length_float)

pub record Writable (z : Placement) : Type 0 where
  pub short : length z.key < 256
  pub pairs : 2 * (length z.spots / 2) ≡ length z.spots
  pub few : length z.spots / 2 < 65536
  pub unplaced : z.unplaced < 65536
  pub fit : AllFit z.spots

abbrev pub AllWritable : List Placement → Type 0
AllWritable [] = Unit {0}
AllWritable (z ∷ zs) = Writable z × AllWritable zs

pub record WritableSheet (sheet : Sheet) : Type 0 where
  pub fit : T (fits binary64 sheet.radius)
  pub few : length sheet.zones < 65536
  pub zones : AllWritable sheet.zones
