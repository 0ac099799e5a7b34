-- Reading inverts writing: the bytes of a sheet say its radius, and the key, unplaced number and spots of each zone.
-- Rests on numbers and floats being read back.
use Rattle.std.specs.Prelude.{ℕ, ◌+◌, ◌*◌, ◌/◌, ◌≡◌, Float}
use Rattle.std.proofs.Math.Path.{refl}
use Rattle.std.proofs.Common.{◌∙◌, length-append}
use mathlib.Core.List.{List, [], ◌∷◌, ◌++◌, append_assoc, flat_map}
use native.Mathlib.Omega.{arith}
use Rattle.std.proofs.Math.ListN.{length, drop}
use Rattle.std.proofs.Math.Seq.{take-append_seam}
use Rattle.format.specs.Rows.{each}
use Rattle.format.specs.Numbers.{u8, u16, bytes, float_at, float_bytes}
use Rattle.format.specs.NumberLaws.{length_bytes}
use Rattle.format.specs.RowLaws.{behind}
use Rattle.format.specs.Back.{length_float}
use Rattle.format.proofs.Back.{uint_back, float_back}
use Rattle.sheet.specs.Sheet.{Placement, Sheet, zone_head, placement_bytes, sheet_head, sheet_of, next_float, placed_at, placement_end, placement, read_sheet}
use Rattle.sheet.specs.Back.{AllFit, Writable, AllWritable, WritableSheet, length_floats}

pub length_zone_head : (key : List ℕ) (placed unplaced : ℕ) → length (zone_head key placed unplaced) ≡ 5 + length key
unfolding zone_head
length_zone_head key placed unplaced = simp (length-append, length_bytes) (omega arith)

pub length_placement : (z : Placement) → length (placement_bytes z) ≡ 5 + length z.key + 8 * length z.spots
unfolding placement_bytes
length_placement z = simp (length-append, length_zone_head, length_floats) (omega arith)

-- ---- read back, from a place of some bytes

module _ (s : List ℕ) where
  spots_back :
      (xs : List Float) (at : ℕ) (ys : List ℕ) → drop at s ≡ flat_map float_bytes xs ++ ys → AllFit xs
      → each (float_at s) next_float (length xs) at ≡ xs
  unfolding flat_map each
  spots_back [] at ys e f = refl
  spots_back (x ∷ xs) at ys e f =
      let g : drop at s ≡ float_bytes x ++ (flat_map float_bytes xs ++ ys) = e ∙ append_assoc (float_bytes x) (flat_map float_bytes xs) ys in
      let h : drop (at + 8) s ≡ flat_map float_bytes xs ++ ys = rw (length_float x) at (behind s at (float_bytes x) (flat_map float_bytes xs ++ ys) g) in
      rw (float_back x s at (flat_map float_bytes xs ++ ys) g f.0, spots_back xs (at + 8) ys h f.1)

  module _ (z : Placement) (at : ℕ) (ys : List ℕ) (e : drop at s ≡ placement_bytes z ++ ys) (w : Writable z) where
    rest4 : List ℕ
    rest4 = flat_map float_bytes z.spots ++ ys

    rest3 : List ℕ
    rest3 = bytes 2 z.unplaced ++ rest4

    rest2 : List ℕ
    rest2 = bytes 2 (length z.spots / 2) ++ rest3

    from_key : drop at s ≡ bytes 1 (length z.key) ++ (z.key ++ rest2)
    unfolding placement_bytes zone_head rest2 rest3 rest4
    from_key = e ∙ simp append_assoc

    len : u8 s at ≡ length z.key
    len = uint_back 1 (length z.key) s at (z.key ++ rest2) from_key w.short

    in_key : drop (at + 1) s ≡ z.key ++ rest2
    in_key = rw (length_bytes 1 (length z.key)) at (behind s at (bytes 1 (length z.key)) (z.key ++ rest2) from_key)

    placed_at_lem : placed_at s at ≡ at + 1 + length z.key
    unfolding placed_at
    placed_at_lem = rw len

    in_placed : drop (placed_at s at) s ≡ rest2
    in_placed = rw placed_at_lem (behind s (at + 1) z.key rest2 in_key)

    placed : u16 s (placed_at s at) ≡ length z.spots / 2
    unfolding rest2
    placed = uint_back 2 (length z.spots / 2) s (placed_at s at) rest3 in_placed w.few

    in_unplaced : drop (placed_at s at + 2) s ≡ rest3
    unfolding rest2
    in_unplaced = rw (length_bytes 2 (length z.spots / 2)) at (behind s (placed_at s at) (bytes 2 (length z.spots / 2)) rest3 in_placed)

    unplaced : u16 s (placed_at s at + 2) ≡ z.unplaced
    unfolding rest3
    unplaced = uint_back 2 z.unplaced s (placed_at s at + 2) rest4 in_unplaced w.unplaced

    in_spots : drop (placed_at s at + 4) s ≡ flat_map float_bytes z.spots ++ ys
    unfolding rest3 rest4
    in_spots =
        let k : placed_at s at + 2 + 2 ≡ placed_at s at + 4 = omega arith in
        rw (length_bytes 2 z.unplaced, k) at (behind s (placed_at s at + 2) (bytes 2 z.unplaced) rest4 in_unplaced)

    pub placement_back : placement s at ≡ z
    unfolding placement
    placement_back =
        rw (len, in_key, take-append_seam z.key rest2, unplaced, placed, w.pairs, spots_back z.spots (placed_at s at + 4) ys in_spots w.fit)

    pub placement_end_lem : placement_end s at ≡ at + length (placement_bytes z)
    unfolding placement_end
    placement_end_lem = rw placed (omega (arith, placed_at_lem, length_placement z, w.pairs))

  zones_back :
      (zs : List Placement) (at : ℕ) (ys : List ℕ) → drop at s ≡ flat_map placement_bytes zs ++ ys → AllWritable zs
      → each (placement s) (placement_end s) (length zs) at ≡ zs
  unfolding flat_map each
  zones_back [] at ys e w = refl
  zones_back (z ∷ zs) at ys e w =
      let rest = flat_map placement_bytes zs ++ ys in
      let g : drop at s ≡ placement_bytes z ++ rest = e ∙ append_assoc (placement_bytes z) (flat_map placement_bytes zs) ys in
      let h = behind s at (placement_bytes z) rest g in
      let b = zones_back zs (at + length (placement_bytes z)) ys h w.1 in
      rw (placement_back z at rest g w.0, placement_end_lem z at rest g w.0, b)

-- a sheet, and whatever bytes after it
module _ (sheet : Sheet) (ys : List ℕ) (w : WritableSheet sheet) where
  zs : List ℕ
  zs = flat_map placement_bytes sheet.zones

  s : List ℕ
  s = sheet_of sheet ++ ys

  from_zones : List ℕ
  from_zones = bytes 2 (length sheet.zones) ++ (zs ++ ys)

  in_version : drop 4 s ≡ bytes 1 1 ++ (float_bytes sheet.radius ++ from_zones)
  unfolding s zs from_zones sheet_of sheet_head
  in_version =
      let e : drop 0 s ≡ bytes 4 (11 + length zs) ++ (bytes 1 1 ++ (float_bytes sheet.radius ++ from_zones)) = simp append_assoc in
      rw (length_bytes 4 (11 + length zs)) at (behind s 0 (bytes 4 (11 + length zs)) (bytes 1 1 ++ (float_bytes sheet.radius ++ from_zones)) e)

  in_radius : drop 5 s ≡ float_bytes sheet.radius ++ from_zones
  in_radius = rw (length_bytes 1 1) at (behind s 4 (bytes 1 1) (float_bytes sheet.radius ++ from_zones) in_version)

  in_count : drop 13 s ≡ from_zones
  in_count = rw (length_float sheet.radius) at (behind s 5 (float_bytes sheet.radius) from_zones in_radius)

  in_zones : drop 15 s ≡ zs ++ ys
  unfolding from_zones
  in_zones = rw (length_bytes 2 (length sheet.zones)) at (behind s 13 (bytes 2 (length sheet.zones)) (zs ++ ys) in_count)

  pub sheet_back : read_sheet (sheet_of sheet ++ ys) ≡ sheet
  unfolding read_sheet s zs from_zones
  sheet_back =
      let radius = float_back sheet.radius s 5 from_zones in_radius w.fit in
      let count = uint_back 2 (length sheet.zones) s 13 (zs ++ ys) in_count w.few in
      rw (radius, count, zones_back s sheet.zones 15 ys in_zones w.zones)
