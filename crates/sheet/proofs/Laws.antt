-- Laws of a sheet's bytes as they are put, part after part.
-- Rests on the laws of runs of stores.
use Rattle.std.specs.Prelude.{ℕ, ◌+◌, ◌/◌, ◌≤◌, ◌≡◌, length}
use Rattle.std.proofs.Common.{sym, ◌∙◌, arith}
use mathlib.Core.List.{List, ◌++◌, flat_map}
use Rattle.std.proofs.lemmas.List.Edits.{sets}
use Rattle.laws.specs.Lists.{written}
use Rattle.format.specs.Numbers.{float_bytes}
use Rattle.format.specs.NumberLaws.{sets_behind}
use Rattle.format.specs.RowLaws.{sets_append, sets_written}
use Rattle.sheet.specs.Sheet.{Placement, Sheet, zone_head, placement_bytes, sheet_head, sheet_of}
use Rattle.sheet.specs.Back.{length_sheet_head}
use Rattle.sheet.proofs.Back.{length_zone_head}

-- ---- the whole

-- a zone's head and its spots
pub put_placement :
    (l : List ℕ) (at : ℕ) (z : Placement)
    → sets (sets l at (zone_head z.key (length z.spots / 2) z.unplaced)) (at + 5 + length z.key) (flat_map float_bytes z.spots) ≡ sets l at (placement_bytes z)
unfolding placement_bytes
put_placement l at z =
    let h = zone_head z.key (length z.spots / 2) z.unplaced in
    let e : at + length h ≡ at + 5 + length z.key = omega (arith, length_zone_head z.key (length z.spots / 2) z.unplaced) in
    sym (sets_append l at h (flat_map float_bytes z.spots) ∙ rw e)

-- the zones first, then the head before them: the sheet stands in front, and what is behind it is as it was
pub put_sheet :
    (l : List ℕ) (sheet : Sheet) → length (sheet_of sheet) ≤ length l
    → let zs = flat_map placement_bytes sheet.zones in
    sets (sets l 15 zs) 0 (sheet_head (11 + length zs) sheet.radius (length sheet.zones))
    ≡ written (sheet_of sheet) l
unfolding sheet_of
put_sheet l sheet h =
    let zs = flat_map placement_bytes sheet.zones in
    let head = sheet_head (11 + length zs) sheet.radius (length sheet.zones) in
    let k = length_sheet_head (11 + length zs) sheet.radius (length sheet.zones) in
    sets_behind l 0 head 15 zs (omega (arith, k)) ∙ sym (sets_append l 0 head zs ∙ rw k) ∙ sets_written (head ++ zs) l h
