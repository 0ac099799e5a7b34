-- discs.rs, `lattice_valid_cells`, `sort_by_anchor` and `take_cells`. Definitions only.
use Rattle.std.specs.Prelude.{ℕ, suc, ◌-◌, ◌%◌, Bool, false, cond, not, ◌&&◌, ◌||◌}
use Rattle.std.specs.Prelude.{List, [], ◌∷◌, ◌++◌, map, length, take, ℤ, pos, negsuc, ◌+ℤ◌, ◌-ℤ◌, ◌==◌, nat_le, Float, Option, Some, None}
use mathlib.Core.List.{foldr}
use Prim.Native.Nat.{Ordering}
use Rattle.std.specs.Float.{binary64}
use Rattle.std.specs.Float.Ieee.{of_int}
use Rattle.laws.specs.Lists.{up_to}
use Rattle.laws.specs.Orders.{◌then_by◌}
use Rattle.laws.specs.Sort.{sort_by}
use Rattle.float.specs.Ops.{◌+ᶠ◌, ◌-ᶠ◌, ◌*ᶠ◌, ◌/ᶠ◌, ◌≤ᶠ◌, ◌≥ᶠ◌, 0ᶠ, 2ᶠ, literal}
use Rattle.float.specs.Order.{sqrt}
use Rattle.float.specs.Total.{total_cmp}
use Rattle.float.specs.Whole.{floor, ceil, as_i64}
use Rattle.glyphs.specs.declared.rect.Point.{Point}
use Rattle.glyphs.specs.declared.rect.Rectangle.{Rectangle}
use Rattle.glyphs.specs.declared.bounds.Extents.{Extents}
use Rattle.glyphs.specs.Bounds.{ring_bounds}
use Rattle.glyphs.specs.Rect.{clear_of_obstacles, is_finite}
use Rattle.regions.specs.Ring.{Piece, outer}
use Rattle.regions.specs.Clearance.{signed_clearance}
use Rattle.glyphs.specs.Spots.{squared_distance}
use Rattle.lattice.specs.Escape.{point}
use Rattle.lattice.specs.declared.context.Lattice.{Lattice}

-- ---- whole numbers

-- `as f64` of an `i64`
abbrev pub i64_as_f64 : ℤ → Float
i64_as_f64 i = of_int binary64 i

-- i.rem_euclid(2)
unfoldable pub rem_euclid2 : ℤ → ℕ
rem_euclid2 (pos n) = n % 2
rem_euclid2 (negsuc n) = suc n % 2

-- how many numbers first..=last has
abbrev pub many : ℤ → ℕ
many (pos n) = suc n
many (negsuc n) = 0

-- first..=last
unfoldable pub through : ℤ → ℤ → List ℤ
through first last = map (λ (k : ℕ). first +ℤ pos k) (up_to (many (last -ℤ first)))

-- ---- the walk

-- HEX_ENUM_CAP, and 3.0
abbrev pub hex_enum_cap : ℕ
hex_enum_cap = 1000000

abbrev pub 3ᶠ : Float
3ᶠ = literal 0x4008_0000_0000_0000

-- row_h
unfoldable pub row_height : Lattice → Float
row_height lattice = cond lattice.rectangular lattice.spacing (lattice.spacing *ᶠ sqrt 3ᶠ /ᶠ 2ᶠ)

-- whether row j is shifted by half a spacing
unfoldable pub is_shifted : Lattice → ℤ → Bool
unfolding rem_euclid2
is_shifted lattice j = not lattice.rectangular && rem_euclid2 j == 1

unfoldable pub row_offset : Lattice → ℤ → Float
row_offset lattice j = cond (is_shifted lattice j) (lattice.spacing /ᶠ 2ᶠ) 0ᶠ

-- the places of row j, from i_min to i_max
unfoldable pub row_cells : Lattice → Point → Float → Float → ℤ → List Point
row_cells lattice anchor min-x max-x j =
    let s = lattice.spacing in
    let y = anchor.y +ᶠ i64_as_f64 j *ᶠ row_height lattice in
    let offset = row_offset lattice j in
    let i_min = as_i64 (floor ((min-x -ᶠ offset -ᶠ anchor.x) /ᶠ s)) in
    let i_max = as_i64 (ceil ((max-x -ᶠ offset -ᶠ anchor.x) /ᶠ s)) in
    map (λ (i : ℤ). point (anchor.x +ᶠ offset +ᶠ i64_as_f64 i *ᶠ s) y) (through i_min i_max)

-- the places of all rows, row by row
unfoldable pub all_cells : Lattice → Point → Float → Float → Float → Float → List Point
all_cells lattice anchor min-x max-x min-y max-y =
    let row-h = row_height lattice in
    let j-min = as_i64 (floor ((min-y -ᶠ anchor.y) /ᶠ row-h)) in
    let j-max = as_i64 (ceil ((max-y -ᶠ anchor.y) /ᶠ row-h)) in
    foldr (λ (j : ℤ) (later : List Point). row_cells lattice anchor min-x max-x j ++ later) [] (through j-min j-max)

-- ---- the cells found

pub record HexCells : Type 0 where
  pub free : List Point
  pub blocked : List Point

abbrev pub no_cells : HexCells
no_cells = record { free = []; blocked = [] }

-- `cap`: stop at so many free cells, or never
pub data Cap : Type 0 where
  never : Cap
  at : ℕ → Cap

-- cap.is_some_and(|c| cells.free.len() >= c)
abbrev pub reached : Cap → ℕ → Bool
reached never n = false
reached (at c) n = nat_le c n

-- each visited cell judged in turn
unfoldable pub judge : Piece → Float → List Rectangle → Cap → HexCells → List Point → HexCells
judge piece min-clearance obstacles cap cells [] = cells
judge piece min-clearance obstacles cap cells (p ∷ ps) =
    let freed : HexCells = record { free = cells.free ++ p ∷ []; blocked = cells.blocked } in
    let walled : HexCells = record { free = cells.free; blocked = cells.blocked ++ p ∷ [] } in
    cond (signed_clearance p.x p.y piece ≥ᶠ min-clearance)
    (cond (clear_of_obstacles p.x p.y obstacles min-clearance)
    (cond (reached cap (length freed.free)) freed (judge piece min-clearance obstacles cap freed ps))
    (judge piece min-clearance obstacles cap walled ps))
    (judge piece min-clearance obstacles cap cells ps)

-- the walk within a box; the cell after the last of HEX_ENUM_CAP ends it
unfoldable pub cells_within : Option Extents → Piece → Point → Lattice → Float → List Rectangle → Cap → HexCells
cells_within None piece anchor lattice min-clearance obstacles cap = no_cells
cells_within (Some e) piece anchor lattice min-clearance obstacles cap =
    cond (lattice.spacing ≤ᶠ 0ᶠ || not (is_finite lattice.spacing)) no_cells
    (judge piece min-clearance obstacles cap no_cells (take hex_enum_cap (all_cells lattice anchor e.min_x e.max_x e.min_y e.max_y)))

unfoldable pub lattice_valid_cells : Piece → Point → Lattice → Float → List Rectangle → Cap → HexCells
lattice_valid_cells piece anchor lattice min-clearance obstacles cap =
    cells_within (ring_bounds (outer piece)) piece anchor lattice min-clearance obstacles cap

-- ---- the cells nearest the anchor

-- by squared distance, then y, then x
unfoldable pub by_anchor : Point → Point → Point → Ordering
by_anchor anchor a b =
    total_cmp (squared_distance a anchor) (squared_distance b anchor) then_by total_cmp a.y b.y then_by total_cmp a.x b.x

unfoldable pub sort_by_anchor : Point → List Point → List Point
sort_by_anchor anchor cells = sort_by (by_anchor anchor) cells

unfoldable pub take_cells : HexCells → ℕ → Point → Bool → List Point
take_cells cells n anchor honoring =
    let free = sort_by_anchor anchor cells.free in
    let short = n - length cells.free in
    cond (honoring || nat_le n (length cells.free)) (take n free) (free ++ take short (sort_by_anchor anchor cells.blocked))
