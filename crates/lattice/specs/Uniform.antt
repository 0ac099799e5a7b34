-- discs.rs, `pack_uniform_piece`: the lattice packer for one piece. Definitions only.
use Rattle.std.specs.Prelude.{ℕ, zero, suc, ◌+◌, Bool, true, cond, not, ◌&&◌, ◌||◌, leb, List, length, ◌==◌, nat_le, nat_lt, Float, Option, Some, None}
use Rattle.float.specs.Ops.{◌+ᶠ◌, ◌-ᶠ◌, ◌*ᶠ◌, ◌≤ᶠ◌, ½ᶠ, literal}
use Rattle.float.specs.Order.{sqrt, max}
use Rattle.glyphs.specs.declared.rect.Point.{Point}
use Rattle.glyphs.specs.declared.rect.Rectangle.{Rectangle}
use Rattle.glyphs.specs.declared.bounds.Extents.{Extents}
use Rattle.glyphs.specs.Bounds.{ring_bounds}
use Rattle.glyphs.specs.Rect.{obstacles_near}
use Rattle.regions.specs.Ring.{Piece, outer}
use Rattle.lattice.specs.Context.{inset, spacing}
use Rattle.lattice.specs.Escape.{escape_obstacles}
use Rattle.lattice.specs.Lattice.{HexCells, Cap, never, at, lattice_valid_cells, take_cells}
use Rattle.lattice.specs.declared.context.PackCtx.{PackCtx}
use Rattle.lattice.specs.declared.context.Lattice.{Lattice}

-- 1e-3
abbrev pub 1e-3ᶠ : Float
1e-3ᶠ = literal 0x3f50_624d_d2f1_a9fc

-- obstacles_near(piece, ctx.obstacles, inset)
abbrev pub local_to : Piece → List Rectangle → Float → List Rectangle
local_to piece obstacles inset = obstacles_near (ring_bounds (outer piece)) obstacles inset

-- the cells that the piece may use
unfoldable pub available : Bool → HexCells → ℕ
available honoring cells = length cells.free + cond honoring 0 (length cells.blocked)

module _ (piece : Piece) (n : ℕ) (ctx : PackCtx) (rectangular : Bool) (near : List Rectangle) (anchor : Point) where
  abbrev pub lattice : Float → Lattice
  lattice s = record { spacing = s; rectangular = rectangular }

  abbrev pub cells_at : Float → Cap → HexCells
  cells_at s cap = lattice_valid_cells piece anchor (lattice s) (inset ctx) near cap

  -- whether n cells are there at a spacing
  abbrev pub fits_at : Bool → Float → Bool
  fits_at honoring s = nat_le n (available honoring (cells_at s (at n)))

  -- for _ in 0..24: the largest spacing still fitting n cells
  unfoldable pub widen : Bool → Float → ℕ → Float → Float → Float
  widen honoring s_max zero lo hi = lo
  widen honoring s_max (suc turns) lo hi =
      let mid = ½ᶠ *ᶠ (lo +ᶠ hi) in
      cond (hi -ᶠ lo ≤ᶠ 1e-3ᶠ *ᶠ s_max) lo
      (cond (fits_at honoring mid) (widen honoring s_max turns mid hi) (widen honoring s_max turns lo mid))

  -- the spacing widened, and the n cells nearest the anchor at it
  unfoldable pub spread_cells : Option Extents → HexCells → Bool → List Point
  spread_cells None at_min honoring = take_cells at_min n anchor honoring
  spread_cells (Some e) at_min honoring =
      let s_max = sqrt ((e.max_x -ᶠ e.min_x) *ᶠ (e.max_x -ᶠ e.min_x) +ᶠ (e.max_y -ᶠ e.min_y) *ᶠ (e.max_y -ᶠ e.min_y)) in
      let hi = max s_max (spacing ctx) in
      let lo = cond (fits_at honoring hi) hi (widen honoring s_max 24 (spacing ctx) hi) in
      take_cells (cells_at lo never) n anchor honoring

  unfoldable pub pack_lattice : List Point
  pack_lattice =
      let at_min = cells_at (spacing ctx) (at n) in
      let honoring = leb n (length at_min.free) in
      cond (not honoring && ctx.mode.strict_obstacles) (cond ctx.mode.spread (take_cells at_min n anchor true) at_min.free)
      (cond (nat_lt (available honoring at_min) n || not ctx.mode.spread) (take_cells at_min n anchor honoring)
      (spread_cells (ring_bounds (outer piece)) at_min honoring))

-- the deepest point, moved off the obstacles
unfoldable pub anchor_of : Point → Piece → List Rectangle → Float → Point
anchor_of poi piece near inset = cond (length near == 0) poi (escape_obstacles poi piece near inset)

-- the spots about a piece's deepest point
unfoldable pub pack_around : Point → Piece → ℕ → PackCtx → List Rectangle → Bool → List Point
pack_around poi piece n ctx obstacles rectangular =
    let near = local_to piece obstacles (inset ctx) in
    pack_lattice piece n ctx rectangular near (anchor_of poi piece near (inset ctx))
