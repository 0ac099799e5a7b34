-- discs.rs, `pack_low_discrepancy_piece`: a Halton sequence filtered by clearance and spacing. Definitions only.
use Rattle.std.specs.Prelude.{Bool, true, false, not, cond, ◌&&◌, ◌||◌, Option, Some, None, List, [], ◌∷◌, ◌++◌, length, Float}
use Rattle.std.specs.Prelude.{ℕ, zero, suc, ◌+◌, ◌*◌, min, max, eqb, ℤ, pos, negsuc}
use Rattle.std.proofs.Math.IntN.{suc_ℤ, pred_ℤ}
use Rattle.laws.specs.Any.{all}
use Rattle.float.specs.Ops.{◌+ᶠ◌, ◌-ᶠ◌, ◌*ᶠ◌, ◌/ᶠ◌, ◌≥ᶠ◌, ε}
use Rattle.float.specs.Order as Float
use Rattle.float.specs.Whole.{floor, as_i64}
use Rattle.glyphs.specs.declared.rect.Point.{Point}
use Rattle.glyphs.specs.declared.rect.Rectangle.{Rectangle}
use Rattle.glyphs.specs.declared.bounds.Extents.{Extents}
use Rattle.glyphs.specs.Bounds.{ring_bounds}
use Rattle.glyphs.specs.Halton.{radical_inverse}
use Rattle.glyphs.specs.Rect.{clear_of_obstacles}
use Rattle.regions.specs.Ring.{Piece, outer}
use Rattle.regions.specs.Clearance.{signed_clearance}
use Rattle.lattice.specs.Context.{inset, spacing}
use Rattle.glyphs.specs.Spots.{squared_distance}
use Rattle.lattice.specs.Escape.{point, escape_obstacles}
use Rattle.lattice.specs.Uniform.{local_to}
use Rattle.lattice.specs.declared.context.PackCtx.{PackCtx}

-- ---- cells

abbrev pub sameℤ : ℤ → ℤ → Bool
sameℤ (pos m) (pos n) = eqb m n
sameℤ (pos m) (negsuc n) = false
sameℤ (negsuc m) (pos n) = false
sameℤ (negsuc m) (negsuc n) = eqb m n

-- b is one of a + -1, a + 0, a + 1
abbrev pub beside : ℤ → ℤ → Bool
beside a b = sameℤ b (pred_ℤ a) || sameℤ b a || sameℤ b (suc_ℤ a)

-- ((x - min_x) / cell_size).floor() as i64
unfoldable pub cell_number : Float → Float → Float → ℤ
cell_number low cell_size_lem x = as_i64 (floor ((x -ᶠ low) /ᶠ cell_size_lem))

-- n.saturating_mul(100).clamp(1024, 1_000_000)
abbrev pub budget : ℕ → ℕ
budget n = min (max (n * 100) 1024) 1000000

-- q is in one of the nine cells around p's
abbrev pub neighbours : Float → Float → Float → Point → Point → Bool
neighbours min-x min-y cell_size_lem p q =
    beside (cell_number min-x cell_size_lem p.x) (cell_number min-x cell_size_lem q.x)
    && beside (cell_number min-y cell_size_lem p.y) (cell_number min-y cell_size_lem q.y)

-- the sequence's point of an index, in a box
abbrev pub halton_point : Float → Float → Float → Float → ℕ → Point
halton_point min-x max-x min-y max-y index =
    point (min-x +ᶠ (max-x -ᶠ min-x) *ᶠ radical_inverse (index + 1) 2) (min-y +ᶠ (max-y -ᶠ min-y) *ᶠ radical_inverse (index + 1) 3)

-- anchor.filter(|_| index == 0).unwrap_or_else(..)
abbrev pub first_or : Option Point → ℕ → Point → Point
first_or None index p = p
first_or (Some place) zero p = place
first_or (Some place) (suc index) p = p

module _ (piece : Piece) (n : ℕ) (ctx : PackCtx) (near : List Rectangle) (anchor : Option Point) (min-x max-x min-y max-y : Float) where
  abbrev pub cell_size : Float
  cell_size = Float.max (spacing ctx) ε

  -- the candidate of an index
  unfoldable pub candidate : ℕ → Point
  candidate index = first_or anchor index (halton_point min-x max-x min-y max-y index)

  -- a spot in one of the nine cells around the candidate's keeps the spacing
  unfoldable pub apart : Point → Point → Bool
  apart p q = not (neighbours min-x min-y cell_size p q) || squared_distance p q ≥ᶠ spacing ctx *ᶠ spacing ctx

  unfoldable pub admits : Bool → List Point → Point → Bool
  admits honor placed p =
      all (apart p) placed
      && signed_clearance p.x p.y piece ≥ᶠ inset ctx
      && (not honor || clear_of_obstacles p.x p.y near (inset ctx))

  -- for index in 0..budget, from an index on, with `turns` left; it ends where n are placed
  unfoldable pub pass : Bool → ℕ → ℕ → List Point → List Point
  pass honor zero index placed = placed
  pass honor (suc turns) index placed =
      let p = candidate index in
      cond (eqb (length placed) n) placed
      (pass honor turns (index + 1) (cond (admits honor placed p) (placed ++ p ∷ []) placed))

  -- for honor_obstacles in [true, false]
  unfoldable pub passes : List Point
  passes =
      let placed = pass true (budget n) 0 [] in
      cond (ctx.mode.strict_obstacles || eqb (length near) 0) placed (pass false (budget n) 0 placed)

-- `anchor` is the place that a lone mark tries first
unfoldable pub pack_within : Option Extents → Option Point → Piece → ℕ → PackCtx → List Rectangle → List Point
pack_within None anchor piece n ctx obstacles = []
pack_within (Some e) anchor piece n ctx obstacles =
    passes piece n ctx (local_to piece obstacles (inset ctx)) anchor e.min_x e.max_x e.min_y e.max_y

unfoldable pub pack_scatter : Option Point → Piece → ℕ → PackCtx → List Rectangle → List Point
pack_scatter anchor piece n ctx obstacles = cond (eqb n 0) [] (pack_within (ring_bounds (outer piece)) anchor piece n ctx obstacles)

-- (n == 1).then(|| the deepest point).map(escape_obstacles), from the deepest point
unfoldable pub lone_anchor : Point → Piece → ℕ → PackCtx → List Rectangle → Option Point
lone_anchor poi piece n ctx obstacles = cond (eqb n 1) (Some (escape_obstacles poi piece (local_to piece obstacles (inset ctx)) (inset ctx))) None
