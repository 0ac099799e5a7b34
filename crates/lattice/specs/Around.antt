-- The packer about a deepest point by its parts, as the code calls them.
-- Rests on the laws of `Spread.antt`.
use Rattle.std.specs.Prelude.{◌≡◌, ℕ, zero, suc, ◌+◌, ◌-◌, ◌/◌, ◌<◌, min, Bool, true, false, cond, not, ◌&&◌, ◌||◌}
use Rattle.std.specs.Prelude.{List, [], ◌++◌, length, take, nat_le, refl, Float, Some, None}
use Rattle.std.proofs.Common.{sym, ap, ◌∙◌}
use borrow.Author.Tests.{lt-ltb, le-ltb, lt-leb, leb-true, leb-false}
use Rattle.std.proofs.Math.Seq.{take-nil}
use Rattle.laws.specs.Sort.{sort_by}
use Rattle.glyphs.specs.declared.bounds.Extents.{Extents}
use Rattle.glyphs.specs.declared.rect.Point.{Point}
use Rattle.glyphs.specs.declared.rect.Rectangle.{Rectangle}
use Rattle.glyphs.specs.Bounds.{ring_bounds}
use Rattle.glyphs.specs.Rect.{rects_from, rectangles, obstacles_near}
use Rattle.regions.specs.Ring.{Piece, outer}
use Rattle.lattice.specs.Context.{inset, spacing}
use Rattle.lattice.specs.Lattice.{no_cells, at, cells_within, lattice_valid_cells, take_cells, sort_by_anchor}
use Rattle.lattice.specs.Spread.{with_spacing, field_spacing, field_take, field_pack, pack_is, trial_is}
use Rattle.lattice.specs.Tally.{cells_of, counts_of}
use Rattle.lattice.specs.Uniform.{available, pack_lattice, anchor_of, pack_around}
use Rattle.lattice.specs.declared.context.PackCtx.{PackCtx}
use Rattle.lattice.specs.declared.count.Counts.{Counts}
use Rattle.lattice.specs.declared.rows.Field.{Field}

-- ---- the choices of a packing, by the numbers at the least spacing
module _
    (piece : Piece) (c : Float) (near : List Rectangle) (n : ℕ) (field : Field) (strict : Bool) (t : Counts)
    (et : t ≡ counts_of (cells_of field piece c near (at n))) where
  free_is : t.free ≡ length (cells_of field piece c near (at n)).free
  free_is = ap (λ (x : Counts). x.free) et

  blocked_is : t.blocked ≡ length (cells_of field piece c near (at n)).blocked
  blocked_is = ap (λ (x : Counts). x.blocked) et

  pub pack_strict : (not (nat_le n t.free) && strict) ≡ true → field_pack piece c near n field strict ≡ field_take piece c near n field true
  unfolding field_pack
  pack_strict h = rw (← free_is, h)

  pub pack_short :
      (not (nat_le n t.free) && strict) ≡ false → nat_le n (t.free + cond (nat_le n t.free) 0 t.blocked) ≡ false
      → field_pack piece c near n field strict ≡ field_take piece c near n field (nat_le n t.free)
  unfolding field_pack available
  pack_short h k =
      rw (← free_is, ← blocked_is, h, lt-ltb (t.free + cond (nat_le n t.free) 0 t.blocked) n (leb-false n (t.free + cond (nat_le n t.free) 0 t.blocked) k))

  pub pack_wide :
      (not (nat_le n t.free) && strict) ≡ false → nat_le n (t.free + cond (nat_le n t.free) 0 t.blocked) ≡ true
      → field_pack piece c near n field strict
      ≡ field_take piece c near n (with_spacing field (field_spacing piece c near n field (nat_le n t.free))) (nat_le n t.free)
  unfolding field_pack available
  pack_wide h k =
      rw (← free_is, ← blocked_is, h, le-ltb (t.free + cond (nat_le n t.free) 0 t.blocked) n (leb-true n (t.free + cond (nat_le n t.free) 0 t.blocked) k))

-- ---- a list of obstacles
length_rects : (l : List Float) (k n : ℕ) → length (rects_from l k n) ≡ n
unfolding rects_from
length_rects l k zero = refl
length_rects l k (suc n) = ap suc (length_rects l (k + 1) n)

pub length_rectangles : (l : List Float) → length (rectangles l) ≡ length l / 4
unfolding rectangles
length_rectangles l = length_rects l 0 (length l / 4)

-- the lattice about a deepest point, given the obstacles near its piece
abbrev pub field_at : Point → Piece → PackCtx → List Rectangle → Bool → Extents → Field
field_at poi piece ctx near rectangular extents =
    record { anchor = anchor_of poi piece near (inset ctx); lattice = record { spacing = spacing ctx; rectangular = rectangular }; extents = extents }

-- the obstacles near a piece of some extents
abbrev pub near_of : PackCtx → List Rectangle → Extents → List Rectangle
near_of ctx obstacles e = obstacles_near (Some e) obstacles (inset ctx)

module _ (poi : Point) (piece : Piece) (n : ℕ) (ctx : PackCtx) (obstacles : List Rectangle) (rectangular : Bool) where
  -- ---- with bounds
  module _ (extents : Extents) (box : ring_bounds (outer piece) ≡ Some extents) where
    abbrev local : List Rectangle
    local = near_of ctx obstacles extents

    abbrev field_of : Field
    field_of = field_at poi piece ctx local rectangular extents

    around : pack_around poi piece n ctx obstacles rectangular ≡ pack_lattice piece n ctx rectangular local (anchor_of poi piece local (inset ctx))
    unfolding pack_around
    around = rw box

    module _
        (rings : Piece) (least : Float) (near : List Rectangle) (field : Field) (ep : rings ≡ piece) (el : least ≡ inset ctx) (en : near ≡ local)
        (ef : field ≡ field_at poi rings ctx near rectangular extents) where
      pub around_is : ctx.mode.spread ≡ true → field_pack rings least near n field ctx.mode.strict_obstacles ≡ pack_around poi piece n ctx obstacles rectangular
      around_is e = rw (ef, el, en, ep) (sym (around ∙ pack_is piece n ctx local field_of box refl e))

      pub probe_is :
          ctx.mode.spread ≡ false → ctx.mode.strict_obstacles ≡ true
          → min n (length (cells_of field rings least near (at n)).free) ≡ length (pack_around poi piece n ctx obstacles rectangular)
      probe_is e f = rw (ef, el, en, ep) (sym (ap length around ∙ trial_is piece n ctx local field_of box refl e f))

  -- ---- without bounds no spots
  take_none :
      (k : ℕ) (anchor : Point) (honoring b : Bool)
      → cond (honoring || b) (take n (sort_by_anchor anchor [])) (sort_by_anchor anchor [] ++ take k (sort_by_anchor anchor [])) ≡ []
  unfolding sort_by_anchor sort_by
  take_none k anchor true b = take-nil n
  take_none k anchor false true = take-nil n
  take_none k anchor false false = take-nil k

  none_taken : (anchor : Point) (honoring : Bool) → take_cells no_cells n anchor honoring ≡ []
  unfolding take_cells
  none_taken anchor honoring = take_none (n - 0) anchor honoring (nat_le n 0)

  none_picked : (strict spread : Bool) (u v : List Point) → u ≡ [] → v ≡ [] → cond strict (cond spread u []) v ≡ []
  none_picked true true u v e f = e
  none_picked true false u v e f = refl
  none_picked false spread u v e f = f

  pub no_spots : ring_bounds (outer piece) ≡ None → 0 < n → pack_around poi piece n ctx obstacles rectangular ≡ []
  unfolding pack_around pack_lattice lattice_valid_cells cells_within available
  no_spots box h =
      rw (box, lt-leb n 0 h, lt-ltb 0 n h)
      (none_picked ctx.mode.strict_obstacles ctx.mode.spread _ _ (none_taken _ true) (none_taken _ false))
