-- What the lattice packer places in a piece keeps what is claimed of it.
-- Rests on `Walk` and `Apart`: the anchor and the box are within reach, and so is each spacing tried, none of which is below the least.
use Rattle.std.specs.Prelude.{◌||◌, ◌≡◌, Bool, true, false, cond, ◌&&◌, ℕ, ◌≤◌, T, leb, ltb, length, take, Float, Some, None, Option}
use Rattle.std.proofs.Common.{subst, arith}
use Rattle.std.proofs.Math.Bool.{not}
use mathlib.Core.List.{List, [], ◌∷◌, ◌++◌, foldr}
use Rattle.std.proofs.Math.IntN.{ℤ}
use Rattle.std.specs.Float.Ieee.{binary64}
use Rattle.std.specs.Float.Ieee.Fits.{add-fits}
use Rattle.laws.specs.Every.{Every, every_append, every_take, every_map, pairwise_take}
use Rattle.float.specs.Ops.{◌+ᶠ◌, ◌-ᶠ◌, ◌*ᶠ◌, ◌/ᶠ◌, ◌≤ᶠ◌, 0ᶠ}
use Rattle.float.specs.Whole.{floor, ceil, as_i64}
use Rattle.rounding.specs.Bounds.{Sized}
use Rattle.glyphs.specs.declared.rect.Point.{Point}
use Rattle.glyphs.specs.declared.rect.Rectangle.{Rectangle}
use Rattle.glyphs.specs.declared.bounds.Extents.{Extents}
use Rattle.glyphs.specs.Bounds.{ring_bounds}
use Rattle.glyphs.specs.Rect.{is_finite}
use Rattle.regions.specs.Ring.{Piece, outer}
use Rattle.lattice.specs.declared.context.PackCtx.{PackCtx}
use Rattle.lattice.specs.declared.context.Lattice.{Lattice}
use Rattle.lattice.specs.Context.{inset, spacing}
use Rattle.lattice.specs.Escape.{point}
use Rattle.lattice.specs.Lattice.{HexCells, no_cells, Cap, never, at, i64_as_f64, through, hex_enum_cap, row_height, row_offset, row_cells, all_cells, judge}
use Rattle.lattice.specs.Lattice.{cells_within, lattice_valid_cells, take_cells}
use Rattle.lattice.specs.Uniform.{available, cells_at, spread_cells, pack_lattice}
use Rattle.claims.specs.Kept.{Unblocked, Fits, Kept, honor_kept, kept_by, Apart, apart_sym}
use Rattle.claims.specs.Measures.{BoxSized, Measures}
use Rattle.claims.specs.Widened.{Widened, apart_less}
use Rattle.claims.proofs.Widened.{widened}
use Rattle.claims.specs.Whole.{every_through}
use Rattle.claims.specs.Apart.{walk_apart}
use Rattle.claims.specs.Walk.{Sound, no_cells_lem, walked, taken_inset, taken_apart, taken_clear}
use Rattle.claims.specs.Counts.{taken_count}

-- ---- 64 bits hold every cell
module _ (lat : Lattice) (anchor : Point) (min-x max-x min-y max-y : Float) where
  row_fits : (j : ℤ) → Every Fits (row_cells lat anchor min-x max-x j)
  unfolding row_cells
  row_fits j =
      let s = lat.spacing in
      let first = as_i64 (floor ((min-x -ᶠ row_offset lat j -ᶠ anchor.x) /ᶠ s)) in
      let last = as_i64 (ceil ((max-x -ᶠ row_offset lat j -ᶠ anchor.x) /ᶠ s)) in
      let place : ℤ → Point = λ i. point (anchor.x +ᶠ row_offset lat j +ᶠ i64_as_f64 i *ᶠ s) (anchor.y +ᶠ i64_as_f64 j *ᶠ row_height lat) in
      every_map Fits place (through first last)
      (every_through first last (λ (i : ℤ). Fits (place i)) (λ i p q. record { across = add-fits binary64 _ _; along = add-fits binary64 _ _ }))

  walk_fits : Every Fits (all_cells lat anchor min-x max-x min-y max-y)
  unfolding all_cells
  walk_fits = go (through (as_i64 (floor ((min-y -ᶠ anchor.y) /ᶠ row_height lat))) (as_i64 (ceil ((max-y -ᶠ anchor.y) /ᶠ row_height lat))))
    where
      go : (js : List ℤ) → Every Fits (foldr (λ (j : ℤ) (later : List Point). row_cells lat anchor min-x max-x j ++ later) [] js)
      go [] = tt
      go (j ∷ js) = every_append Fits (row_cells lat anchor min-x max-x j) _ (row_fits j) (go js)

-- ---- the spots of a piece
module _
    (piece : Piece) (n : ℕ) (ctx : PackCtx) (rectangular : Bool) (near : List Rectangle) (anchor : Point)
    (AX : Sized anchor.x 65536) (AY : Sized anchor.y 65536) (m : Measures piece ctx) where
  abbrev cells : Float → Cap → HexCells
  cells s cap = cells_at piece n ctx rectangular near anchor s cap

  sound_within :
      (b : Option Extents) → BoxSized b → (s : Float) (cap : Cap) → Widened (spacing ctx) s
      → Sound piece (inset ctx) near (Apart s) (cells_within b piece anchor (record { spacing = s; rectangular = rectangular }) (inset ctx) near cap)
  unfolding cells_within
  sound_within None z s cap w = no_cells_lem piece (inset ctx) near (Apart s)
  sound_within (Some bounds) z s cap w = go (s ≤ᶠ 0ᶠ || not (is_finite s))
    where
      lat : Lattice
      lat = record { spacing = s; rectangular = rectangular }

      all : List Point
      all = all_cells (record { spacing = s; rectangular = rectangular }) anchor bounds.min_x bounds.max_x bounds.min_y bounds.max_y

      go : (t : Bool) → Sound piece (inset ctx) near (Apart s) (cond t no_cells (judge piece (inset ctx) near cap no_cells (take hex_enum_cap all)))
      go true = no_cells_lem piece (inset ctx) near (Apart s)
      go false =
          walked piece (inset ctx) near cap (Apart s) (apart_sym s) (take hex_enum_cap all)
          (every_take Fits hex_enum_cap all (walk_fits lat anchor bounds.min_x bounds.max_x bounds.min_y bounds.max_y))
          (pairwise_take (Apart s) hex_enum_cap all
          (walk_apart s rectangular anchor bounds.min_x bounds.max_x bounds.min_y bounds.max_y w.length w.few AX AY z.left z.right z.bottom z.top))

  sound_at : (s : Float) (cap : Cap) → Widened (spacing ctx) s → Sound piece (inset ctx) near (Apart s) (cells s cap)
  unfolding lattice_valid_cells
  sound_at s cap w = sound_within (ring_bounds (outer piece)) m.box s cap w

  abbrev KeptHere : Bool → List Point → Type 0
  KeptHere honor placed = Kept piece (inset ctx) near (Apart (spacing ctx)) honor placed

  -- the cells taken at a spacing
  taken : (s : Float) (cap : Cap) → Widened (spacing ctx) s → (honoring : Bool) → KeptHere honoring (take_cells (cells s cap) n anchor honoring)
  taken s cap w honoring =
      let c = sound_at s cap w in
      kept_by piece (inset ctx) near (Apart s) (Apart (spacing ctx)) honoring (take_cells (cells s cap) n anchor honoring)
      (λ p q a b h. apart_less (spacing ctx) s p q w.least h)
      (record {
        insets = taken_inset piece (inset ctx) near (Apart s) (apart_sym s) (cells s cap) c n anchor honoring;
        unblocked = clear honoring;
        apart = taken_apart piece (inset ctx) near (Apart s) (apart_sym s) (cells s cap) c n anchor honoring;
      })
    where
      clear : (h : Bool) → T h → Every (Unblocked near (inset ctx)) (take_cells (cells s cap) n anchor h)
      clear true t = taken_clear piece (inset ctx) near (Apart s) (apart_sym s) (cells s cap) (sound_at s cap w) n anchor
      clear false t = absurd t

  least : Widened (spacing ctx) (spacing ctx)
  least = record { length = m.length; few = m.short; least = omega arith }

  -- the spacing widened, whatever the box
  spread :
      (b : Option Extents) → BoxSized b → (honoring : Bool)
      → KeptHere honoring (spread_cells piece n ctx rectangular near anchor b (cells (spacing ctx) (at n)) honoring)
  unfolding spread_cells
  spread None z honoring = taken (spacing ctx) (at n) least honoring
  spread (Some bounds) z honoring =
      taken _ never
      (widened piece n ctx rectangular near anchor honoring bounds.min_x bounds.max_x bounds.min_y bounds.max_y z.left z.right z.bottom z.top
      (spacing ctx) m.length m.short)
      honoring

  -- short of room at the least spacing, Strict takes free cells only; otherwise honouring is what was possible there
  pub lattice_kept : ctx.mode.spread ≡ true → KeptHere ctx.mode.strict_obstacles (pack_lattice piece n ctx rectangular near anchor)
  unfolding pack_lattice
  lattice_kept e =
      go (leb n (length at_min.free)) ctx.mode.strict_obstacles (ltb (available (leb n (length at_min.free)) at_min) n || not ctx.mode.spread)
      ctx.mode.spread
      e
    where
      at_min : HexCells
      at_min = cells (spacing ctx) (at n)

      chosen :
          (b h : Bool)
          → KeptHere h (cond b (take_cells at_min n anchor h) (spread_cells piece n ctx rectangular near anchor (ring_bounds (outer piece)) at_min h))
      chosen true h = taken (spacing ctx) (at n) least h
      chosen false h = spread (ring_bounds (outer piece)) m.box h

      go : (h strict b sp : Bool) → sp ≡ true
          → KeptHere strict
          (cond (not h && strict) (cond sp (take_cells at_min n anchor true) at_min.free)
          (cond b (take_cells at_min n anchor h) (spread_cells piece n ctx rectangular near anchor (ring_bounds (outer piece)) at_min h)))
      go true strict b sp e = honor_kept strict (chosen b true)
      go false true b true e = taken (spacing ctx) (at n) least true
      go false true b false e = absurd (subst (λ (z : Bool). T (not z)) e tt)
      go false false b sp e = chosen b false

  spread_count : (b : Option Extents) (at_min : HexCells) (honoring : Bool) → length (spread_cells piece n ctx rectangular near anchor b at_min honoring) ≤ n
  unfolding spread_cells
  spread_count None at_min honoring = taken_count at_min n anchor honoring
  spread_count (Some bounds) at_min honoring = taken_count _ n anchor honoring

  pub lattice_count : ctx.mode.spread ≡ true → length (pack_lattice piece n ctx rectangular near anchor) ≤ n
  unfolding pack_lattice
  lattice_count e =
      go (not (leb n (length at_min.free)) && ctx.mode.strict_obstacles) (ltb (available (leb n (length at_min.free)) at_min) n || not ctx.mode.spread)
      (leb n (length at_min.free))
      ctx.mode.spread
      e
    where
      at_min : HexCells
      at_min = cells (spacing ctx) (at n)

      go : (s b h sp : Bool) → sp ≡ true
          → length (cond s (cond sp (take_cells at_min n anchor true) at_min.free)
          (cond b (take_cells at_min n anchor h) (spread_cells piece n ctx rectangular near anchor (ring_bounds (outer piece)) at_min h)))
          ≤ n
      go true b h true e = taken_count at_min n anchor true
      go true b h false e = absurd (subst (λ (z : Bool). T (not z)) e tt)
      go false true h sp e = taken_count at_min n anchor h
      go false false h sp e = spread_count (ring_bounds (outer piece)) at_min h
