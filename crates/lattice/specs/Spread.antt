-- The lattice packer over a field, as the code has it: one that is spread, and one that is only counted.
-- Rests on the law that a cap which is not reached stops nothing.
use Rattle.std.specs.Prelude.{◌≡◌, ℕ, zero, suc, ◌+◌, ◌-◌, ◌<◌, ◌≤◌, min, leb, nat_le, nat_lt, Bool, true, false, cond, not, ◌&&◌, ◌||◌}
use Rattle.std.specs.Prelude.{List, [], ◌∷◌, ◌++◌, length, take, Float, Some}
use Rattle.std.proofs.Math.Path.{refl, ap}
use Rattle.std.proofs.Common.{sym, ◌∙◌, arith, length-take}
use Prim.Native.Nat.{Ordering}
use borrow.Author.Tests.{lt-leb, le-leb, leb-false, leb-true, ltb-true}
use Rattle.laws.specs.Sort.{place, insert, sort_by}
use Rattle.float.specs.Ops.{◌+ᶠ◌, ◌-ᶠ◌, ◌*ᶠ◌, ◌≤ᶠ◌, ◌≥ᶠ◌, 0ᶠ, ½ᶠ}
use Rattle.float.specs.Order.{max, hypot}
use Rattle.glyphs.specs.declared.rect.Point.{Point}
use Rattle.glyphs.specs.declared.rect.Rectangle.{Rectangle}
use Rattle.glyphs.specs.Bounds.{ring_bounds}
use Rattle.glyphs.specs.Rect.{clear_of_obstacles, is_finite}
use Rattle.regions.specs.Ring.{Piece, outer}
use Rattle.regions.specs.Clearance.{signed_clearance}
use Rattle.lattice.specs.Context.{inset, spacing}
use Rattle.lattice.specs.Lattice.{HexCells, no_cells, Cap, never, at, reached, judge, hex_enum_cap, all_cells, cells_within, lattice_valid_cells}
use Rattle.lattice.specs.Lattice.{take_cells, by_anchor, sort_by_anchor}
use Rattle.lattice.specs.Tally.{cells_of}
use Rattle.lattice.specs.Uniform.{1e-3ᶠ, available, fits_at, widen, spread_cells, pack_lattice}
use Rattle.lattice.specs.declared.context.PackCtx.{PackCtx}
use Rattle.lattice.specs.declared.rows.Field.{Field}

abbrev pub with_spacing : Field → Float → Field
with_spacing field s =
    record {
      anchor = field.anchor;
      lattice = record { spacing = s; rectangular = field.lattice.rectangular };
      extents = field.extents;
    }

-- whether n are there, of a free ones and b more
pub enough_shift : (a b n : ℕ) (x : Bool) → x ≡ nat_le (n - a) b → a < n → x ≡ nat_le n (a + b)
enough_shift a b n true e h = let k = leb-true (n - a) b (sym e) in sym (le-leb n (a + b) (omega arith))
enough_shift a b n false e h = let k = leb-false (n - a) b (sym e) in sym (lt-leb n (a + b) (omega arith))

module _ (piece : Piece) (c : Float) (near : List Rectangle) where
  unfoldable pub field_fits : ℕ → Field → Bool → Float → Bool
  field_fits n field honoring s = nat_le n (available honoring (cells_of (with_spacing field s) piece c near (at n)))

  unfoldable pub field_widen : ℕ → Field → Bool → Float → ℕ → Float → Float → Float
  field_widen n field honoring s_max zero lo hi = lo
  field_widen n field honoring s_max (suc turns) lo hi =
      let mid = ½ᶠ *ᶠ (lo +ᶠ hi) in
      cond (hi -ᶠ lo ≤ᶠ 1e-3ᶠ *ᶠ s_max) lo
      (cond (field_fits n field honoring mid) (field_widen n field honoring s_max turns mid hi) (field_widen n field honoring s_max turns lo mid))

  -- the largest spacing found at which n cells are there
  unfoldable pub field_spacing : ℕ → Field → Bool → Float
  field_spacing n field honoring =
      let s-min = field.lattice.spacing in
      let s_max = hypot (field.extents.max_x -ᶠ field.extents.min_x) (field.extents.max_y -ᶠ field.extents.min_y) in
      let hi = max s_max s-min in
      cond (field_fits n field honoring hi) hi (field_widen n field honoring s_max 24 s-min hi)

  unfoldable pub field_take : ℕ → Field → Bool → List Point
  field_take n field honoring = take_cells (cells_of field piece c near never) n field.anchor honoring

  unfoldable pub field_pack : ℕ → Field → Bool → List Point
  field_pack n field strict =
      let at_min = cells_of field piece c near (at n) in
      let honoring = leb n (length at_min.free) in
      cond (not honoring && strict) (field_take n field true)
      (cond (nat_lt (available honoring at_min) n) (field_take n field honoring) (field_take n (with_spacing field (field_spacing n field honoring)) honoring))

  -- ---- turns of the widening
  module _ (n : ℕ) (field : Field) (honoring : Bool) (s_max : Float) (turns : ℕ) (lo hi : Float) (h : 0 < turns) where
    more : turns ≡ suc (turns - 1)
    more = omega arith

    pub widen_stop : hi -ᶠ lo ≤ᶠ 1e-3ᶠ *ᶠ s_max ≡ true → field_widen n field honoring s_max turns lo hi ≡ lo
    unfolding field_widen
    widen_stop e = ap (λ (k : ℕ). field_widen n field honoring s_max k lo hi) more ∙ rw e

    pub widen_up :
        hi -ᶠ lo ≤ᶠ 1e-3ᶠ *ᶠ s_max ≡ false → field_fits n field honoring (½ᶠ *ᶠ (lo +ᶠ hi)) ≡ true
        → field_widen n field honoring s_max turns lo hi ≡ field_widen n field honoring s_max (turns - 1) (½ᶠ *ᶠ (lo +ᶠ hi)) hi
    unfolding field_widen
    widen_up e f = ap (λ (k : ℕ). field_widen n field honoring s_max k lo hi) more ∙ rw (e, f)

    pub widen_down :
        hi -ᶠ lo ≤ᶠ 1e-3ᶠ *ᶠ s_max ≡ false → field_fits n field honoring (½ᶠ *ᶠ (lo +ᶠ hi)) ≡ false
        → field_widen n field honoring s_max turns lo hi ≡ field_widen n field honoring s_max (turns - 1) lo (½ᶠ *ᶠ (lo +ᶠ hi))
    unfolding field_widen
    widen_down e f = ap (λ (k : ℕ). field_widen n field honoring s_max k lo hi) more ∙ rw (e, f)

  pub widen_end :
      (n : ℕ) (field : Field) (honoring : Bool) (s_max : Float) (turns : ℕ) (lo hi : Float) → turns ≤ 0
      → field_widen n field honoring s_max turns lo hi ≡ lo
  unfolding field_widen
  widen_end n field honoring s_max zero lo hi h = refl
  widen_end n field honoring s_max (suc turns) lo hi h = absurd (omega arith)

  -- ---- a cap that is not reached stops nothing
  module _
      (n : ℕ) (cells : HexCells) (p : Point) (ps : List Point)
      (later :
      (found : HexCells) → length (judge piece c near (at n) found ps).free < n
      → judge piece c near (at n) found ps ≡ judge piece c near never found ps) where
    abbrev freed : HexCells
    freed = record { free = cells.free ++ p ∷ []; blocked = cells.blocked }

    abbrev walled : HexCells
    walled = record { free = cells.free; blocked = cells.blocked ++ p ∷ [] }

    after_free :
        (b : Bool) → nat_le n (length freed.free) ≡ b → length (cond b freed (judge piece c near (at n) freed ps)).free < n
        → cond b freed (judge piece c near (at n) freed ps) ≡ judge piece c near never freed ps
    after_free true e h = let k = leb-true n (length freed.free) e in absurd (omega arith)
    after_free false e h = later freed h

    judged :
        (a b : Bool)
        → let few = λ (found : HexCells). judge piece c near (at n) found ps in
        let found = cond a (cond b (cond (reached (at n) (length freed.free)) freed (few freed)) (few walled)) (few cells) in
        length found.free < n
        → found
        ≡ cond a (cond b (judge piece c near never freed ps) (judge piece c near never walled ps)) (judge piece c near never cells ps)
    judged true true h = after_free (nat_le n (length freed.free)) refl h
    judged true false h = later walled h
    judged false b h = later cells h

  uncapped :
      (n : ℕ) (cells : HexCells) (ps : List Point) → length (judge piece c near (at n) cells ps).free < n
      → judge piece c near (at n) cells ps ≡ judge piece c near never cells ps
  unfolding judge
  uncapped n cells [] h = refl
  uncapped n cells (p ∷ ps) h =
      judged n cells p ps (λ (found : HexCells) (k : length (judge piece c near (at n) found ps).free < n). uncapped n found ps k)
      (signed_clearance p.x p.y piece ≥ᶠ c) (clear_of_obstacles p.x p.y near c) h

  within :
      (b : Bool) (n : ℕ) (ps : List Point) → length (cond b no_cells (judge piece c near (at n) no_cells ps)).free < n
      → cond b no_cells (judge piece c near (at n) no_cells ps) ≡ cond b no_cells (judge piece c near never no_cells ps)
  within true n ps h = refl
  within false n ps h = uncapped n no_cells ps h

  pub uncapped_cells :
      (n : ℕ) (field : Field) → length (cells_of field piece c near (at n)).free < n
      → cells_of field piece c near (at n) ≡ cells_of field piece c near never
  unfolding cells_within
  uncapped_cells n field h =
      within (field.lattice.spacing ≤ᶠ 0ᶠ || not (is_finite field.lattice.spacing)) n
      (take hex_enum_cap (all_cells field.lattice field.anchor field.extents.min_x field.extents.max_x field.extents.min_y field.extents.max_y)) h

  -- ---- the choices of a packing
  pick :
      {u v w u' v' w' : List Point} (a b : Bool) → (a ≡ true → u ≡ u') → (b ≡ true → v ≡ v') → w ≡ w'
      → cond a u (cond (b || false) v w) ≡ cond a u' (cond b v' w')
  pick true b f g h = f refl
  pick false true f g h = g refl
  pick false false f g h = h

  first_of_and : (a b : Bool) → (not a && b) ≡ true → a ≡ false
  first_of_and true b e = let w : ◌≡◌ {A = ℕ} 0 1 = cc in absurd (omega arith)
  first_of_and false b e = refl

  pub take_strict :
      (n : ℕ) (field : Field) (strict : Bool)
      → (not (nat_le n (length (cells_of field piece c near (at n)).free)) && strict) ≡ true
      → take_cells (cells_of field piece c near (at n)) n field.anchor true ≡ field_take n field true
  unfolding field_take
  take_strict n field strict e =
      let free = length (cells_of field piece c near (at n)).free in
      ap (λ (cells : HexCells). take_cells cells n field.anchor true)
      (uncapped_cells n field (leb-false n free (first_of_and (nat_le n free) strict e)))

  pub take_short :
      (n : ℕ) (field : Field) (honoring : Bool) → nat_lt (available honoring (cells_of field piece c near (at n))) n ≡ true
      → take_cells (cells_of field piece c near (at n)) n field.anchor honoring ≡ field_take n field honoring
  unfolding field_take available
  take_short n field honoring e =
      let k = ltb-true (available honoring (cells_of field piece c near (at n))) n e in
      ap (λ (cells : HexCells). take_cells cells n field.anchor honoring) (uncapped_cells n field (omega arith))

-- ---- the number of cells taken
length_insert : (cmp : Point → Point → Ordering) (x : Point) (ys : List Point) → length (insert cmp x ys) ≡ suc (length ys)
unfolding insert
length_insert cmp x [] = refl
length_insert cmp x (y ∷ ys) = into (cmp x y) (insert cmp x ys) (length_insert cmp x ys)
  where
    into : (o : Ordering) (t : List Point) → length t ≡ suc (length ys) → length (place cmp o x y ys t) ≡ suc (suc (length ys))
    into Ordering.lt t h = refl
    into Ordering.eq t h = refl
    into Ordering.gt t h = ap suc h

pub length_sort : (anchor : Point) (ps : List Point) → length (sort_by_anchor anchor ps) ≡ length ps
unfolding sort_by_anchor sort_by
length_sort anchor [] = refl
length_sort anchor (p ∷ ps) = length_insert (by_anchor anchor) p (sort_by (by_anchor anchor) ps) ∙ ap suc (length_sort anchor ps)

counted :
    (n : ℕ) (anchor : Point) (cells : HexCells) (w : List Point) (h x : Bool) → nat_le n (length cells.free) ≡ h
    → length (cond (not h && true) cells.free (cond (x || true) (take_cells cells n anchor h) w)) ≡ min n (length cells.free)
unfolding take_cells
counted n anchor cells w true true e = length-take n (sort_by_anchor anchor cells.free) ∙ ap (min n) (length_sort anchor cells.free)
counted n anchor cells w true false e = length-take n (sort_by_anchor anchor cells.free) ∙ ap (min n) (length_sort anchor cells.free)
counted n anchor cells w false x e = let k = leb-false n (length cells.free) e in omega arith

-- ---- the packer over a piece is the packer over its field
module _
    (piece : Piece) (n : ℕ) (ctx : PackCtx) (near : List Rectangle) (field : Field) (box : ring_bounds (outer piece) ≡ Some field.extents)
    (s-min : field.lattice.spacing ≡ spacing ctx) where
  abbrev rectangular : Bool
  rectangular = field.lattice.rectangular

  cells_at :
      (s : Float) (cap : Cap)
      → lattice_valid_cells piece field.anchor (record { spacing = s; rectangular = field.lattice.rectangular }) (inset ctx) near cap
      ≡ cells_of (with_spacing field s) piece (inset ctx) near cap
  unfolding lattice_valid_cells
  cells_at s cap = rw box

  fits_is :
      (honoring : Bool) (s : Float)
      → fits_at piece n ctx rectangular near field.anchor honoring s ≡ field_fits piece (inset ctx) near n field honoring s
  unfolding field_fits
  fits_is honoring s = ap (λ (cells : HexCells). leb n (available honoring cells)) (cells_at s (at n))

  widen_is :
      (honoring : Bool) (s_max : Float) (turns : ℕ) (lo hi : Float)
      → widen piece n ctx rectangular near field.anchor honoring s_max turns lo hi ≡ field_widen piece (inset ctx) near n field honoring s_max turns lo hi
  unfolding widen field_widen
  widen_is honoring s_max zero lo hi = refl
  widen_is honoring s_max (suc turns) lo hi =
      rw (fits_is honoring (½ᶠ *ᶠ (lo +ᶠ hi)), widen_is honoring s_max turns (½ᶠ *ᶠ (lo +ᶠ hi)) hi, widen_is honoring s_max turns lo (½ᶠ *ᶠ (lo +ᶠ hi)))

  spread_is :
      (at_min : HexCells) (honoring : Bool)
      → spread_cells piece n ctx rectangular near field.anchor (ring_bounds (outer piece)) at_min honoring
      ≡ field_take piece (inset ctx) near n (with_spacing field (field_spacing piece (inset ctx) near n field honoring)) honoring
  unfolding spread_cells field_spacing field_take hypot
  spread_is at_min honoring =
      let s_max = hypot (field.extents.max_x -ᶠ field.extents.min_x) (field.extents.max_y -ᶠ field.extents.min_y) in
      let s_min = field.lattice.spacing in
      rw (box, ← s-min, fits_is honoring (max s_max s_min), widen_is honoring s_max 24 s_min (max s_max s_min), cells_at _ never)

  at_min :
      lattice_valid_cells piece field.anchor (record { spacing = spacing ctx; rectangular = field.lattice.rectangular }) (inset ctx) near (at n)
      ≡ cells_of field piece (inset ctx) near (at n)
  at_min = rw (← s-min) (cells_at field.lattice.spacing (at n))

  -- the definition with its flags, and the cells at the least spacing, apart
  packed : Bool → Bool → HexCells → List Point
  packed spread strict cells =
      let honoring = leb n (length cells.free) in
      cond (not honoring && strict) (cond spread (take_cells cells n field.anchor true) cells.free)
      (cond (nat_lt (available honoring cells) n || not spread) (take_cells cells n field.anchor honoring)
      (spread_cells piece n ctx rectangular near field.anchor (ring_bounds (outer piece)) cells honoring))

  is_packed :
      pack_lattice piece n ctx rectangular near field.anchor
      ≡ packed ctx.mode.spread ctx.mode.strict_obstacles (cells_of field piece (inset ctx) near (at n))
  unfolding pack_lattice packed
  is_packed = ap (packed ctx.mode.spread ctx.mode.strict_obstacles) at_min

  pub pack_is :
      ctx.mode.spread ≡ true
      → pack_lattice piece n ctx rectangular near field.anchor ≡ field_pack piece (inset ctx) near n field ctx.mode.strict_obstacles
  unfolding packed field_pack
  pack_is e =
      let cells = cells_of field piece (inset ctx) near (at n) in
      let honoring = leb n (length cells.free) in
      is_packed
      ∙ ap (λ (b : Bool). packed b ctx.mode.strict_obstacles cells) e
      ∙ pick piece (inset ctx) near (not honoring && ctx.mode.strict_obstacles) (nat_lt (available honoring cells) n)
      (take_strict piece (inset ctx) near n field ctx.mode.strict_obstacles)
      (take_short piece (inset ctx) near n field honoring)
      (spread_is cells honoring)

  -- ---- a trial only counts
  pub trial_is :
      ctx.mode.spread ≡ false → ctx.mode.strict_obstacles ≡ true
      → length (pack_lattice piece n ctx rectangular near field.anchor) ≡ min n (length (cells_of field piece (inset ctx) near (at n)).free)
  unfolding packed
  trial_is e f =
      let cells = cells_of field piece (inset ctx) near (at n) in
      let honoring = nat_le n (length cells.free) in
      let wide = spread_cells piece n ctx rectangular near field.anchor (ring_bounds (outer piece)) cells honoring in
      ap length (is_packed ∙ ap (λ (b : Bool). packed b ctx.mode.strict_obstacles cells) e ∙ ap (λ (b : Bool). packed false b cells) f)
      ∙ counted n field.anchor cells wide honoring (nat_lt (available honoring cells) n) refl
