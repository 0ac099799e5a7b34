-- Low discrepancy at a site, as the code calls it: what admits a candidate, a turn of a pass, both passes, and the piece without bounds.
-- Rests on nothing but the definitions.
use Rattle.std.specs.Prelude.{◌≡◌, Bool, not, ◌&&◌, ◌||◌, Option, Some, None, List, [], Float}
use Rattle.std.proofs.Math.Path.{refl}
use Rattle.std.proofs.Common.{ap, ◌∙◌, eq-or-lt_of_le, length-append}
use Rattle.std.proofs.Math.Logic.{inl, inr}
use Rattle.std.proofs.Math.Bool.{true, false, and_comm, and-false}
use Prim.Native.Nat.{ℕ, zero, suc, ◌+◌, ◌-◌, ◌≤◌, ◌<◌}
use native.Mathlib.Omega.{arith}
use borrow.Author.Tests.{eq-eqb, ne_eqb}
use Rattle.std.proofs.Math.ListN.{length}
use Rattle.laws.specs.Any.{all}
use Rattle.laws.specs.Choice.{pick_true, pick_false}
use Rattle.float.specs.Ops.{◌≥ᶠ◌}
use Rattle.glyphs.specs.declared.bounds.Extents.{Extents}
use Rattle.glyphs.specs.declared.rect.Point.{Point}
use Rattle.glyphs.specs.declared.rect.Rectangle.{Rectangle}
use Rattle.glyphs.specs.Bounds.{ring_bounds}
use Rattle.glyphs.specs.Rect.{clear_of_obstacles, obstacles_near}
use Rattle.regions.specs.Pieces.{rings_of}
use Rattle.regions.specs.Ring.{Piece, outer}
use Rattle.regions.specs.Clearance.{signed_clearance}
use Rattle.lattice.specs.Context.{inset}
use Rattle.lattice.specs.Escape.{escape_obstacles}
use Rattle.lattice.specs.declared.context.PackCtx.{PackCtx}
use Rattle.scatter.specs.LowDiscrepancy.{budget, first_or, halton_point, candidate, apart, admits, pass, passes, pack_within, pack_scatter, lone_anchor}
use Rattle.scatter.specs.Cells.{cells_of, keeps}
use Rattle.scatter.specs.Placed.{placed_if}
use Rattle.scatter.specs.declared.cells.Cells.{Cells}
use Rattle.scatter.specs.declared.site.Site.{Site}
use Rattle.scatter.specs.Sites.{Boxed, Beside, ends_first}

-- ---- the definitions at a site
module _ (site : Site) (anchor : Option Point) where
  abbrev pub tried : ℕ → Point
  tried index = first_or anchor index (halton_point site.extents.min_x site.extents.max_x site.extents.min_y site.extents.max_y index)

  abbrev pub admits_at : Bool → List Point → Point → Bool
  admits_at honor placed p =
      admits (rings_of site.piece) site.n site.ctx site.near.now anchor
      site.extents.min_x site.extents.max_x site.extents.min_y site.extents.max_y honor placed p

  abbrev pub pass_at : Bool → ℕ → ℕ → List Point → List Point
  pass_at honor turns index placed =
      pass (rings_of site.piece) site.n site.ctx site.near.now anchor
      site.extents.min_x site.extents.max_x site.extents.min_y site.extents.max_y honor turns index placed

  abbrev pub passes_at : List Point
  passes_at =
      passes (rings_of site.piece) site.n site.ctx site.near.now anchor
      site.extents.min_x site.extents.max_x site.extents.min_y site.extents.max_y

-- ---- the tests in the code's order, by the cells that it keeps
module _
    (site : Site) (anchor : Option Point) (cells : Cells) (e : cells ≡ cells_of site.ctx site.extents.min_x site.extents.min_y)
    (honor : Bool) (placed : List Point) (p : Point)
  where
    abbrev Keeps : Bool
    Keeps = all (keeps cells p) placed

    abbrev Clears : Bool
    Clears = signed_clearance p.x p.y (rings_of site.piece) ≥ᶠ inset site.ctx

    abbrev Free : Bool
    Free = not honor || clear_of_obstacles p.x p.y site.near.now (inset site.ctx)

    by_cells : admits_at site anchor honor placed p ≡ (Keeps && Clears && Free)
    unfolding admits apart keeps cells_of
    by_cells = rw e

    pub admits_by : admits_at site anchor honor placed p ≡ (Clears && Keeps && Free)
    admits_by = by_cells ∙ ap (λ (t : Bool). t && Free) (and_comm Keeps Clears)

    pub no_spacing : Keeps ≡ false → admits_at site anchor honor placed p ≡ false
    no_spacing k = admits_by ∙ rw (k, and-false)

-- the anchor is tried at the index 0 only
pub later : (anchor : Option Point) (index : ℕ) (p : Point) → 0 < index → first_or anchor index p ≡ p
later None index p h = refl
later (Some place) zero p h = absurd (omega arith)
later (Some place) (suc index) p h = refl

pub first : (place : Point) (index : ℕ) (p : Point) → index ≤ 0 → first_or (Some place) index p ≡ place
first place zero p h = refl
first place (suc index) p h = absurd (omega arith)

-- ---- a pass
module _ (site : Site) (anchor : Option Point) (honor : Bool) where
  pub pass_full : (turns index : ℕ) (placed : List Point) → length placed ≡ site.n → pass_at site anchor honor turns index placed ≡ placed
  unfolding pass
  pass_full zero index placed h = refl
  pass_full (suc turns) index placed h = rw (eq-eqb (length placed) site.n h)

  pub pass_step :
      (turns index : ℕ) (placed : List Point) (p : Point) (b : Bool) → index < turns → (length placed ≡ site.n → ⊥)
      → p ≡ tried site anchor index → b ≡ admits_at site anchor honor placed p
      → pass_at site anchor honor (turns - index) index placed ≡ pass_at site anchor honor (turns - (index + 1)) (index + 1) (placed_if b p placed)
  unfolding pass candidate
  pass_step turns index placed p b h k f g =
      let m : turns - index ≡ suc (turns - (index + 1)) = omega arith in
      rw (m, ne_eqb (length placed) site.n k, ← f, ← g)

  pub pass_end : (turns index : ℕ) (placed : List Point) → turns ≤ index → pass_at site anchor honor (turns - index) index placed ≡ placed
  unfolding pass
  pass_end turns index placed h =
      let m : turns - index ≡ 0 = omega arith in
      rw m

  grown : (b : Bool) (p : Point) (ps : List Point) → length ps ≤ length (placed_if b p ps)
  grown true p ps = simp length-append (omega arith)
  grown false p ps = omega arith

  within : (b : Bool) (p : Point) (ps : List Point) → length ps < site.n → length (placed_if b p ps) ≤ site.n
  within true p ps h = simp length-append (omega arith)
  within false p ps h = omega arith

  -- spots are added, up to n
  pub pass_counts :
      (turns index : ℕ) (placed : List Point) → length placed ≤ site.n
      → (length placed ≤ length (pass_at site anchor honor turns index placed)) × (length (pass_at site anchor honor turns index placed) ≤ site.n)
  unfolding pass candidate
  pass_counts zero index placed h = (omega arith, h)
  pass_counts (suc turns) index placed h =
      let p = tried site anchor index in
      let b = admits_at site anchor honor placed p in
      elim (eq-or-lt_of_le h) [
        | inl k ↦ rw (eq-eqb (length placed) site.n k) (omega arith, h)
        | inr l ↦
            let r = pass_counts turns (index + 1) (placed_if b p placed) (within b p placed l) in
            rw (ne_eqb (length placed) site.n (λ (k : length placed ≡ site.n). omega arith)) (omega (arith, r.0, grown b p placed), r.1)
      ]

-- ---- both passes
module _ (site : Site) (anchor : Option Point) where
  abbrev run : Bool → List Point → List Point
  run honor placed = pass_at site anchor honor (budget site.n) 0 placed

  pub once : ends_first site ≡ true → run true [] ≡ passes_at site anchor
  unfolding passes
  once h = pick_true (run true []) (run false (run true [])) (ends_first site) h refl

  pub twice : ends_first site ≡ false → run false (run true []) ≡ passes_at site anchor
  unfolding passes
  twice h = pick_false (run true []) (run false (run true [])) (ends_first site) h refl

-- ---- a lone mark's anchor
module _ (poi : Point) (piece : Piece) (n : ℕ) (ctx : PackCtx) (obstacles : List Rectangle) where
  pub no_anchor : (n ≡ 1 → ⊥) → lone_anchor poi piece n ctx obstacles ≡ None
  unfolding lone_anchor
  no_anchor h = rw (ne_eqb n 1 h)

  pub unbounded_anchor : n ≡ 1 → ring_bounds (outer piece) ≡ None → Some poi ≡ lone_anchor poi piece n ctx obstacles
  unfolding lone_anchor escape_obstacles obstacles_near clear_of_obstacles
  unbounded_anchor e box = rw (eq-eqb n 1 e, box)

  pub anchor_is :
      n ≡ 1 → (e : Extents) → ring_bounds (outer piece) ≡ Some e
      → (c : Float) (near : List Rectangle) → c ≡ inset ctx → near ≡ obstacles_near (Some e) obstacles c
      → Some (escape_obstacles poi piece near c) ≡ lone_anchor poi piece n ctx obstacles
  unfolding lone_anchor
  anchor_is one e box c near el en = rw (eq-eqb n 1 one, box, en, el)

-- ---- a piece
module _ (anchor : Option Point) (piece : Piece) (n : ℕ) (ctx : PackCtx) (obstacles : List Rectangle) where
  pub no_marks : n ≡ 0 → pack_scatter anchor piece n ctx obstacles ≡ []
  unfolding pack_scatter
  no_marks e = rw (eq-eqb n 0 e)

  pub unbounded : (n ≡ 0 → ⊥) → ring_bounds (outer piece) ≡ None → pack_scatter anchor piece n ctx obstacles ≡ []
  unfolding pack_scatter pack_within
  unbounded h box = rw (ne_eqb n 0 h, box)

pub scatter_at :
    (site : Site) (anchor : Option Point) (obstacles : List Rectangle) → (site.n ≡ 0 → ⊥) → Boxed site → Beside site obstacles
    → passes_at site anchor ≡ pack_scatter anchor (rings_of site.piece) site.n site.ctx obstacles
unfolding pack_scatter pack_within
scatter_at site anchor obstacles h box en = rw (ne_eqb site.n 0 h, box, en) (rw box)
