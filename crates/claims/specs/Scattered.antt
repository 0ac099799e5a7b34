-- What the low-discrepancy packer places in a piece keeps what is claimed of it.
-- Rests on `Thrown`: spots of neighbouring cells passed the computed test, and cells two apart are a spacing apart.
use Rattle.std.specs.Prelude.{◌≡◌, refl, Bool, not, cond, ◌&&◌, ◌||◌, ℕ, ◌*◌, ◌≤◌, eqb, ℤ, pos, negsuc, Float, Option, Some, None}
use Rattle.std.proofs.Common.{sym, subst, inl, inr, eq-eqb}
use Rattle.std.proofs.Math.Bool.{true, false}
use mathlib.Core.List.{List, []}
use native.Mathlib.Omega.{arith}
use Rattle.std.proofs.Math.Dec.{T}
use Rattle.std.proofs.Math.IntN.{suc_ℤ, pred_ℤ, pred-suc}
use Rattle.std.proofs.Math.ListN.{length}
use Rattle.std.specs.Float.Ieee.{fits, of_bits}
use Rattle.float.specs.Ops.{◌*ᶠ◌, ◌≥ᶠ◌, ε}
use Rattle.float.specs.Order.{max}
use Rattle.rounding.specs.Value.{U, H, sgn, mag, Num}
use Rattle.rounding.specs.Selection.{max_case}
use Rattle.rounding.specs.Bounds.{wider}
use Rattle.rounding.specs.Distance.{Length, length_plus}
use Rattle.rounding.specs.Cells.{TwoApart, two_apart}
use Rattle.rounding.proofs.CellsGap.{cells_across, cells_along}
use Rattle.glyphs.specs.declared.rect.Point.{Point}
use Rattle.glyphs.specs.declared.rect.Rectangle.{Rectangle}
use Rattle.glyphs.specs.declared.bounds.Extents.{Extents}
use Rattle.glyphs.specs.Bounds.{ring_bounds}
use Rattle.glyphs.specs.Spots.{squared_distance}
use Rattle.regions.specs.Ring.{Piece, outer}
use Rattle.lattice.specs.declared.context.PackCtx.{PackCtx}
use Rattle.lattice.specs.Context.{inset, spacing}
use Rattle.lattice.specs.Uniform.{local_to}
use Rattle.scatter.specs.LowDiscrepancy.{sameℤ, beside, cell_number, apart, passes, pack_within, pack_scatter}
use Rattle.claims.specs.Kept.{Kept, none_kept, kept_by, Sited, Apart, apart_sym, computed_apart}
use Rattle.claims.specs.Boxed.{Boxed}
use Rattle.claims.specs.Measures.{BoxSized, Measures}
use Rattle.claims.specs.Thrown.{AnchorFits, Tested, scattered}
use Rattle.claims.specs.Counts.{scattered_count}

-- ---- a cell is as wide as the spacing
ε_num : Num ε
unfolding of_bits fits
ε_num = record { fit = tt; fine = tt }

ε_is : mag ε * H ≡ U
unfolding of_bits mag U
ε_is = refl

ε_plus : sgn ε ≡ false
unfolding of_bits sgn
ε_plus = refl

cell_size_lem : (s : Float) → Length s → max s ε ≡ s
cell_size_lem s l = elim (max_case s ε l.sized.num ε_num) [ inl c ↦ absurd (omega (arith, rw (length_plus l, ε_plus) at c.1, l.least, ε_is)) | inr c ↦ c.0 ]

-- ---- cells that are not beside one another
same_refl : (a : ℤ) → T (sameℤ a a)
same_refl (pos n) = subst T (sym (eq-eqb n n refl)) tt
same_refl (negsuc n) = subst T (sym (eq-eqb n n refl)) tt

none_of : (a b c : Bool) → T (not (a || b || c)) → T (not a) × T (not b) × T (not c)
none_of false false c t = (tt, tt, t)
none_of false true c t = absurd t
none_of true b c t = absurd t

never_both : (a : Bool) → T a → T (not a) → ⊥
never_both true t u = u
never_both false t u = t

not_beside : (a b : ℤ) → T (not (beside a b)) → TwoApart a b
not_beside a b t =
    let n = none_of (sameℤ b (pred_ℤ a)) (sameℤ b a) (sameℤ b (suc_ℤ a)) t in
    two_apart a b
    (λ e. never_both (sameℤ b a) (rw e (same_refl b)) n.1)
    (λ e. never_both (sameℤ b (suc_ℤ a)) (rw e (same_refl (suc_ℤ a))) n.2)
    (λ e. never_both (sameℤ b (pred_ℤ a)) (rw (e, pred-suc b) (same_refl b)) n.0)

-- ---- two spots
module _
    (piece : Piece) (n : ℕ) (ctx : PackCtx) (near : List Rectangle) (anchor : Option Point) (min-x max-x min-y max-y : Float) (held : AnchorFits anchor)
    (l : Length (spacing ctx)) (z : Boxed min-x max-x min-y max-y) where
  tested_apart : (q p : Point) → Sited q → Sited p → Tested piece n ctx near anchor min-x max-x min-y max-y held q p → Apart (spacing ctx) q p
  unfolding apart cell_number
  tested_apart q p a b t =
      apart_sym (spacing ctx) p q
      (go (beside (cell_number min-x (spacing ctx) p.x) (cell_number min-x (spacing ctx) q.x))
      (beside (cell_number min-y (spacing ctx) p.y) (cell_number min-y (spacing ctx) q.y))
      (squared_distance p q ≥ᶠ spacing ctx *ᶠ spacing ctx)
      (λ u. cells_across (spacing ctx) p.x p.y q.x q.y l b.across b.along a.across a.along min-x (wider (omega arith) z.left) (not_beside _ _ u))
      (λ u. cells_along (spacing ctx) p.x p.y q.x q.y l b.across b.along a.across a.along min-y (wider (omega arith) z.bottom) (not_beside _ _ u))
      (λ u. computed_apart (spacing ctx) l.sized p q b a u)
      (rw (cell_size_lem (spacing ctx) l) at t))
    where
      go :
          (x y d : Bool) → (T (not x) → Apart (spacing ctx) p q) → (T (not y) → Apart (spacing ctx) p q) → (T d → Apart (spacing ctx) p q)
          → T (not (x && y) || d) → Apart (spacing ctx) p q
      go true true d f g h t = h t
      go true false d f g h t = g tt
      go false y d f g h t = f tt

-- ---- the spots of a piece
module _ (anchor : Option Point) (held : AnchorFits anchor) (piece : Piece) (n : ℕ) (ctx : PackCtx) (obstacles : List Rectangle) (m : Measures piece ctx) where
  abbrev KeptHere : List Point → Type 0
  KeptHere placed = Kept piece (inset ctx) (local_to piece obstacles (inset ctx)) (Apart (spacing ctx)) ctx.mode.strict_obstacles placed

  none : KeptHere []
  none = none_kept piece (inset ctx) (local_to piece obstacles (inset ctx)) (Apart (spacing ctx)) ctx.mode.strict_obstacles

  within_kept : (b : Option Extents) → BoxSized b → KeptHere (pack_within b anchor piece n ctx obstacles)
  unfolding pack_within
  within_kept None z = none
  within_kept (Some bounds) z =
      let near = local_to piece obstacles (inset ctx) in
      kept_by piece (inset ctx) near (Tested piece n ctx near anchor bounds.min_x bounds.max_x bounds.min_y bounds.max_y held)
      (Apart (spacing ctx)) ctx.mode.strict_obstacles
      (passes piece n ctx near anchor bounds.min_x bounds.max_x bounds.min_y bounds.max_y)
      (λ q p a b t. tested_apart piece n ctx near anchor bounds.min_x bounds.max_x bounds.min_y bounds.max_y held m.length z q p (m.sited q a) (m.sited p b) t)
      (scattered piece n ctx near anchor bounds.min_x bounds.max_x bounds.min_y bounds.max_y held)

  within_count : (b : Option Extents) → length (pack_within b anchor piece n ctx obstacles) ≤ n
  unfolding pack_within
  within_count None = omega arith
  within_count (Some bounds) = scattered_count piece n ctx (local_to piece obstacles (inset ctx)) anchor bounds.min_x bounds.max_x bounds.min_y bounds.max_y

  pub scatter_kept : KeptHere (pack_scatter anchor piece n ctx obstacles)
  unfolding pack_scatter
  scatter_kept = go (eqb n 0)
    where
      go : (t : Bool) → KeptHere (cond t [] (pack_within (ring_bounds (outer piece)) anchor piece n ctx obstacles))
      go true = none
      go false = within_kept (ring_bounds (outer piece)) m.box

  pub scatter_count : length (pack_scatter anchor piece n ctx obstacles) ≤ n
  unfolding pack_scatter
  scatter_count = go (eqb n 0)
    where
      go : (t : Bool) → length (cond t [] (pack_within (ring_bounds (outer piece)) anchor piece n ctx obstacles)) ≤ n
      go true = omega arith
      go false = within_count (ring_bounds (outer piece))
