-- What the packers' claims ask of a piece and a context: how large the box, the spacing and a place with the inset are.
-- Definitions only; the size laws of an accepted job give it.
use Rattle.std.specs.Prelude.{◌*◌, ◌≤◌, Some, None, Option}
use Rattle.float.specs.Laws.Nan.{Number}
use Rattle.rounding.specs.Value.{U, mag}
use Rattle.rounding.specs.Distance.{Length}
use Rattle.glyphs.specs.declared.rect.Point.{Point}
use Rattle.glyphs.specs.declared.bounds.Extents.{Extents}
use Rattle.glyphs.specs.Bounds.{ring_bounds}
use Rattle.regions.specs.Ring.{Piece, outer}
use Rattle.lattice.specs.declared.context.PackCtx.{PackCtx}
use Rattle.lattice.specs.Context.{inset, spacing}
use Rattle.claims.specs.Boxed.{Boxed}
use Rattle.claims.specs.Kept.{Stands, Sited}

abbrev pub BoxSized : Option Extents → Type 0
BoxSized None = Unit {0}
BoxSized (Some bounds) = Boxed bounds.min_x bounds.max_x bounds.min_y bounds.max_y

pub record Measures (piece : Piece) (ctx : PackCtx) : Type 0 where
  pub box : BoxSized (ring_bounds (outer piece))
  pub length : Length (spacing ctx)
  pub short : mag (spacing ctx) ≤ 36864 * U
  pub number : Number (inset ctx)
  pub sited : (p : Point) → Stands piece (inset ctx) p → Sited p
