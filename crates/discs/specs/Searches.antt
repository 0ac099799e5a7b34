-- The deepest-point searches that the reference makes. Definitions only.
use Rattle.std.specs.Prelude.{ℕ, Bool, true, false, cond, ◌&&◌, List, [], ◌∷◌, ◌==◌, nat_lt, Some, None, Option}
use Rattle.float.specs.Ops.{◌>ᶠ◌, 0ᶠ}
use Rattle.glyphs.specs.Bounds.{ring_bounds}
use Rattle.glyphs.specs.declared.bounds.Extents.{Extents}
use Rattle.glyphs.specs.declared.options.GlyphArrangement.{GlyphArrangement}
use Rattle.glyphs.specs.declared.options.GlyphArrangement.TheVariants.{Uniform, Rectangular, LowDiscrepancy, Random}
use Rattle.regions.specs.Ring.{Piece, outer}
use Rattle.deepest.specs.declared.search.Deepest.{Deepest}
use Rattle.deepest.specs.declared.search.Deepest.TheVariants.{Found, Nothing, Full}
use Rattle.discs.specs.Region.{deepest_of}
use Rattle.discs.specs.declared.options.GlyphOptions.{GlyphOptions}
use Rattle.discs.specs.declared.options.Radius.{Radius}
use Rattle.discs.specs.declared.options.Radius.TheVariants.{Auto, Stated}

unfoldable pub has_bounds : Option Extents → Bool
has_bounds None = false
has_bounds (Some bounds) = true

-- at a radius a packer starts from the deepest point: a lattice where it places marks, low discrepancy for a lone mark, Random never
unfoldable pub starts_deepest : GlyphArrangement → Piece → ℕ → Bool
starts_deepest Uniform piece quota = nat_lt 0 quota
starts_deepest Rectangular piece quota = nat_lt 0 quota
starts_deepest LowDiscrepancy piece quota = quota == 1 && has_bounds (ring_bounds (outer piece))
starts_deepest Random piece quota = false

-- the ceiling of an automatic radius asks for the deepest point of each piece
unfoldable pub is_searched : Radius → GlyphArrangement → Piece → ℕ → Bool
is_searched Auto arrangement piece quota = true
is_searched (Stated r) arrangement piece quota = r >ᶠ 0ᶠ && starts_deepest arrangement piece quota

-- the deepest point of a piece, where it is searched for
unfoldable pub searched : ℕ → GlyphOptions → Piece → ℕ → Deepest
searched room options piece quota = cond (is_searched options.radius options.arrangement piece quota) (deepest_of room options piece) Nothing

-- those of a zone's pieces, by their quotas
unfoldable pub searches_in : ℕ → GlyphOptions → List Piece → List ℕ → List Deepest
searches_in room options [] quotas = []
searches_in room options (piece ∷ pieces) [] = []
searches_in room options (piece ∷ pieces) (quota ∷ quotas) = searched room options piece quota ∷ searches_in room options pieces quotas

-- no more cells waited at once than there was room for
unfoldable pub had_room : Deepest → Bool
had_room Full = false
had_room Nothing = true
had_room (Found x y clearance) = true
