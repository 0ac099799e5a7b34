-- discs.rs, `pack_region`: a zone's marks over its pieces. Definitions only.
use Rattle.std.specs.Prelude.{ℕ, ◌+◌, Bool, true, false, cond, List, [], ◌∷◌, map, length, ◌==◌, Float, None}
use Rattle.glyphs.specs.Apportion.{apportion}
use Rattle.glyphs.specs.Hash.{fnv1a}
use Rattle.glyphs.specs.Stream.{seeded}
use Rattle.glyphs.specs.declared.options.GlyphArrangement.{GlyphArrangement}
use Rattle.glyphs.specs.declared.options.GlyphArrangement.TheVariants.{Uniform, Rectangular, LowDiscrepancy, Random}
use Rattle.glyphs.specs.declared.rect.Point.{Point}
use Rattle.glyphs.specs.declared.rect.Rectangle.{Rectangle}
use Rattle.glyphs.specs.declared.stream.Stream.{Stream}
use Rattle.regions.specs.Ring.{Piece}
use Rattle.regions.specs.Area.{piece_area}
use Rattle.relax.specs.declared.Spreading.{Spreading}
use Rattle.lattice.specs.Escape.{point}
use Rattle.lattice.specs.Uniform.{pack_around}
use Rattle.scatter.specs.LowDiscrepancy.{lone_anchor, pack_scatter}
use Rattle.deepest.specs.declared.search.Deepest.{Deepest}
use Rattle.deepest.specs.declared.search.Deepest.TheVariants.{Found, Nothing, Full}
use Rattle.deepest.specs.Deepest.{poi_with_holes}
use Rattle.scatter.specs.Random.{Thrown, pack_random_piece}
use Rattle.lattice.specs.declared.context.PackCtx.{PackCtx}
use Rattle.discs.specs.declared.options.GlyphOptions.{GlyphOptions}

-- a region: its key, the marks it wants, its pieces
pub record Zone : Type 0 where
  pub key : List ℕ
  pub count : ℕ
  pub pieces : List Piece

-- pieces.iter().map(|p| p.area())
abbrev pub areas : List Piece → List Float
areas pieces = map piece_area pieces

unfoldable pub quotas : Zone → List ℕ
quotas zone = apportion zone.count (areas zone.pieces)

-- poi_with_holes(std::slice::from_ref(piece), precision), with room for so many cells
abbrev pub deepest_of : ℕ → GlyphOptions → Piece → Deepest
deepest_of room options piece = poi_with_holes room options.precision (piece ∷ [])

-- pack_uniform_piece, from the deepest point; a job that has no room for its search is refused
unfoldable pub pack_uniform_piece : Deepest → Piece → ℕ → PackCtx → List Rectangle → Bool → List Point
pack_uniform_piece Nothing piece n ctx obstacles rectangular = []
pack_uniform_piece Full piece n ctx obstacles rectangular = []
pack_uniform_piece (Found x y clearance) piece n ctx obstacles rectangular = pack_around (point x y) piece n ctx obstacles rectangular

-- pack_low_discrepancy_piece, from the deepest point, which only a lone mark asks for
unfoldable pub pack_low_discrepancy_piece : Deepest → Piece → ℕ → PackCtx → List Rectangle → List Point
pack_low_discrepancy_piece Nothing piece n ctx obstacles = pack_scatter None piece n ctx obstacles
pack_low_discrepancy_piece Full piece n ctx obstacles = pack_scatter None piece n ctx obstacles
pack_low_discrepancy_piece (Found x y clearance) piece n ctx obstacles = pack_scatter (lone_anchor (point x y) piece n ctx obstacles) piece n ctx obstacles

-- one piece, by the arrangement; only Random draws from the stream
unfoldable pub pack_piece : ℕ → Spreading → GlyphOptions → GlyphArrangement → PackCtx → List Rectangle → Piece → ℕ → Stream → Thrown
pack_piece room numbers options Uniform ctx obstacles piece quota rng =
    record { placed = pack_uniform_piece (deepest_of room options piece) piece quota ctx obstacles false; rng = rng }
pack_piece room numbers options Rectangular ctx obstacles piece quota rng =
    record { placed = pack_uniform_piece (deepest_of room options piece) piece quota ctx obstacles true; rng = rng }
pack_piece room numbers options LowDiscrepancy ctx obstacles piece quota rng =
    record { placed = pack_low_discrepancy_piece (deepest_of room options piece) piece quota ctx obstacles; rng = rng }
pack_piece room numbers options Random ctx obstacles piece quota rng =
    pack_random_piece numbers piece quota options.max_attempts ctx obstacles rng

-- the spots of each piece, in order; a piece with quota 0 is passed over
unfoldable pub pack_pieces : ℕ → Spreading → GlyphOptions → PackCtx → List Rectangle → List Piece → List ℕ → Stream → List (List Point)
pack_pieces room numbers options ctx obstacles [] quotas rng = []
pack_pieces room numbers options ctx obstacles (piece ∷ pieces) [] rng = []
pack_pieces room numbers options ctx obstacles (piece ∷ pieces) (quota ∷ quotas) rng =
    let thrown = pack_piece room numbers options options.arrangement ctx obstacles piece quota rng in
    cond (quota == 0) ([] ∷ pack_pieces room numbers options ctx obstacles pieces quotas rng)
    (thrown.placed ∷ pack_pieces room numbers options ctx obstacles pieces quotas thrown.rng)

unfoldable pub pack_region : ℕ → Spreading → GlyphOptions → PackCtx → List Rectangle → Zone → List (List Point)
pack_region room numbers options ctx obstacles zone =
    pack_pieces room numbers options ctx obstacles zone.pieces (quotas zone) (seeded options.seed (fnv1a zone.key))

-- placed.len()
unfoldable pub placed_in : List (List Point) → ℕ
placed_in [] = 0
placed_in (spots ∷ rest) = length spots + placed_in rest
