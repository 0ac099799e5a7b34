-- discs.rs, `pack_region`, over a zone that lies in flat slices, with its quotas and the deepest points of its pieces handed in. Definitions only.
use Rattle.std.specs.Prelude.{◌≡◌, ℕ, ◌<◌, ◌≤◌, true, false, cond, List, [], ◌∷◌, map, length, take, drop, ◌==◌, Float}
use mathlib.Core.List.{flatten}
use native.Mathlib.Bridge.{le_prop}
use Rattle.laws.specs.Lists.{written}
use Rattle.float.specs.Ops.{◌>ᶠ◌, 0ᶠ}
use Rattle.glyphs.specs.Hash.{fnv1a}
use Rattle.glyphs.specs.Spots.{flat}
use Rattle.glyphs.specs.Stream.{seeded}
use Rattle.glyphs.specs.declared.mode.PackMode.{PackMode}
use Rattle.glyphs.specs.declared.options.GlyphArrangement.{GlyphArrangement}
use Rattle.glyphs.specs.declared.options.GlyphArrangement.TheVariants.{Uniform, Rectangular, LowDiscrepancy, Random}
use Rattle.glyphs.specs.declared.rect.Point.{Point}
use Rattle.glyphs.specs.declared.rect.Rectangle.{Rectangle}
use Rattle.glyphs.specs.declared.stream.Stream.{Stream}
use Rattle.regions.specs.Ring.{Piece, piece_of, sum}
use Rattle.deepest.specs.declared.search.Deepest.{Deepest}
use Rattle.deepest.specs.declared.search.Deepest.TheVariants.{Found, Nothing, Full}
use Rattle.relax.specs.declared.Spreading.{Spreading}
use Rattle.lattice.specs.declared.context.PackCtx.{PackCtx}
use Rattle.scatter.specs.Random.{Thrown, pack_random_piece}
use Rattle.discs.specs.Region.{pack_uniform_piece, pack_low_discrepancy_piece, placed_in}
use Rattle.discs.specs.declared.options.GlyphOptions.{GlyphOptions}

-- ---- what lies in the slices

-- the pieces of so many rings each: the rings' sizes and the points lie end to end
unfoldable pub pieces_of : List ℕ → List ℕ → List Point → List Piece
pieces_of [] sizes points = []
pieces_of (n ∷ rings) sizes points = piece_of (take n sizes) points ∷ pieces_of rings (drop n sizes) (drop (sum (take n sizes)) points)

-- a deepest point as it is read; there is none where the clearance is not above 0
unfoldable pub deepest_from : Deepest → Deepest
deepest_from Nothing = Nothing
deepest_from Full = Full
deepest_from (Found x y clearance) = cond (clearance >ᶠ 0ᶠ) (Found x y clearance) Nothing

abbrev pub deepests_of : List Deepest → List Deepest
deepests_of deepests = map deepest_from deepests

-- ---- the packing

-- one piece, by the arrangement; only Random draws from the stream
unfoldable pub pack_piece_from : Spreading → GlyphOptions → GlyphArrangement → PackCtx → List Rectangle → Deepest → Piece → ℕ → Stream → Thrown
pack_piece_from numbers options Uniform ctx obstacles found piece quota rng =
    record { placed = pack_uniform_piece found piece quota ctx obstacles false; rng = rng }
pack_piece_from numbers options Rectangular ctx obstacles found piece quota rng =
    record { placed = pack_uniform_piece found piece quota ctx obstacles true; rng = rng }
pack_piece_from numbers options LowDiscrepancy ctx obstacles found piece quota rng =
    record { placed = pack_low_discrepancy_piece found piece quota ctx obstacles; rng = rng }
pack_piece_from numbers options Random ctx obstacles found piece quota rng =
    pack_random_piece numbers piece quota options.max_attempts ctx obstacles rng

-- a piece with quota 0 is passed over
unfoldable pub pack_quota : Spreading → GlyphOptions → PackCtx → List Rectangle → Deepest → Piece → ℕ → Stream → Thrown
pack_quota numbers options ctx obstacles found piece quota rng =
    cond (quota == 0) (record { placed = []; rng = rng }) (pack_piece_from numbers options options.arrangement ctx obstacles found piece quota rng)

-- the spots of each piece, in order; the stream goes on from piece to piece
unfoldable pub pack_pieces_from : Spreading → GlyphOptions → PackCtx → List Rectangle → List Piece → List Deepest → List ℕ → Stream → List (List Point)
pack_pieces_from numbers options ctx obstacles [] deepests quotas rng = []
pack_pieces_from numbers options ctx obstacles (piece ∷ pieces) [] quotas rng = []
pack_pieces_from numbers options ctx obstacles (piece ∷ pieces) (found ∷ deepests) [] rng = []
pack_pieces_from numbers options ctx obstacles (piece ∷ pieces) (found ∷ deepests) (quota ∷ quotas) rng =
    let thrown = pack_quota numbers options ctx obstacles found piece quota rng in
    thrown.placed ∷ pack_pieces_from numbers options ctx obstacles pieces deepests quotas thrown.rng

-- a zone's pieces, from the stream of its key
abbrev pub pack_region_from : Spreading → GlyphOptions → PackCtx → List Rectangle → List ℕ → List Piece → List ℕ → List Deepest → List (List Point)
pack_region_from numbers options ctx obstacles key pieces quotas deepests =
    pack_pieces_from numbers options ctx obstacles pieces (deepests_of deepests) quotas (seeded options.seed (fnv1a key))

-- ---- what the code asks and answers

-- a piece of n rings: it has an outer one, and its sizes and points lie within the slices
pub record Lies (n : ℕ) (sizes : List ℕ) (points : List Point) : Type 0 where
  pub some : 0 < n
  pub sized : n ≤ length sizes
  pub within : sum (take n sizes) ≤ length points

-- the pieces, each behind the one before
unfoldable pub Laid : List ℕ → List ℕ → List Point → Type 0
Laid [] sizes points = Unit {0}
Laid (n ∷ rings) sizes points = Lies n sizes points × Laid rings (drop n sizes) (drop (sum (take n sizes)) points)

pub laid_prop : (rings sizes : List ℕ) (points : List Point) → IsProp (Laid rings sizes points)
unfolding Laid
laid_prop [] sizes points a b = λ i. tt
laid_prop (n ∷ rings) sizes points a b = λ i. (
  record { some = le_prop a.0.some b.0.some i; sized = le_prop a.0.sized b.0.sized i; within = le_prop a.0.within b.0.within i },
  laid_prop rings (drop n sizes) (drop (sum (take n sizes)) points) a.1 b.1 i,
)

-- a trial is strict
abbrev pub StrictTrial : PackMode → Type 0
StrictTrial mode = mode.spread ≡ false → mode.strict_obstacles ≡ true

-- a packing of at most n marks: how many they are, and their spots at the front of a slice; a trial may only count
pub record Packs (mode : PackMode) (n : ℕ) (placed : List Point) (count : ℕ) (exit entry : List Float) : Type 0 where
  pub counted : count ≡ length placed
  pub most : count ≤ n
  pub spots : mode.spread ≡ true → exit ≡ written (flat placed) entry

-- the same of all pieces of a zone
pub record PacksAll (mode : PackMode) (placed : List (List Point)) (count : ℕ) (exit entry : List Float) : Type 0 where
  pub counted : count ≡ placed_in placed
  pub spots : mode.spread ≡ true → exit ≡ written (flat (flatten placed)) entry
