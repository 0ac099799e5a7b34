-- A zone packed from deepest points that are handed in is the definition's zone, where those that a packer starts from are its pieces' own.
-- Rests on the definitions alone.
use Rattle.std.specs.Prelude.{
  ◌≡◌,
  ℕ,
  zero,
  suc,
  ◌<◌,
  ◌≤◌,
  Bool,
  true,
  false,
  cond,
  ◌&&◌,
  List,
  [],
  ◌∷◌,
  length,
  ◌==◌,
  nat_eq,
  nat_lt,
  slice_index,
  slice_index_or,
  Option,
  None,
  Some,
}
use Rattle.std.proofs.Math.Path.{refl, sym, ap}
use Rattle.std.proofs.Common.{◌∙◌, arith, lt-ltb}
use Rattle.std.proofs.lemmas.Bool.{eqb-false}
use Rattle.glyphs.specs.Bounds.{ring_bounds}
use Rattle.glyphs.specs.Hash.{fnv1a}
use Rattle.glyphs.specs.Stream.{seeded}
use Rattle.glyphs.specs.declared.bounds.Extents.{Extents}
use Rattle.glyphs.specs.declared.options.GlyphArrangement.{GlyphArrangement}
use Rattle.glyphs.specs.declared.options.GlyphArrangement.TheVariants.{Uniform, Rectangular, LowDiscrepancy, Random}
use Rattle.glyphs.specs.declared.rect.Point.{Point}
use Rattle.glyphs.specs.declared.rect.Rectangle.{Rectangle}
use Rattle.glyphs.specs.declared.stream.Stream.{Stream}
use Rattle.regions.specs.Ring.{Piece, outer}
use Rattle.deepest.specs.declared.search.Deepest.{Deepest}
use Rattle.deepest.specs.declared.search.Deepest.TheVariants.{Found, Nothing, Full}
use Rattle.relax.specs.declared.Spreading.{Spreading}
use Rattle.lattice.specs.Escape.{point}
use Rattle.lattice.specs.declared.context.PackCtx.{PackCtx}
use Rattle.scatter.specs.LowDiscrepancy.{lone_anchor, pack_within, pack_scatter}
use Rattle.scatter.specs.Random.{Thrown}
use Rattle.discs.specs.Region.{Zone, quotas, deepest_of, pack_low_discrepancy_piece, pack_piece, pack_pieces, pack_region}
use Rattle.discs.specs.Searches.{has_bounds, starts_deepest}
use Rattle.discs.specs.Pieces.{pack_piece_from, pack_quota, pack_pieces_from}
use Rattle.discs.specs.declared.options.GlyphOptions.{GlyphOptions}
use Rattle.discs.specs.PieceLaws.{Own}

-- ---- a sequence of low discrepancy

module _ (piece : Piece) (quota : ℕ) (ctx : PackCtx) (obstacles : List Rectangle) where
  -- without bounds an anchor makes no difference
  unbounded : ring_bounds (outer piece) ≡ None → (a b : Option Point) → pack_scatter a piece quota ctx obstacles ≡ pack_scatter b piece quota ctx obstacles
  unfolding pack_scatter pack_within
  unbounded e a b = rw e

  first : (found : Deepest) → Option Point
  first Nothing = None
  first Full = None
  first (Found x y clearance) = lone_anchor (point x y) piece quota ctx obstacles

  scattered : (found : Deepest) → pack_low_discrepancy_piece found piece quota ctx obstacles ≡ pack_scatter (first found) piece quota ctx obstacles
  unfolding pack_low_discrepancy_piece first
  scattered Nothing = refl
  scattered Full = refl
  scattered (Found x y clearance) = refl

  -- nor is there one for several marks
  several : nat_eq quota 1 ≡ false → (found : Deepest) → first found ≡ None
  unfolding lone_anchor first
  several e Nothing = refl
  several e Full = refl
  several e (Found x y clearance) = rw e

  low_same :
      (found other : Deepest) (lone : Bool) (box : Option Extents) → (quota == 1) ≡ lone → ring_bounds (outer piece) ≡ box
      → ((lone && has_bounds box) ≡ true → found ≡ other)
      → pack_low_discrepancy_piece found piece quota ctx obstacles ≡ pack_low_discrepancy_piece other piece quota ctx obstacles
  unfolding has_bounds
  low_same found other true (Some bounds) e b h = rw (h refl)
  low_same found other true None e b h = scattered found ∙ unbounded b (first found) (first other) ∙ sym (scattered other)
  low_same found other false box e b h =
      scattered found ∙ ap (λ (a : Option Point). pack_scatter a piece quota ctx obstacles) (several e found ∙ sym (several e other)) ∙ sym (scattered other)

-- ---- the pieces

some_mark : (n : ℕ) → (n == 0) ≡ false → nat_lt 0 n ≡ true
some_mark zero e = absurd (eqb-false 0 0 e refl)
some_mark (suc n) e = lt-ltb 0 (suc n) (omega arith)

module _ (room : ℕ) (numbers : Spreading) (options : GlyphOptions) (ctx : PackCtx) (obstacles : List Rectangle) where
  piece_own :
      (arrangement : GlyphArrangement) (found : Deepest) (piece : Piece) (quota : ℕ) (rng : Stream) → (quota == 0) ≡ false
      → (starts_deepest arrangement piece quota ≡ true → found ≡ deepest_of room options piece)
      → pack_piece_from numbers options arrangement ctx obstacles found piece quota rng
      ≡ pack_piece room numbers options arrangement ctx obstacles piece quota rng
  unfolding starts_deepest pack_piece_from pack_piece
  piece_own Uniform found piece quota rng e h = rw (h (some_mark quota e))
  piece_own Rectangular found piece quota rng e h = rw (h (some_mark quota e))
  piece_own LowDiscrepancy found piece quota rng e h =
      rw (low_same piece quota ctx obstacles found (deepest_of room options piece) (quota == 1) (ring_bounds (outer piece)) refl refl h)
  piece_own Random found piece quota rng e h = refl

  -- the first piece, where the later ones are known
  pieces_more :
      (piece : Piece) (pieces : List Piece) (found : Deepest) (deepests : List Deepest) (quota : ℕ) (quotas : List ℕ) (rng : Stream)
      → (starts_deepest options.arrangement piece quota ≡ true → found ≡ deepest_of room options piece)
      → ((next : Stream) → pack_pieces_from numbers options ctx obstacles pieces deepests quotas next
      ≡ pack_pieces room numbers options ctx obstacles pieces quotas next)
      → pack_pieces_from numbers options ctx obstacles (piece ∷ pieces) (found ∷ deepests) (quota ∷ quotas) rng
      ≡ pack_pieces room numbers options ctx obstacles (piece ∷ pieces) (quota ∷ quotas) rng
  unfolding pack_pieces_from pack_quota pack_pieces
  pieces_more piece pieces found deepests quota quotas rng h later = go (quota == 0) refl
    where
      with : Thrown → List (List Point)
      with t = t.placed ∷ pack_pieces_from numbers options ctx obstacles pieces deepests quotas t.rng

      own : Thrown
      own = pack_piece room numbers options options.arrangement ctx obstacles piece quota rng

      go : (b : Bool) → (quota == 0) ≡ b
          → with (cond b (record { placed = []; rng = rng }) (pack_piece_from numbers options options.arrangement ctx obstacles found piece quota rng))
          ≡ cond b ([] ∷ pack_pieces room numbers options ctx obstacles pieces quotas rng)
          (own.placed ∷ pack_pieces room numbers options ctx obstacles pieces quotas own.rng)
      go true e = ap (λ (t : List (List Point)). [] ∷ t) (later rng)
      go false e =
          ap with (piece_own options.arrangement found piece quota rng e h)
          ∙ ap (λ (t : List (List Point)). own.placed ∷ t) (later own.rng)

  pub pieces_own :
      (pieces : List Piece) (deepests : List Deepest) (quotas : List ℕ) (rng : Stream) → Own room options pieces deepests quotas
      → pack_pieces_from numbers options ctx obstacles pieces deepests quotas rng ≡ pack_pieces room numbers options ctx obstacles pieces quotas rng
  pieces_own [] deepests quotas rng h = unfold pack_pieces_from pack_pieces in refl
  pieces_own (piece ∷ pieces) [] [] rng h = unfold pack_pieces_from pack_pieces in refl
  pieces_own (piece ∷ pieces) (found ∷ deepests) [] rng h = unfold pack_pieces_from pack_pieces in refl
  pieces_own (piece ∷ pieces) [] (quota ∷ quotas) rng h = absurd h
  pieces_own (piece ∷ pieces) (found ∷ deepests) (quota ∷ quotas) rng h =
      pieces_more piece pieces found deepests quota quotas rng h.0 (λ (next : Stream). pieces_own pieces deepests quotas next h.1)

  -- a zone with its own quotas
  pub region_own :
      (zone : Zone) (deepests : List Deepest) → Own room options zone.pieces deepests (quotas zone)
      → pack_pieces_from numbers options ctx obstacles zone.pieces deepests (quotas zone) (seeded options.seed (fnv1a zone.key))
      ≡ pack_region room numbers options ctx obstacles zone
  unfolding pack_region
  region_own zone deepests h = pieces_own zone.pieces deepests (quotas zone) (seeded options.seed (fnv1a zone.key)) h

  -- what is packed of a piece is its own packing, from the stream as it is then
  pub piece_at :
      (pieces : List Piece) (deepests : List Deepest) (quotas : List ℕ) (rng : Stream) (i : ℕ)
      → i < length (pack_pieces_from numbers options ctx obstacles pieces deepests quotas rng)
      → (now : Stream)
      × (slice_index_or (pack_pieces_from numbers options ctx obstacles pieces deepests quotas rng) i []
      ≡ (pack_quota numbers options ctx obstacles (slice_index_or deepests i Nothing) (slice_index_or pieces i []) (slice_index quotas i) now).placed)
  unfolding pack_pieces_from
  piece_at [] deepests quotas rng i h = absurd (omega arith)
  piece_at (piece ∷ pieces) [] quotas rng i h = absurd (omega arith)
  piece_at (piece ∷ pieces) (found ∷ deepests) [] rng i h = absurd (omega arith)
  piece_at (piece ∷ pieces) (found ∷ deepests) (quota ∷ quotas) rng zero h = (rng, refl)
  piece_at (piece ∷ pieces) (found ∷ deepests) (quota ∷ quotas) rng (suc i) h =
      piece_at pieces deepests quotas (pack_quota numbers options ctx obstacles found piece quota rng).rng i (omega arith)

  pub length_packed :
      (pieces : List Piece) (deepests : List Deepest) (quotas : List ℕ) (rng : Stream) → length pieces ≤ length deepests → length pieces ≤ length quotas
      → length (pack_pieces_from numbers options ctx obstacles pieces deepests quotas rng) ≡ length pieces
  unfolding pack_pieces_from
  length_packed [] deepests quotas rng d q = refl
  length_packed (piece ∷ pieces) [] quotas rng d q = absurd (omega arith)
  length_packed (piece ∷ pieces) (found ∷ deepests) [] rng d q = absurd (omega arith)
  length_packed (piece ∷ pieces) (found ∷ deepests) (quota ∷ quotas) rng d q =
      ap suc (length_packed pieces deepests quotas (pack_quota numbers options ctx obstacles found piece quota rng).rng (omega arith) (omega arith))
