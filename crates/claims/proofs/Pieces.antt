-- What a packer places in a piece, whichever the arrangement, and what a zone's pieces hold, keep what is claimed of them.
-- Rests on the lattice, the scatter and the darts keeping it, and on where the lattice and a lone mark start.
use Rattle.std.specs.Prelude.{◌≡◌, Bool, cond, ℕ, ◌≤◌, T, eqb, length, Float, Option, Some, None}
use Rattle.std.proofs.Math.Path.{refl}
use Rattle.std.proofs.Common.{sym, subst, arith}
use Rattle.std.proofs.Math.Bool.{true, false}
use mathlib.Core.List.{List, [], ◌∷◌}
use Rattle.std.specs.Float.Ieee.Fits.{and_l, and_r}
use Rattle.laws.specs.Every.{Every, every_weaken}
use Rattle.float.specs.Ops.{◌≥ᶠ◌}
use Rattle.glyphs.specs.declared.options.GlyphArrangement.{GlyphArrangement}
use Rattle.glyphs.specs.declared.options.GlyphArrangement.TheVariants.{Uniform, Rectangular, LowDiscrepancy, Random}
use Rattle.glyphs.specs.declared.options.ObstaclePolicy.{ObstaclePolicy}
use Rattle.glyphs.specs.declared.options.ObstaclePolicy.TheVariants.{Strict}
use Rattle.glyphs.specs.declared.rect.Point.{Point}
use Rattle.glyphs.specs.declared.rect.Rectangle.{Rectangle}
use Rattle.glyphs.specs.declared.stream.Stream.{Stream}
use Rattle.glyphs.specs.Rect.{dist_to_rect, clear_of_obstacles}
use Rattle.glyphs.specs.Hash.{fnv1a}
use Rattle.glyphs.specs.Stream.{seeded}
use Rattle.regions.specs.Ring.{Piece}
use Rattle.deepest.specs.declared.search.Deepest.{Deepest}
use Rattle.deepest.specs.declared.search.Deepest.TheVariants.{Found, Nothing, Full}
use Rattle.relax.specs.declared.Spreading.{Spreading}
use Rattle.lattice.specs.declared.context.PackCtx.{PackCtx}
use Rattle.lattice.specs.Context.{inset, spacing}
use Rattle.lattice.specs.Escape.{point, escape_obstacles}
use Rattle.lattice.specs.Uniform.{local_to, anchor_of, pack_lattice, pack_around}
use Rattle.scatter.specs.LowDiscrepancy.{lone_anchor, pack_scatter}
use Rattle.scatter.specs.Random.{pack_random_piece}
use Rattle.discs.specs.declared.options.GlyphOptions.{GlyphOptions}
use Rattle.discs.specs.Region.{Zone, quotas, deepest_of, pack_uniform_piece, pack_low_discrepancy_piece, pack_piece, pack_pieces, pack_region}
use Rattle.discs.specs.PlaceGlyphs.{pack}
use Rattle.format.specs.Known.{All, PieceKnown}
use Rattle.claims.specs.Claim.{Exact, Inset, Away, FarApart, PieceKept, context, OwnPieces}
use Rattle.claims.specs.Kept.{Unblocked, Stands, Kept, pairwise_by, Apart}
use Rattle.claims.specs.Measures.{Measures}
use Rattle.claims.specs.Starts.{SitedAt, escape_sited, anchor_sited}
use Rattle.claims.proofs.Starts.{deepest_sited}
use Rattle.claims.specs.Thrown.{AnchorFits}
use Rattle.claims.proofs.Lattices.{lattice_kept, lattice_count}
use Rattle.claims.specs.Scattered.{scatter_kept, scatter_count}
use Rattle.claims.specs.Darts.{darts_kept, darts_count}

-- ---- the test of all obstacles is that of each
away : (clear : Float) (p : Point) (obstacles : List Rectangle) → Unblocked obstacles clear p → Every (Away clear p) obstacles
unfolding clear_of_obstacles
away clear p [] t = tt
away clear p (rect ∷ rects) t =
    let here = dist_to_rect p.x p.y rect ≥ᶠ clear in
    let later = clear_of_obstacles p.x p.y rects clear in
    (and_l here later t, away clear p rects (and_r here later t))

-- ---- in the claim's words
module _
    (ctx : PackCtx) (policy : ObstaclePolicy) (strict : policy ≡ Strict → T ctx.mode.strict_obstacles) (pillars : List Rectangle) (piece : Piece)
    (quota : ℕ) where
  abbrev near : List Rectangle
  near = local_to piece pillars (inset ctx)

  kept_piece :
      (spots : List Point) → Measures piece ctx → Kept piece (inset ctx) near (Apart (spacing ctx)) ctx.mode.strict_obstacles spots → length spots ≤ quota
      → PieceKept ctx policy pillars piece quota spots
  kept_piece spots m k l =
      record {
        exact =
            every_weaken (Stands piece (inset ctx)) Exact spots (λ p s. record { across = (m.sited p s).across.num; along = (m.sited p s).along.num }) k.insets;
        insets = every_weaken (Stands piece (inset ctx)) (Inset piece (inset ctx)) spots (λ p s. s.deep) k.insets;
        known = m.length;
        spaced = pairwise_by (Stands piece (inset ctx)) (Apart (spacing ctx)) (FarApart (spacing ctx)) (λ p q a b h. h.far) spots k.insets k.apart;
        clear =
            λ e. every_weaken (Unblocked near (inset ctx)) (λ (p : Point). Every (Away (inset ctx) p) near) spots (λ p t. away (inset ctx) p near t)
            (k.unblocked (strict e));
        within = l;
      }

  no_spots : Measures piece ctx → PieceKept ctx policy pillars piece quota []
  no_spots m = record { exact = tt; known = m.length; insets = tt; spaced = tt; clear = λ e. tt; within = omega arith }

  module _ (m : Measures piece ctx) (spread : ctx.mode.spread ≡ true) where
    abbrev Claimed : List Point → Type 0
    Claimed spots = PieceKept ctx policy pillars piece quota spots

    around_kept : (rectangular : Bool) (x y : Float) → SitedAt (Found x y x) → Claimed (pack_around (point x y) piece quota ctx pillars rectangular)
    unfolding pack_around
    around_kept rectangular x y s =
        let anchor = anchor_of (point x y) piece near (inset ctx) in
        let a = anchor_sited piece near (inset ctx) m.number m.sited (point x y) s in
        kept_piece (pack_lattice piece quota ctx rectangular near anchor) m
        (lattice_kept piece quota ctx rectangular near anchor a.across a.along m spread)
        (lattice_count piece quota ctx rectangular near anchor a.across a.along m spread)

    uniform_kept : (rectangular : Bool) (d : Deepest) → SitedAt d → Claimed (pack_uniform_piece d piece quota ctx pillars rectangular)
    unfolding pack_uniform_piece
    uniform_kept rectangular Nothing s = no_spots m
    uniform_kept rectangular Full s = no_spots m
    uniform_kept rectangular (Found x y d) s = around_kept rectangular x y s

    from_kept : (anchor : Option Point) → AnchorFits anchor → Claimed (pack_scatter anchor piece quota ctx pillars)
    from_kept anchor f =
        kept_piece (pack_scatter anchor piece quota ctx pillars) m (scatter_kept anchor f piece quota ctx pillars m)
        (scatter_count anchor f piece quota ctx pillars m)

    lone_fits : (x y : Float) → SitedAt (Found x y x) → AnchorFits (lone_anchor (point x y) piece quota ctx pillars)
    unfolding lone_anchor
    lone_fits x y s = go (eqb quota 1)
      where
        go : (t : Bool) → AnchorFits (cond t (Some (escape_obstacles (point x y) piece near (inset ctx))) None)
        go true =
            let e = escape_sited piece near (inset ctx) m.number m.sited (point x y) s in
            record { across = e.across.num.fit; along = e.along.num.fit }
        go false = tt

    low_kept : (d : Deepest) → SitedAt d → Claimed (pack_low_discrepancy_piece d piece quota ctx pillars)
    unfolding pack_low_discrepancy_piece
    low_kept Nothing s = from_kept None tt
    low_kept Full s = from_kept None tt
    low_kept (Found x y d) s = from_kept (lone_anchor (point x y) piece quota ctx pillars) (lone_fits x y s)

    -- ONE PIECE, whichever the arrangement
    pub piece_kept :
        (room : ℕ) (numbers : Spreading) (options : GlyphOptions) (arrangement : GlyphArrangement) (rng : Stream) → PieceKnown piece
        → Claimed (pack_piece room numbers options arrangement ctx pillars piece quota rng).placed
    unfolding pack_piece
    piece_kept room numbers options Uniform rng k = uniform_kept false (deepest_of room options piece) (deepest_sited room options.precision piece k)
    piece_kept room numbers options Rectangular rng k = uniform_kept true (deepest_of room options piece) (deepest_sited room options.precision piece k)
    piece_kept room numbers options LowDiscrepancy rng k = low_kept (deepest_of room options piece) (deepest_sited room options.precision piece k)
    piece_kept room numbers options Random rng k =
        let n = options.max_attempts in
        kept_piece (pack_random_piece numbers piece quota n ctx pillars rng).placed m (darts_kept numbers piece quota n ctx pillars m rng spread)
        (darts_count numbers piece quota n ctx pillars m rng)

-- ---- all pieces of a zone

-- the policy is the mode's
strict_mode : (options : GlyphOptions) → options.obstacle_policy ≡ Strict → T (pack options).strict_obstacles
strict_mode options e =
    subst
    (λ (p : ObstaclePolicy).
    T (pack (record {
      arrangement = options.arrangement;
      radius = options.radius;
      gap = options.gap;
      boundary_gap = options.boundary_gap;
      seed = options.seed;
      precision = options.precision;
      max_attempts = options.max_attempts;
      obstacle_policy = p;
    })).strict_obstacles)
    (sym e) tt

module _
    (room : ℕ) (numbers : Spreading) (options : GlyphOptions) (pillars : List Rectangle) (radius : Float)
    (measured : (piece : Piece) → PieceKnown piece → Measures piece (context options pillars radius)) where
  abbrev ctx : PackCtx
  ctx = context options pillars radius

  abbrev Own : List Piece → List ℕ → List (List Point) → Type 0
  Own pieces quotas spots = OwnPieces options pillars radius pieces quotas spots

  pieces_kept :
      (pieces : List Piece) → All PieceKnown pieces → (quotas : List ℕ) (rng : Stream)
      → Own pieces quotas (pack_pieces room numbers options ctx pillars pieces quotas rng)
  unfolding pack_pieces
  pieces_kept [] k quotas rng = tt
  pieces_kept (piece ∷ pieces) k [] rng = tt
  pieces_kept (piece ∷ pieces) k (quota ∷ quotas) rng =
      let thrown = pack_piece room numbers options options.arrangement ctx pillars piece quota rng in
      go (eqb quota 0) thrown.placed _ _
      (piece_kept ctx options.obstacle_policy (strict_mode options) pillars piece quota
      (measured piece k.0) refl room numbers options options.arrangement rng k.0)
      (pieces_kept pieces k.1 quotas rng)
      (pieces_kept pieces k.1 quotas thrown.rng)
    where
      go :
          (t : Bool) (spots : List Point) (without after : List (List Point)) → PieceKept ctx options.obstacle_policy pillars piece quota spots
          → Own pieces quotas without → Own pieces quotas after
          → Own (piece ∷ pieces) (quota ∷ quotas) (cond t ([] ∷ without) (spots ∷ after))
      go true spots without after h w a = (no_spots ctx options.obstacle_policy (strict_mode options) pillars piece quota (measured piece k.0), w)
      go false spots without after h w a = (h, a)

  -- A ZONE
  pub region_kept : (zone : Zone) → All PieceKnown zone.pieces → Own zone.pieces (quotas zone) (pack_region room numbers options ctx pillars zone)
  unfolding pack_region
  region_kept zone k = pieces_kept zone.pieces k (quotas zone) (seeded options.seed (fnv1a zone.key))
