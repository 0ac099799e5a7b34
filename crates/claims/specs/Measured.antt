-- The pieces of an accepted job have, at a radius of 2 ^ -21 to 1,084, the measures that the packers' claims ask for.
-- Rests on the ranges of its options and coordinates, and on a place with the inset being inside.
use Rattle.std.specs.Prelude.{◌≡◌, refl, List, ℕ, ◌≤◌, Float, Some, None, Option}
use Rattle.std.proofs.Common.{lit≤}
use Rattle.float.specs.Ops.{◌+ᶠ◌, ◌*ᶠ◌, 0ᶠ, 1ᶠ}
use Rattle.float.specs.Order.{max}
use Rattle.rounding.specs.Bounds.{wider}
use Rattle.rounding.proofs.Lengths.{inset_sized, spacing_sized, spacing_length}
use Rattle.glyphs.specs.declared.rect.Rectangle.{Rectangle}
use Rattle.glyphs.specs.declared.bounds.Extents.{Extents}
use Rattle.glyphs.specs.Points.{Ring}
use Rattle.glyphs.specs.Bounds.{ring_bounds}
use Rattle.regions.specs.Ring.{Piece, outer}
use Rattle.regions.specs.Sizes.{sized_number}
use Rattle.lattice.specs.Context.{inset, spacing}
use Rattle.discs.specs.declared.options.GlyphOptions.{GlyphOptions}
use Rattle.discs.specs.Radius.{gap_of, boundary_gap_of}
use Rattle.format.specs.Known.{RingKnown, PieceKnown}
use Rattle.job.specs.Known.{Shares, BoundaryKnown, OptionsKnown}
use Rattle.claims.specs.Claim.{context}
use Rattle.claims.specs.Boxed.{boxed}
use Rattle.claims.specs.Measures.{BoxSized, Measures}
use Rattle.claims.specs.Radii.{Usable}
use Rattle.claims.specs.Insets.{Gap, not_below, gap_of_lem, inset_above}
use Rattle.claims.specs.Within.{outer_known, inset_placed}

-- ---- the box
box_sized : (ring : Ring) → RingKnown ring → BoxSized (ring_bounds ring)
box_sized ring k = go (ring_bounds ring) refl
  where
    go : (b : Option Extents) → ring_bounds ring ≡ b → BoxSized b
    go None e = tt
    go (Some bounds) e = boxed ring k bounds e

-- ---- the boundary gap
boundary_of_lem : (options : GlyphOptions) (b : Option Float) → BoundaryKnown b → Shares 0 16384 options.gap
    → Gap (boundary_gap_of
    (record {
      arrangement = options.arrangement;
      radius = options.radius;
      gap = options.gap;
      boundary_gap = b;
      seed = options.seed;
      precision = options.precision;
      max_attempts = options.max_attempts;
      obstacle_policy = options.obstacle_policy;
    }))
boundary_of_lem options None k s = not_below (max options.gap 0ᶠ) (not_below options.gap (gap_of_lem options.gap s))
boundary_of_lem options (Some x) k s = not_below x (gap_of_lem x k)

pub boundary_gap_lem : (options : GlyphOptions) → OptionsKnown options → Gap (boundary_gap_of options)
boundary_gap_lem options o = boundary_of_lem options options.boundary_gap o.boundary o.gap

-- ---- the measures
module _ (k : ℕ) (few : k ≤ 1084) (options : GlyphOptions) (o : OptionsKnown options) (pillars : List Rectangle) (radius : Float) (R : Usable radius k) where
  G : Gap (gap_of options)
  G = not_below options.gap (gap_of_lem options.gap o.gap)

  B : Gap (boundary_gap_of options)
  B = boundary_gap_lem options o

  pub measured : (piece : Piece) → PieceKnown piece → Measures piece (context options pillars radius)
  unfolding inset spacing
  measured piece known =
      record {
        box = box_sized (outer piece) (outer_known piece known);
        length = spacing_length k few radius (gap_of options) R.sized R.nonneg G.sized G.nonneg R.least;
        short = (spacing_sized k few radius (gap_of options) R.sized R.nonneg G.sized G.nonneg).size;
        number = sized_number (inset_sized k few radius (boundary_gap_of options) R.sized R.nonneg B.sized B.nonneg);
        sited = λ p s.
            let q =
            inset_placed p.x p.y (radius *ᶠ (1ᶠ +ᶠ boundary_gap_of options)) piece known s.fits.across s.fits.along
            (inset_above k few radius (boundary_gap_of options) R B) s.deep in
            record { across = wider (lit≤ tt) q.across; along = wider (lit≤ tt) q.along };
      }
