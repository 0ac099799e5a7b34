-- The zones that `place_glyphs` leaves in, at the radius that it finds: each keeps what is claimed of its pieces.
-- Rests on the law of a zone, and on the radius being 2 ^ -21 to 1,084 wherever spots are placed.
use Rattle.std.specs.Prelude.{◌≡◌, refl, Bool, true, false, cond, ℕ, ◌≤◌, T, eqb, length, Float, None, Some, Option}
use Rattle.std.proofs.Common.{ap, arith, eqb→eq}
use mathlib.Core.List.{List, [], ◌∷◌, map}
use Rattle.std.specs.Float.Ieee.{binary64, fits, is_nan}
use Rattle.std.specs.Float.Ieee.Fits.{cond-fits, div-fits}
use Rattle.laws.specs.Every.{Every, every_map, every_weaken}
use Rattle.float.specs.Ops.{◌<ᶠ◌, 0ᶠ}
use Rattle.float.specs.Order.{max}
use Rattle.rounding.specs.Signs.{zero_num}
use Rattle.glyphs.specs.declared.rect.Point.{Point}
use Rattle.glyphs.specs.declared.rect.Rectangle.{Rectangle}
use Rattle.glyphs.specs.Rect.{sanitize_obstacles}
use Rattle.relax.specs.declared.Spreading.{Spreading}
use Rattle.discs.specs.declared.radius.Size.{Size}
use Rattle.discs.specs.declared.options.GlyphOptions.{GlyphOptions}
use Rattle.discs.specs.declared.options.Radius.{Radius}
use Rattle.discs.specs.declared.options.Radius.TheVariants.{Auto, Stated}
use Rattle.discs.specs.Region.{Zone, quotas, pack_region}
use Rattle.discs.specs.Radius.{boundary_gap_of, context_at, analytic_r_hi, feasible}
use Rattle.discs.specs.PlaceGlyphs.{Placed, Placements, work_of, pack, unplaced, pack_at, sizing, stated_radius, place_glyphs}
use Rattle.format.specs.Numbers.{share}
use Rattle.job.specs.Known.{OptionsKnown, RadiusKnown}
use Rattle.job.specs.Plan.{room}
use Rattle.claims.specs.Claim.{OwnPieces}
use Rattle.claims.specs.Measured.{measured}
use Rattle.claims.proofs.Pieces.{region_kept}
use Rattle.claims.specs.Chosen.{TopKnown, SizingUsable}
use Rattle.claims.proofs.Chosen.{sizing_usable}
use Rattle.claims.specs.Placings.{LeftIn}

same_zones :
    (f : Zone → List (List Point)) (zones : List Zone)
    → map (λ (placed : Placed). placed.zone) (map (λ (zone : Zone). record { zone = zone; spots = f zone }) zones) ≡ zones
same_zones f [] = refl
same_zones f (zone ∷ zones) = ap (λ (later : List Zone). zone ∷ later) (same_zones f zones)

module _
    (most : ℕ) (big : 1024 ≤ most) (few : most ≤ 1084) (numbers : Spreading) (options : GlyphOptions) (o : OptionsKnown options) (given : List Rectangle)
    (zones : List Zone) (k : Every LeftIn (work_of zones)) where
  abbrev Own : Float → Placed → Type 0
  Own radius placed = OwnPieces options (sanitize_obstacles given) radius placed.zone.pieces (quotas placed.zone) placed.spots

  pub record PlacementsKept (p : Placements) : Type 0 where
    pub same : map (λ (placed : Placed). placed.zone) p.zones ≡ work_of zones
    pub own : Every (Own p.radius) p.zones
    pub fit : T (fits binary64 p.radius)

  none_placed : PlacementsKept (unplaced room numbers options given zones)
  none_placed =
      let place : Zone → Placed = λ zone. record { zone = zone; spots = [] } in
      record {
        same = same_zones (λ (zone : Zone). []) (work_of zones);
        own = every_map (Own 0ᶠ) place (work_of zones) (every_weaken LeftIn (λ (zone : Zone). Own 0ᶠ (place zone)) (work_of zones) (λ zone l. tt) k);
        fit = zero_num.fit;
      }

  packed : (sizing : Option Size) → SizingUsable most sizing → PlacementsKept (pack_at room numbers options given zones sizing)
  unfolding pack_at
  packed None u = none_placed
  packed (Some size) u =
      let r = size.radius in
      let pillars = sanitize_obstacles given in
      let spots : Zone → List (List Point) = λ zone. pack_region room numbers options (context_at options (pack options) r) pillars zone in
      let place : Zone → Placed = λ zone. record { zone = zone; spots = spots zone } in
      record {
        same = same_zones spots (work_of zones);
        own = every_map (Own r) place (work_of zones)
            (every_weaken LeftIn (λ (zone : Zone). Own r (place zone)) (work_of zones)
            (λ zone l. region_kept room numbers options pillars r (measured most few options o pillars r u) zone l.known.pieces) k);
        fit = u.sized.num.fit;
      }

  sized :
      TopKnown most options.radius (analytic_r_hi room (work_of zones) (boundary_gap_of options) options.precision)
      → SizingUsable most (sizing room numbers options given zones)
  unfolding sizing
  sized t = sizing_usable most big (omega (arith, few)) (feasible room numbers options (work_of zones)) (sanitize_obstacles given) options.radius o.radius _ t

  max_fits : (a b : Float) → T (fits binary64 a) → T (fits binary64 b) → T (fits binary64 (max a b))
  unfolding max
  max_fits a b f g = cond-fits binary64 (is_nan a) b _ g (cond-fits binary64 (a <ᶠ b) b a g f)

  stated_fits : (radius : Radius) → RadiusKnown radius → T (fits binary64 (stated_radius room numbers options given zones radius))
  unfolding share
  stated_fits Auto s = max_fits 0ᶠ 0ᶠ zero_num.fit zero_num.fit
  stated_fits (Stated r) s = max_fits r 0ᶠ (rw s.is (div-fits binary64 _ _)) zero_num.fit

  -- ALL ZONES
  pub placements_kept :
      TopKnown most options.radius (analytic_r_hi room (work_of zones) (boundary_gap_of options) options.precision)
      → PlacementsKept (place_glyphs room numbers options given zones)
  unfolding place_glyphs
  placements_kept t = go (eqb (length (work_of zones)) 0) (eqb→eq (length (work_of zones)) 0)
    where
      alone : Placements
      alone = record { radius = stated_radius room numbers options given zones options.radius; free_trials = 0; obstacle_trials = 0; zones = [] }

      nothing : (work : List Zone) → length work ≡ 0 → [] ≡ work
      nothing [] e = refl
      nothing (zone ∷ work) e = absurd (omega (arith, e))

      go :
          (b : Bool) → (T b → length (work_of zones) ≡ 0)
          → PlacementsKept (cond b alone (pack_at room numbers options given zones (sizing room numbers options given zones)))
      go true e = record { same = nothing (work_of zones) (e tt); own = tt; fit = stated_fits options.radius o.radius }
      go false e = packed (sizing room numbers options given zones) (sized t)
