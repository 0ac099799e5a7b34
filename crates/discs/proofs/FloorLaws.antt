-- Where the quotas and deepest points handed in are the zones' own, the ceiling, the trials and the size are those of the source.
-- Rests on the law of one zone's packing.
use Rattle.std.specs.Prelude.{◌≡◌, ℕ, Bool, List, [], ◌∷◌, map, nat_eq, Float, Option}
use Rattle.std.proofs.Math.Path.{refl, ap, fun_ext}
use Rattle.std.proofs.Common.{◌∙◌}
use mathlib.Core.List.{foldl}
use Rattle.laws.specs.Any.{all}
use Rattle.laws.specs.Every.{Every}
use Rattle.float.specs.Ops.{∞}
use Rattle.glyphs.specs.Rect.{sanitize_obstacles}
use Rattle.glyphs.specs.declared.rect.Rectangle.{Rectangle}
use Rattle.regions.specs.Ring.{Piece}
use Rattle.deepest.specs.Deepest.{deepest_point, deeper_of, poi_with_holes}
use Rattle.deepest.specs.declared.search.Deepest.{Deepest}
use Rattle.deepest.specs.declared.search.Deepest.TheVariants.{Nothing}
use Rattle.relax.specs.declared.Spreading.{Spreading}
use Rattle.lattice.specs.declared.context.PackCtx.{PackCtx}
use Rattle.discs.specs.Region.{Zone, deepest_of, pack_region, placed_in}
use Rattle.discs.proofs.PieceLaws.{region_own}
use Rattle.discs.specs.Radius.{boundary_gap_of, context_at, area_of, lowered, if_positive, analytic_r_hi, probe, feasible}
use Rattle.discs.specs.PlaceGlyphs.{size_for, sizing}
use Rattle.discs.specs.Floor.{Handed, handed_work, deepest_in, lowered_by, handed_r_hi, pack_handed, holds_all, handed_feasible}
use Rattle.discs.specs.declared.options.GlyphOptions.{GlyphOptions}
use Rattle.discs.specs.declared.options.Radius.{Radius}
use Rattle.discs.specs.FloorLaws.{OwnPoints, OwnPacking, work_zones, zones_of}

module _ (room : ℕ) (options : GlyphOptions) where
  -- ---- the ceiling

  deeper_fold :
      (best : Deepest) (pieces : List Piece)
      → foldl deeper_of best (map (deepest_of room options) pieces)
      ≡ foldl (λ (best : Deepest) (piece : Piece). deeper_of best (deepest_point room options.precision piece)) best pieces
  unfolding poi_with_holes deeper_of
  deeper_fold best [] = refl
  deeper_fold best (piece ∷ pieces) = deeper_fold (deeper_of best (deepest_point room options.precision piece)) pieces

  -- the deepest point of pieces is the first of their deepest
  pub deepest_own : (pieces : List Piece) → deepest_in (map (deepest_of room options) pieces) ≡ poi_with_holes room options.precision pieces
  unfolding deepest_in poi_with_holes
  deepest_own pieces = deeper_fold Nothing pieces

  abbrev lowers : Float → Float → Zone → Float
  lowers gap r-hi zone = lowered gap zone.count r-hi (area_of zone.pieces) (poi_with_holes room options.precision zone.pieces)

  lowered_own : (gap r-hi : Float) (h : Handed) → OwnPoints room options h → lowered_by gap r-hi h ≡ lowers gap r-hi h.zone
  unfolding lowered_by
  lowered_own gap r-hi h o = rw (o, deepest_own h.zone.pieces)

  fold_own : (gap r-hi : Float) (hs : List Handed) → Every (OwnPoints room options) hs → foldl (lowered_by gap) r-hi hs ≡ foldl (lowers gap) r-hi (zones_of hs)
  fold_own gap r-hi [] o = refl
  fold_own gap r-hi (h ∷ hs) o =
      fold_own gap (lowered_by gap r-hi h) hs o.1 ∙ ap (λ (x : Float). foldl (lowers gap) x (zones_of hs)) (lowered_own gap r-hi h o.0)

  pub ceiling_own :
      (gap : Float) (hs : List Handed) → Every (OwnPoints room options) hs
      → handed_r_hi hs gap ≡ analytic_r_hi room (zones_of hs) gap options.precision
  unfolding handed_r_hi analytic_r_hi
  ceiling_own gap hs o = ap if_positive (fold_own gap ∞ hs o)

  -- ---- the trials

  module _ (numbers : Spreading) where
    pub pack_own :
        (ctx : PackCtx) (obstacles : List Rectangle) (h : Handed) → OwnPacking room options h
        → pack_handed numbers options ctx obstacles h ≡ pack_region room numbers options ctx obstacles h.zone
    unfolding pack_handed
    pack_own ctx obstacles h o = rw o.shares (region_own room numbers options ctx obstacles h.zone h.deepests o.points)

    trials_own :
        (ctx : PackCtx) (obstacles : List Rectangle) (hs : List Handed) → Every (OwnPacking room options) hs
        → all (holds_all numbers options ctx obstacles) hs
        ≡ all (λ (zone : Zone). nat_eq (placed_in (pack_region room numbers options ctx obstacles zone)) zone.count) (zones_of hs)
    unfolding all holds_all
    trials_own ctx obstacles [] o = refl
    trials_own ctx obstacles (h ∷ hs) o = rw (pack_own ctx obstacles h o.0, trials_own ctx obstacles hs o.1)

    pub feasible_own :
        (hs : List Handed) → Every (OwnPacking room options) hs → (obstacles : List Rectangle) (r : Float)
        → handed_feasible numbers options hs obstacles r ≡ feasible room numbers options (zones_of hs) obstacles r
    unfolding handed_feasible feasible
    feasible_own hs o obstacles r = trials_own (context_at options probe r) obstacles hs o

    -- ---- the size

    pub size_own :
        (hs : List Handed) → Every (OwnPacking room options) hs → (obstacles : List Rectangle) (radius : Radius) (ceiling : Option Float)
        → size_for (handed_feasible numbers options hs) obstacles radius ceiling
        ≡ size_for (feasible room numbers options (zones_of hs)) obstacles radius ceiling
    size_own hs o obstacles radius ceiling =
        let e : handed_feasible numbers options hs ≡ feasible room numbers options (zones_of hs) =
        fun_ext (λ (obstacles : List Rectangle). fun_ext (λ (r : Float). feasible_own hs o obstacles r)) in
        ap (λ (fits : List Rectangle → Float → Bool). size_for fits obstacles radius ceiling) e

    -- the radius and the trial counts of `place_glyphs`
    pub sizing_own :
        (given : List Rectangle) (hs : List Handed) → Every (OwnPacking room options) (handed_work hs) → Every (OwnPoints room options) (handed_work hs)
        → size_for (handed_feasible numbers options (handed_work hs)) (sanitize_obstacles given) options.radius
        (handed_r_hi (handed_work hs) (boundary_gap_of options))
        ≡ sizing room numbers options given (zones_of hs)
    unfolding sizing
    sizing_own given hs p d =
        size_own (handed_work hs) p (sanitize_obstacles given) options.radius (handed_r_hi (handed_work hs) (boundary_gap_of options))
        ∙ rw (ceiling_own (boundary_gap_of options) (handed_work hs) d, work_zones hs)
