-- The ceiling and the size, from the zones as they are handed in, are those of the source.
-- Rests on each zone left in being handed in as its packing needs it, and on the laws of what is handed in.
use Rattle.std.specs.Prelude.{ℕ, ◌≤◌, ◌≡◌, Bool, cond, length}
use Rattle.std.proofs.Math.Path.{refl}
use Rattle.std.proofs.Common.{ap, ◌∙◌, arith}
use Rattle.std.proofs.Math.Bool.{true, false}
use mathlib.Core.List.{List, [], ◌∷◌, map}
use Rattle.laws.specs.Any.{all}
use Rattle.laws.specs.Every.{Every, every_map, every_weaken}
use Rattle.laws.specs.Truth.{both_true}
use Rattle.glyphs.specs.Rect.{sanitize_obstacles}
use Rattle.glyphs.specs.declared.rect.Rectangle.{Rectangle}
use Rattle.regions.specs.Ring.{Piece}
use Rattle.deepest.specs.declared.search.Deepest.{Deepest}
use Rattle.discs.specs.declared.options.GlyphOptions.{GlyphOptions}
use Rattle.discs.specs.declared.options.Radius.{Radius}
use Rattle.discs.specs.declared.options.Radius.TheVariants.{Auto, Stated}
use Rattle.discs.specs.Region.{Zone, quotas, deepest_of}
use Rattle.discs.specs.Radius.{boundary_gap_of, analytic_r_hi, feasible}
use Rattle.discs.specs.PlaceGlyphs.{is_left_in, work_of, size_for, sizing}
use Rattle.discs.specs.Searches.{is_searched, searched, searches_in, had_room}
use Rattle.discs.specs.Floor.{Handed, handed_work, handed_r_hi, handed_feasible}
use Rattle.discs.specs.FloorLaws.{OwnPoints, OwnPacking, zones_of, stated_any}
use Rattle.discs.proofs.FloorLaws.{ceiling_own, size_own}
use Rattle.relax.specs.Scatter.{source}
use Rattle.job.specs.Plan.{room, ceiling_of}
use Rattle.plan.specs.Own.{length_quotas, found_of, own_of}
use Rattle.plan.specs.Read.{left_in_found}
use Rattle.plan.specs.Packing.{packs_at, packing_own}
use Rattle.plan.specs.Sound.{all_sound, points_back}
use Rattle.plan.specs.Sized.{ceiling_for, sizing_for}

module _ (options : GlyphOptions) where
  abbrev roomy : Zone → Bool
  roomy zone = all had_room (found_of options zone)

  -- each search for the pieces of these zones had room
  abbrev pub Roomy : List Zone → Type 0
  Roomy zones = all roomy zones ≡ true

  -- ---- one zone

  -- it is left in, and each search for its pieces had room
  pub record Found (zone : Zone) : Type 0 where
    pub left_in : is_left_in zone ≡ true
    pub fits : all had_room (found_of options zone) ≡ true

  all_searched :
      options.radius ≡ Auto → (pieces : List Piece) (shares : List ℕ) → length pieces ≤ length shares
      → searches_in room options pieces shares ≡ map (deepest_of room options) pieces
  unfolding searches_in
  all_searched e [] shares h = refl
  all_searched e (piece ∷ pieces) [] h = absurd (omega arith)
  all_searched e (piece ∷ pieces) (quota ∷ shares) h =
      let s : searched room options piece quota ≡ deepest_of room options piece = unfold searched is_searched in rw e in
      rw s (ap (λ (t : List Deepest). deepest_of room options piece ∷ t) (all_searched e pieces shares (omega arith)))

  -- an automatic radius asks for the deepest point of each piece
  points_own : (zone : Zone) → Found zone → options.radius ≡ Auto → OwnPoints room options (own_of options zone)
  unfolding found_of
  points_own zone f e =
      let s = searches_in room options zone.pieces (quotas zone) in
      let g : found_of options zone ≡ s = unfold found_of in rw f.left_in (left_in_found options zone.pieces (quotas zone)) in
      rw g
      (points_back s (all_sound options zone.pieces (quotas zone) (rw g at f.fits))
      ∙ all_searched e zone.pieces (quotas zone) (rw (length_quotas zone) (omega arith)))

  -- ---- the zones left in

  pub all_found : (zones : List Zone) → Roomy zones → Every Found (work_of zones)
  unfolding work_of all
  all_found [] r = tt
  all_found (zone ∷ zones) r = let h = both_true (roomy zone) (all roomy zones) r in go zone zones h.0 (all_found zones h.1) (is_left_in zone) refl
    where
      go :
          (zone : Zone) (zones : List Zone) → roomy zone ≡ true → Every Found (work_of zones) → (b : Bool) → is_left_in zone ≡ b
          → Every Found (cond b (zone ∷ work_of zones) (work_of zones))
      go zone zones f later true e = (record { left_in = e; fits = f }, later)
      go zone zones f later false e = later

  picked :
      (b : Bool) (zone : Zone) (zones : List Zone) (hs : List Handed) → hs ≡ map (own_of options) zones
      → cond b (own_of options zone ∷ hs) hs ≡ map (own_of options) (cond b (zone ∷ zones) zones)
  picked true zone zones hs e = ap (λ (t : List Handed). own_of options zone ∷ t) e
  picked false zone zones hs e = e

  own_work : (zones : List Zone) → handed_work (map (own_of options) zones) ≡ map (own_of options) (work_of zones)
  unfolding handed_work work_of
  own_work [] = refl
  own_work (zone ∷ zones) = picked (is_left_in zone) zone (work_of zones) (handed_work (map (own_of options) zones)) (own_work zones)

  zones_back : (zones : List Zone) → zones_of (map (own_of options) zones) ≡ zones
  zones_back [] = refl
  zones_back (zone ∷ zones) = ap (λ (t : List Zone). zone ∷ t) (zones_back zones)

  module _ (zones : List Zone) (r : Roomy zones) where
    abbrev work : List Handed
    work = handed_work (map (own_of options) zones)

    each_own : (P : Handed → Type 0) → ((zone : Zone) → Found zone → P (own_of options zone)) → Every P work
    each_own P f =
        rw (own_work zones)
        (every_map P (own_of options) (work_of zones) (every_weaken Found (λ (zone : Zone). P (own_of options zone)) (work_of zones) f (all_found zones r)))

    work_back : zones_of work ≡ work_of zones
    work_back = rw (own_work zones) (zones_back (work_of zones))

    ceiling_auto :
        options.radius ≡ Auto → handed_r_hi work (boundary_gap_of options) ≡ analytic_r_hi room (work_of zones) (boundary_gap_of options) options.precision
    ceiling_auto e =
        ceiling_own room options (boundary_gap_of options) work (each_own (OwnPoints room options) (λ (zone : Zone) (f : Found zone). points_own zone f e))
        ∙ ap (λ (t : List Zone). analytic_r_hi room t (boundary_gap_of options) options.precision) work_back

    pub ceiling_is : ceiling_for options work options.radius ≡ ceiling_of options (work_of zones) options.radius
    ceiling_is = go options.radius refl
      where
        go : (radius : Radius) → options.radius ≡ radius → ceiling_for options work radius ≡ ceiling_of options (work_of zones) radius
        go Auto e = unfold ceiling_for ceiling_of in ceiling_auto e
        go (Stated x) e = unfold ceiling_for ceiling_of in refl

    pub sizing_is : (given : List Rectangle) → sizing_for source options (sanitize_obstacles given) work ≡ sizing room source options given zones
    unfolding sizing_for sizing
    sizing_is given = go options.radius refl
      where
        go :
            (radius : Radius) → options.radius ≡ radius
            → size_for (handed_feasible source options work) (sanitize_obstacles given) radius (ceiling_for options work radius)
            ≡ size_for (feasible room source options (work_of zones)) (sanitize_obstacles given) radius
            (analytic_r_hi room (work_of zones) (boundary_gap_of options) options.precision)
        go Auto e =
            unfold ceiling_for in
            let p : packs_at options.radius ≡ true = unfold packs_at in rw e in
            size_own room options source work
            (each_own (OwnPacking room options) (λ (zone : Zone) (f : Found zone). packing_own options zone p f.left_in f.fits)) (sanitize_obstacles given) Auto
            (handed_r_hi work (boundary_gap_of options))
            ∙ rw (ceiling_auto e, work_back)
        go (Stated x) e = stated_any _ _ (sanitize_obstacles given) (sanitize_obstacles given) x _ _
