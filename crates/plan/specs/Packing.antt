-- A zone that is left in, and whose searches had room, is handed in as its packing needs it: with its own quotas and deepest points.
-- Rests on the searches being made where a packing starts from a deepest point.
use Rattle.std.specs.Prelude.{ℕ, ◌≡◌, Bool, true}
use Rattle.std.proofs.Math.Path.{refl}
use mathlib.Core.List.{List, [], ◌∷◌}
use Rattle.laws.specs.Any.{all}
use Rattle.float.specs.Ops.{◌>ᶠ◌, 0ᶠ}
use Rattle.glyphs.specs.declared.options.GlyphArrangement.{GlyphArrangement}
use Rattle.regions.specs.Ring.{Piece}
use Rattle.discs.specs.declared.options.GlyphOptions.{GlyphOptions}
use Rattle.discs.specs.declared.options.Radius.{Radius}
use Rattle.discs.specs.declared.options.Radius.TheVariants.{Auto, Stated}
use Rattle.discs.specs.Region.{Zone, quotas, deepest_of}
use Rattle.discs.specs.PieceLaws.{Own}
use Rattle.discs.specs.PlaceGlyphs.{is_left_in}
use Rattle.discs.specs.Searches.{starts_deepest, is_searched, searched, searches_in, had_room}
use Rattle.discs.specs.FloorLaws.{OwnPacking}
use Rattle.plan.specs.Found.{found_in}
use Rattle.plan.specs.Own.{found_of, own_of}
use Rattle.plan.specs.Read.{left_in_found}
use Rattle.plan.specs.Sound.{all_sound, points_back}

-- a radius that is packed at: an automatic one, or one above 0
unfoldable pub packs_at : Radius → Bool
packs_at Auto = true
packs_at (Stated r) = r >ᶠ 0ᶠ

is_searched_lem :
    (radius : Radius) (arrangement : GlyphArrangement) (piece : Piece) (quota : ℕ) → packs_at radius ≡ true → starts_deepest arrangement piece quota ≡ true
    → is_searched radius arrangement piece quota ≡ true
unfolding packs_at is_searched
is_searched_lem Auto arrangement piece quota p n = refl
is_searched_lem (Stated r) arrangement piece quota p n = rw (p, n)

module _ (options : GlyphOptions) where
  searched_own :
      (piece : Piece) (quota : ℕ) → packs_at options.radius ≡ true → starts_deepest options.arrangement piece quota ≡ true
      → searched 1600 options piece quota ≡ deepest_of 1600 options piece
  unfolding searched
  searched_own piece quota p n = rw (is_searched_lem options.radius options.arrangement piece quota p n)

  searches_own :
      (pieces : List Piece) (shares : List ℕ) → packs_at options.radius ≡ true → Own 1600 options pieces (searches_in 1600 options pieces shares) shares
  unfolding searches_in
  searches_own [] shares p = tt
  searches_own (piece ∷ pieces) [] p = tt
  searches_own (piece ∷ pieces) (share ∷ shares) p = (searched_own piece share p, searches_own pieces shares p)

  pub packing_own :
      (zone : Zone) → packs_at options.radius ≡ true → is_left_in zone ≡ true → all had_room (found_of options zone) ≡ true
      → OwnPacking 1600 options (own_of options zone)
  unfolding found_of
  packing_own zone p l h =
      let e : found_in options (is_left_in zone) zone.pieces (quotas zone) ≡ searches_in 1600 options zone.pieces (quotas zone) =
      rw l (left_in_found options zone.pieces (quotas zone)) in
      let s = all_sound options zone.pieces (quotas zone) (rw e at h) in
      record {
        shares = refl;
        points = rw (e, points_back (searches_in 1600 options zone.pieces (quotas zone)) s) (searches_own zone.pieces (quotas zone) p);
      }
