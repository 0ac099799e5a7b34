-- The zones that are put into the sheet are those of the definition, where each is packed as its own.
-- Rests on what the flat slices hand in being each zone's own.
use Rattle.std.specs.Prelude.{ℕ, ◌≡◌, Bool, true, false, cond, None, Some, Option}
use Rattle.std.proofs.Math.Path.{refl}
use mathlib.Core.List.{List, [], ◌∷◌, ◌++◌, map}
use Rattle.laws.specs.Any.{all}
use Rattle.laws.specs.Truth.{both_true}
use Rattle.glyphs.specs.declared.rect.Point.{Point}
use Rattle.glyphs.specs.declared.rect.Rectangle.{Rectangle}
use Rattle.sheet.specs.Sheet.{Placement}
use Rattle.deepest.specs.declared.search.Deepest.{Deepest}
use Rattle.discs.specs.declared.rows.Row.{Row}
use Rattle.discs.specs.declared.radius.Size.{Size}
use Rattle.discs.specs.declared.options.GlyphOptions.{GlyphOptions}
use Rattle.discs.specs.declared.rows.Offsets.{Offsets}
use Rattle.discs.specs.Region.{Zone, pack_region}
use Rattle.discs.specs.Radius.{context_at}
use Rattle.discs.specs.PlaceGlyphs.{Placed, is_left_in, work_of, pack}
use Rattle.discs.specs.Searches.{had_room}
use Rattle.discs.specs.Floor.{past_row}
use Rattle.discs.specs.FloorLaws.{OwnPacking}
use Rattle.discs.proofs.FloorLaws.{pack_own}
use Rattle.relax.specs.Scatter.{source}
use Rattle.job.specs.Plan.{placement_of}
use Rattle.plan.specs.Rows.{flat_rows}
use Rattle.job.specs.Rows.{AreRows}
use Rattle.plan.specs.Left.{Left, own_left_in, left_next}
use Rattle.plan.specs.Placing.{place_for, placement_for, placed_at}
use Rattle.plan.specs.Own.{found_of, own_of, Filled, handed_own, filled_next}

module _ (sizing : Option Size) (options : GlyphOptions) (obstacles : List Rectangle) where
  -- a zone with its spots, as the sizing says
  unfoldable pub placed_of : Zone → Placed
  placed_of zone = record { zone = zone; spots = spots_of sizing zone }
    where
      spots_of : Option Size → Zone → List (List Point)
      spots_of None zone = []
      spots_of (Some size) zone = pack_region 1600 source options (context_at options (pack options) size.radius) obstacles zone

-- a zone's own packing is the definition's
pub place_own :
    (sizing : Option Size) (options : GlyphOptions) (obstacles : List Rectangle) (zone : Zone) → OwnPacking 1600 options (own_of options zone)
    → placement_for source sizing options obstacles (own_of options zone) ≡ placement_of (placed_of sizing options obstacles zone)
unfolding placement_for placement_of placed_of place_for
place_own None options obstacles zone o = refl
place_own (Some size) options obstacles zone o =
    rw (pack_own 1600 options source (context_at options (pack options) size.radius) obstacles (own_of options zone) o)

module _
    (sizing : Option Size) (options : GlyphOptions) (obstacles : List Rectangle) (s rings sizes : List ℕ) (points : List Point) (shares : List ℕ)
    (deepest : List Deepest)
    (own :
    (zone : Zone) → is_left_in zone ≡ true → all had_room (found_of options zone) ≡ true
    → placement_for source sizing options obstacles (own_of options zone) ≡ placement_of (placed_of sizing options obstacles zone)) where
  abbrev put : Zone → Placement
  put zone = placement_of (placed_of sizing options obstacles zone)

  one_placed :
      (zone : Zone) (work : List Zone) (rest : List Placement) (b : Bool) → is_left_in zone ≡ b → all had_room (found_of options zone) ≡ true
      → rest ≡ map put work
      → cond b (placement_for source sizing options obstacles (own_of options zone) ∷ []) [] ++ rest ≡ map put (cond b (zone ∷ work) work)
  one_placed zone work rest true e h r = rw (own zone e h, r)
  one_placed zone work rest false e h r = r

  first_rest :
      (zone : Zone) (zones : List Zone) → all (λ (zone : Zone). all had_room (found_of options zone)) (zone ∷ zones) ≡ true
      → (all had_room (found_of options zone) ≡ true) × (all (λ (zone : Zone). all had_room (found_of options zone)) zones ≡ true)
  unfolding all
  first_rest zone zones h = both_true (all had_room (found_of options zone)) (all (λ (zone : Zone). all had_room (found_of options zone)) zones) h

  pub placed_are :
      (rows : List Row) (zones : List Zone) (at : Offsets) → Left s rows rings sizes points zones at → Filled options shares deepest zones at
      → all (λ (zone : Zone). all had_room (found_of options zone)) zones ≡ true
      → flat_rows rings sizes (placed_at source sizing options obstacles s rings sizes points shares deepest) rows at ≡ map put (work_of zones)
  unfolding flat_rows placed_at work_of AreRows
  placed_are [] [] at l f h = refl
  placed_are [] (zone ∷ zones) at l f h = absurd l.are_rows
  placed_are (row ∷ rows) [] at l f h = absurd l.are_rows
  placed_are (row ∷ rows) (zone ∷ zones) at l f h =
      let p = first_rest zone zones h in
      let next = past_row rings sizes row at in
      rw (own_left_in s row rows rings sizes points zone zones at l, handed_own options s row rows rings sizes points shares deepest zone zones at l f)
      (one_placed zone (work_of zones) _ (is_left_in zone) refl p.0
      (placed_are rows zones next (left_next s row rows rings sizes points zone zones at l)
      (filled_next options s row rows rings sizes points shares deepest zone zones at l f) p.1))
