-- What the reader leaves is the job's zones, and what the pre-pass finds over the rows is found over the zones: row 15 is the definition's.
-- Rests on the rows being the zones', and on one zone's share of each slice.
use Rattle.std.specs.Prelude.{ℕ, ◌+◌, ◌≡◌, Bool, true, false, length, drop}
use Rattle.std.proofs.Math.Path.{refl}
use mathlib.Core.List.{List, [], ◌∷◌, flat_map}
use Rattle.std.proofs.Common.{arith}
use Rattle.laws.specs.Any.{all}
use Rattle.laws.specs.Lists.{written}
use Rattle.glyphs.specs.declared.rect.Point.{Point}
use Rattle.regions.specs.Ring.{Piece}
use Rattle.format.specs.Rows.{◌unless◌}
use Rattle.format.specs.Numbers.{u16}
use Rattle.format.specs.RowLaws.{length_each}
use Rattle.deepest.specs.declared.search.Deepest.{Deepest}
use Rattle.discs.specs.declared.rows.Row.{Row}
use Rattle.discs.specs.declared.options.GlyphOptions.{GlyphOptions}
use Rattle.discs.specs.declared.rows.Offsets.{Offsets}
use Rattle.discs.specs.Region.{Zone, quotas}
use Rattle.discs.specs.PlaceGlyphs.{is_left_in, work_of}
use Rattle.discs.specs.Searches.{searches_in, had_room}
use Rattle.discs.specs.Floor.{past_row, start}
use Rattle.job.specs.Zones.{zone, zone_end}
use Rattle.job.specs.Job.{Job, zones_at, zones, items_fault, job_of, points_of, sizes_of, rings_of, rows_of}
use Rattle.job.specs.Rows.{AreRows, rows_are}
use Rattle.job.proofs.Known.{job_known}
use Rattle.job.specs.Plan.{search_fault}
use Rattle.plan.specs.Found.{found_for, found_in}
use Rattle.plan.specs.Rows.{flat_rows, all_rows, fits_at, found_at}
use Rattle.plan.specs.Left.{Left, own_pieces, own_left_in, left_next}
use Rattle.plan.specs.Own.{found_of, Filled, own_shares, filled_next}

pub zone_count : (s : List ℕ) → length (zones s) ≡ u16 s (zones_at s)
unfolding zones
zone_count s = length_each (zone_end s) (zone s) (u16 s (zones_at s)) (zones_at s + 2)

-- the slices that the reader leaves
pub left_read :
    (s : List ℕ) → items_fault s ≡ 0 → (rings sizes : List ℕ) (points : List Point)
    → Left s (rows_of s) (written (rings_of (zones s)) rings) (written (sizes_of (zones s)) sizes) (written (points_of (zones s)) points) (zones s) start
unfolding written
left_read s ok rings sizes points =
    record {
      are_rows = rows_are s ok;
      rest_rings = drop (length (rings_of (zones s))) rings;
      rest_sizes = drop (length (sizes_of (zones s))) sizes;
      rest_points = drop (length (points_of (zones s))) points;
      in_rings = refl;
      in_sizes = refl;
      in_points = refl;
      piece = omega arith;
      ring = omega arith;
      point = omega arith;
      known = unfold job_of in (job_known s ok).zones;
    }

module _ (options : GlyphOptions) (s rings sizes : List ℕ) (points : List Point) (shares : List ℕ) (deepest : List Deepest) where
  found_own :
      (row : Row) (rows : List Row) (zone : Zone) (zones : List Zone) (at : Offsets) → Left s (row ∷ rows) rings sizes points (zone ∷ zones) at
      → Filled options shares deepest (zone ∷ zones) at
      → found_at rings sizes points options shares row at ≡ found_of options zone
  unfolding found_at found_of
  found_own row rows zone zones at l f =
      rw (
        own_left_in s row rows rings sizes points zone zones at l,
        own_pieces s row rows rings sizes points zone zones at l,
        own_shares options s row rows rings sizes points shares deepest zone zones at l f,
      )

  pub founds_are :
      (rows : List Row) (zones : List Zone) (at : Offsets) → Left s rows rings sizes points zones at → Filled options shares deepest zones at
      → flat_rows rings sizes (found_at rings sizes points options shares) rows at ≡ flat_map (found_of options) zones
  unfolding flat_rows flat_map AreRows
  founds_are [] [] at l f = refl
  founds_are [] (zone ∷ zones) at l f = absurd l.are_rows
  founds_are (row ∷ rows) [] at l f = absurd l.are_rows
  founds_are (row ∷ rows) (zone ∷ zones) at l f =
      rw (
        found_own row rows zone zones at l f,
        founds_are rows zones (past_row rings sizes row at) (left_next s row rows rings sizes points zone zones at l)
            (filled_next options s row rows rings sizes points shares deepest zone zones at l f),
      )

  pub fits_are :
      (rows : List Row) (zones : List Zone) (at : Offsets) → Left s rows rings sizes points zones at → Filled options shares deepest zones at
      → all_rows rings sizes (fits_at rings sizes points options shares) rows at ≡ all (λ (zone : Zone). all had_room (found_of options zone)) zones
  unfolding all_rows all fits_at AreRows
  fits_are [] [] at l f = refl
  fits_are [] (zone ∷ zones) at l f = absurd l.are_rows
  fits_are (row ∷ rows) [] at l f = absurd l.are_rows
  fits_are (row ∷ rows) (zone ∷ zones) at l f =
      rw (
        found_own row rows zone zones at l f,
        fits_are rows zones (past_row rings sizes row at) (left_next s row rows rings sizes points zone zones at l)
            (filled_next options s row rows rings sizes points shares deepest zone zones at l f),
      )

-- ---- row 15

left_out_fits : (options : GlyphOptions) (pieces : List Piece) (shares : List ℕ) → all had_room (found_in options false pieces shares) ≡ true
unfolding all found_in found_for had_room
left_out_fits options [] shares = refl
left_out_fits options (piece ∷ pieces) [] = refl
left_out_fits options (piece ∷ pieces) (share ∷ shares) = left_out_fits options pieces shares

pub left_in_found :
    (options : GlyphOptions) (pieces : List Piece) (shares : List ℕ) → found_in options true pieces shares ≡ searches_in 1600 options pieces shares
unfolding found_in found_for searches_in
left_in_found options [] shares = refl
left_in_found options (piece ∷ pieces) [] = refl
left_in_found options (piece ∷ pieces) (share ∷ shares) = rw (left_in_found options pieces shares)

-- each search that was made had room
abbrev all_fit : GlyphOptions → List Zone → Bool
all_fit options zones = all (λ (zone : Zone). all had_room (found_of options zone)) zones

abbrev work_fits : GlyphOptions → List Zone → Bool
work_fits options work = all (λ (zone : Zone). all had_room (searches_in 1600 options zone.pieces (quotas zone))) work

one_more :
    (options : GlyphOptions) (zone : Zone) (zones : List Zone) (b : Bool) → is_left_in zone ≡ b → all_fit options zones ≡ work_fits options (work_of zones)
    → all_fit options (zone ∷ zones) ≡ work_fits options (work_of (zone ∷ zones))
unfolding all work_of found_of
one_more options zone zones true e later = rw (e, left_in_found options zone.pieces (quotas zone), later)
one_more options zone zones false e later = rw (e, left_out_fits options zone.pieces (quotas zone), later)

fits_work : (options : GlyphOptions) (zones : List Zone) → all_fit options zones ≡ work_fits options (work_of zones)
fits_work options [] = unfold all work_of in refl
fits_work options (zone ∷ zones) = one_more options zone zones (is_left_in zone) refl (fits_work options zones)

-- the searches over the rows are those of row 15
pub search_fault_lem : (job : Job) → search_fault job ≡ 15 unless all_fit job.options job.zones
unfolding search_fault
search_fault_lem job = rw (fits_work job.options job.zones)
