-- The quotas and the deepest points put beside the zones stand zone after zone, and the searches that had room are those of the zones.
-- Rests on what is put for a row being the zone's own, and on the slices being long enough.
use Rattle.std.specs.Prelude.{ℕ, ◌≤◌, ◌≡◌, refl, length}
use Rattle.std.proofs.Common.{sym, ap, ◌∙◌, arith, length-append}
use mathlib.Core.List.{List, [], ◌∷◌, ◌++◌, append-nil, flat_map}
use Rattle.std.proofs.Math.ListN.{drop}
use Rattle.std.proofs.lemmas.List.{length-map}
use Rattle.std.proofs.lemmas.List.Edits.{sets}
use Rattle.laws.specs.Any.{all}
use Rattle.laws.specs.Lists.{written}
use Rattle.glyphs.specs.declared.rect.Point.{Point}
use Rattle.format.specs.RowLaws.{sets_written}
use Rattle.deepest.specs.declared.search.Deepest.{Deepest}
use Rattle.discs.specs.declared.rows.Row.{Row}
use Rattle.discs.specs.declared.options.GlyphOptions.{GlyphOptions}
use Rattle.discs.specs.Region.{Zone, quotas}
use Rattle.discs.specs.Searches.{had_room}
use Rattle.discs.specs.Floor.{start}
use Rattle.job.specs.Job.{rings_of}
use Rattle.plan.specs.Rows.{flat_rows, all_rows, shares_at, fits_at, found_at}
use Rattle.plan.specs.Left.{Left, shares_are}
use Rattle.plan.specs.Own.{length_quotas, length_found_of, found_of, Filled}
use Rattle.plan.specs.Read.{founds_are, fits_are}

all_quotas : (zones : List Zone) → length (flat_map quotas zones) ≡ length (rings_of zones)
unfolding flat_map rings_of
all_quotas [] = refl
all_quotas (zone ∷ zones) = simp length-append (omega (arith, length_quotas zone, length-map zone.pieces length, all_quotas zones))

all_found : (options : GlyphOptions) (zones : List Zone) → length (flat_map (found_of options) zones) ≡ length (rings_of zones)
unfolding flat_map rings_of
all_found options [] = refl
all_found options (zone ∷ zones) = simp length-append (omega (arith, length_found_of options zone, length-map zone.pieces length, all_found options zones))

module _
    (options : GlyphOptions) (s : List ℕ) (rows : List Row) (rings sizes : List ℕ) (points : List Point) (zones : List Zone)
    (l : Left s rows rings sizes points zones start) (shares₀ shares : List ℕ)
    (h : length rings ≤ length shares₀) (e : shares ≡ sets shares₀ 0 (flat_rows rings sizes (shares_at rings sizes points) rows start)) where
  few : length (rings_of zones) ≤ length rings
  few = omega (arith, ap length l.in_rings, length-append (rings_of zones) l.rest_rings)

  shares_put : shares ≡ written (flat_map quotas zones) shares₀
  shares_put =
      e ∙ rw (shares_are s rows rings sizes points zones start l) (sets_written (flat_map quotas zones) shares₀ (omega (arith, all_quotas zones, few, h)))

  with_shares : (deepest rest : List Deepest) → deepest ≡ flat_map (found_of options) zones ++ rest → Filled options shares deepest zones start
  unfolding written
  with_shares deepest rest d =
      record { rest_shares = drop (length (flat_map quotas zones)) shares₀; rest_deepest = rest; in_shares = shares_put; in_deepest = d }

  alone : Filled options shares (flat_map (found_of options) zones) zones start
  alone = with_shares (flat_map (found_of options) zones) [] (sym (append-nil (flat_map (found_of options) zones)))

  -- row 15
  pub fits_put : all_rows rings sizes (fits_at rings sizes points options shares) rows start ≡ all (λ (zone : Zone). all had_room (found_of options zone)) zones
  fits_put = fits_are options s rings sizes points shares (flat_map (found_of options) zones) rows zones start l alone

  pub filled_put :
      (deepest₀ deepest : List Deepest) → length rings ≤ length deepest₀
      → deepest ≡ sets deepest₀ 0 (flat_rows rings sizes (found_at rings sizes points options shares) rows start)
      → Filled options shares deepest zones start
  unfolding written
  filled_put deepest₀ deepest i d =
      let founds = flat_map (found_of options) zones in
      with_shares deepest (drop (length founds) deepest₀)
      (d ∙ rw (founds_are options s rings sizes points shares founds rows zones start l alone)
      (sets_written founds deepest₀ (omega (arith, all_found options zones, few, i))))
