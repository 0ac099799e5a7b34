-- What the flat slices hand in is each zone's own: its key, count and pieces, its quotas, and what the searches found.
-- Rests on what the reader leaves, and on quotas and deepest points standing zone after zone.
use Rattle.std.specs.Prelude.{ℕ, ◌+◌, ◌≡◌, refl, length, drop}
use Rattle.std.proofs.Common.{sym, ap, ◌∙◌, arith}
use mathlib.Core.List.{List, [], ◌∷◌, ◌++◌, append_assoc, map, flat_map}
use Rattle.std.proofs.lemmas.List.{length-map}
use Rattle.glyphs.specs.declared.rect.Point.{Point}
use Rattle.regions.specs.Area.{piece_area}
use Rattle.format.specs.RowLaws.{behind}
use Rattle.deepest.specs.declared.search.Deepest.{Deepest}
use Rattle.discs.specs.declared.options.GlyphOptions.{GlyphOptions}
use Rattle.discs.specs.declared.rows.Offsets.{Offsets}
use Rattle.discs.specs.declared.rows.Row.{Row}
use Rattle.discs.specs.Region.{Zone, areas, quotas}
use Rattle.discs.specs.PlaceGlyphs.{is_left_in}
use Rattle.discs.specs.Pieces.{deepests_of}
use Rattle.discs.specs.Floor.{cut, past_row, Handed, handed_at, handed_from}
use Rattle.plan.specs.Found.{found_in}
use Rattle.plan.specs.Shares.{length_apportion}
use Rattle.plan.specs.Rows.{past_piece, length_found}
use Rattle.plan.specs.Back.{front}
use Rattle.job.specs.Rows.{AreRows}
use Rattle.plan.specs.Left.{Left, own_row, own_pieces, left_next}

-- the deepest points that the searches of a zone find
unfoldable pub found_of : GlyphOptions → Zone → List Deepest
found_of options zone = found_in options (is_left_in zone) zone.pieces (quotas zone)

-- a zone as it is handed in
abbrev pub own_of : GlyphOptions → Zone → Handed
own_of options zone = record { zone = zone; quotas = quotas zone; deepests = deepests_of (found_of options zone) }

pub length_quotas : (zone : Zone) → length (quotas zone) ≡ length zone.pieces
unfolding quotas
length_quotas zone = length_apportion zone.count (areas zone.pieces) ∙ length-map zone.pieces piece_area

pub length_found_of : (options : GlyphOptions) (zone : Zone) → length (found_of options zone) ≡ length zone.pieces
unfolding found_of
length_found_of options zone = length_found options (is_left_in zone) zone.pieces (quotas zone) (omega (arith, length_quotas zone))

-- the slices from `at` on hold the quotas and the deepest points of these zones
pub record Filled (options : GlyphOptions) (shares : List ℕ) (deepest : List Deepest) (zones : List Zone) (at : Offsets) : Type 0 where
  pub rest_shares : List ℕ
  pub rest_deepest : List Deepest
  pub in_shares : drop at.piece shares ≡ flat_map quotas zones ++ rest_shares
  pub in_deepest : drop at.piece deepest ≡ flat_map (found_of options) zones ++ rest_deepest

module _
    (options : GlyphOptions) (s : List ℕ) (row : Row) (rows : List Row) (rings sizes : List ℕ) (points : List Point) (shares : List ℕ) (deepest : List Deepest)
    (zone : Zone) (zones : List Zone) (at : Offsets)
    (l : Left s (row ∷ rows) rings sizes points (zone ∷ zones) at) (f : Filled options shares deepest (zone ∷ zones) at) where
  shares_here : drop at.piece shares ≡ quotas zone ++ (flat_map quotas zones ++ f.rest_shares)
  unfolding flat_map
  shares_here = f.in_shares ∙ append_assoc (quotas zone) (flat_map quotas zones) f.rest_shares

  deepest_here : drop at.piece deepest ≡ found_of options zone ++ (flat_map (found_of options) zones ++ f.rest_deepest)
  unfolding flat_map
  deepest_here = f.in_deepest ∙ append_assoc (found_of options zone) (flat_map (found_of options) zones) f.rest_deepest

  few : length zone.pieces ≡ row.pieces
  few = sym (own_row s row rows rings sizes points zone zones at l).pieces

  pub own_shares : cut at.piece row.pieces shares ≡ quotas zone
  own_shares = rw shares_here (front (quotas zone) (flat_map quotas zones ++ f.rest_shares) row.pieces (length_quotas zone ∙ few))

  pub own_deepest : cut at.piece row.pieces deepest ≡ found_of options zone
  own_deepest =
      rw deepest_here
      (front (found_of options zone) (flat_map (found_of options) zones ++ f.rest_deepest) row.pieces (length_found_of options zone ∙ few))

  pub handed_own : handed_at s rings sizes points shares deepest row at ≡ own_of options zone
  unfolding handed_at
  handed_own =
      let r = own_row s row rows rings sizes points zone zones at l in
      rw (r.key, r.count, own_pieces s row rows rings sizes points zone zones at l, own_shares, own_deepest)

  pub filled_next : Filled options shares deepest zones (past_row rings sizes row at)
  filled_next =
      let p = past_piece rings sizes row at in
      let e : (past_row rings sizes row at).piece ≡ at.piece + length (quotas zone) = p ∙ ap (λ (n : ℕ). at.piece + n) (sym (length_quotas zone ∙ few)) in
      let d : (past_row rings sizes row at).piece ≡ at.piece + length (found_of options zone) =
      p ∙ ap (λ (n : ℕ). at.piece + n) (sym (length_found_of options zone ∙ few)) in
      record {
        rest_shares = f.rest_shares;
        rest_deepest = f.rest_deepest;
        in_shares = rw e (behind shares at.piece (quotas zone) (flat_map quotas zones ++ f.rest_shares) shares_here);
        in_deepest = rw d (behind deepest at.piece (found_of options zone) (flat_map (found_of options) zones ++ f.rest_deepest) deepest_here);
      }

-- all zones are handed in as their own
pub handed_zones :
    (options : GlyphOptions) (s : List ℕ) (rows : List Row) (rings sizes : List ℕ) (points : List Point) (shares : List ℕ) (deepest : List Deepest)
    (zones : List Zone) (at : Offsets)
    → Left s rows rings sizes points zones at → Filled options shares deepest zones at
    → handed_from s rings sizes points shares deepest rows at ≡ map (own_of options) zones
unfolding handed_from AreRows
handed_zones options s [] rings sizes points shares deepest [] at l f = refl
handed_zones options s [] rings sizes points shares deepest (zone ∷ zones) at l f = absurd l.are_rows
handed_zones options s (row ∷ rows) rings sizes points shares deepest [] at l f = absurd l.are_rows
handed_zones options s (row ∷ rows) rings sizes points shares deepest (zone ∷ zones) at l f =
    rw (handed_own options s row rows rings sizes points shares deepest zone zones at l f)
    (ap (λ (t : List Handed). own_of options zone ∷ t)
    (handed_zones options s rows rings sizes points shares deepest zones (past_row rings sizes row at) (left_next s row rows rings sizes points zone zones at l)
    (filled_next options s row rows rings sizes points shares deepest zone zones at l f)))
