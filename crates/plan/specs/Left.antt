-- What the reader leaves of a job's zones in flat slices, zone by zone: each row is the zone's, and the pieces there are the zone's.
-- Rests on flat pieces being those pieces.
use Prim.Native.Nat.{ℕ, ◌+◌, ◌≤◌}
use Rattle.std.specs.Prelude.{◌≡◌, refl, take, drop}
use Rattle.std.proofs.Common.{sym, ◌∙◌}
use Rattle.std.proofs.Math.Path.{ap}
use mathlib.Core.List.{List, [], ◌∷◌, ◌++◌, append_assoc, map, flat_map}
use native.Mathlib.Omega.{arith}
use Rattle.std.proofs.Math.ListN.{length, length-append, length-drop}
use Rattle.std.proofs.lemmas.List.{length-map}
use Rattle.glyphs.specs.declared.rect.Point.{Point}
use Rattle.regions.specs.Ring.{Piece, sum}
use Rattle.format.specs.Known.{All, PieceKnown}
use Rattle.format.specs.RowLaws.{behind}
use Rattle.discs.specs.declared.rows.Row.{Row}
use Rattle.discs.specs.declared.rows.Offsets.{Offsets}
use Rattle.discs.specs.Region.{Zone, quotas}
use Rattle.discs.specs.PlaceGlyphs.{is_left_in}
use Rattle.discs.specs.Pieces.{Laid}
use Rattle.discs.specs.Floor.{row_is_left_in, cut, past_row, EachRow}
use Rattle.job.specs.Job.{points_of, sizes_of, rings_of}
use Rattle.job.specs.Rows.{IsRow, AreRows}
use Rattle.job.specs.Known.{ZoneKnown}
use Rattle.plan.specs.Back.{sizes_in, points_in, front, sizes_count, points_count, pieces_back, laid_back}
use Rattle.plan.specs.Rows.{Readable, flat_rows, shares_at, pieces_at}

-- the rows, and the slices from `at` on, hold these zones
pub record Left (s : List ℕ) (rows : List Row) (rings sizes : List ℕ) (points : List Point) (zones : List Zone) (at : Offsets) : Type 0 where
  pub are_rows : AreRows s zones rows
  pub rest_rings : List ℕ
  pub rest_sizes : List ℕ
  pub rest_points : List Point
  pub in_rings : drop at.piece rings ≡ rings_of zones ++ rest_rings
  pub in_sizes : drop at.ring sizes ≡ sizes_of zones ++ rest_sizes
  pub in_points : drop at.point points ≡ points_of zones ++ rest_points
  pub piece : at.piece ≤ length rings
  pub ring : at.ring ≤ length sizes
  pub point : at.point ≤ length points
  pub known : All ZoneKnown zones

module _
    (s : List ℕ) (row : Row) (rows : List Row) (rings sizes : List ℕ) (points : List Point) (zone : Zone) (zones : List Zone) (at : Offsets)
    (l : Left s (row ∷ rows) rings sizes points (zone ∷ zones) at) where
  pub own_row : IsRow s zone row
  unfolding AreRows
  own_row = l.are_rows.0

  others : AreRows s zones rows
  unfolding AreRows
  others = l.are_rows.1

  ps : List Piece
  ps = zone.pieces

  known : All PieceKnown zone.pieces
  known = l.known.0.pieces

  rings_here : drop at.piece rings ≡ map length zone.pieces ++ (rings_of zones ++ l.rest_rings)
  unfolding rings_of flat_map
  rings_here = l.in_rings ∙ append_assoc (map length zone.pieces) (rings_of zones) l.rest_rings

  sizes_here : drop at.ring sizes ≡ sizes_in zone.pieces ++ (sizes_of zones ++ l.rest_sizes)
  unfolding sizes_of flat_map
  sizes_here = l.in_sizes ∙ append_assoc (sizes_in zone.pieces) (sizes_of zones) l.rest_sizes

  points_here : drop at.point points ≡ points_in zone.pieces ++ (points_of zones ++ l.rest_points)
  unfolding points_of flat_map
  points_here = l.in_points ∙ append_assoc (points_in zone.pieces) (points_of zones) l.rest_points

  count : length (map length zone.pieces) ≡ row.pieces
  count = length-map zone.pieces length ∙ sym own_row.pieces

  pub own_rings : cut at.piece row.pieces rings ≡ map length zone.pieces
  own_rings = rw rings_here (front (map length zone.pieces) (rings_of zones ++ l.rest_rings) row.pieces count)

  pub own_pieces : pieces_at rings sizes points row at ≡ zone.pieces
  own_pieces = rw (own_rings, sizes_here, points_here) (pieces_back zone.pieces (sizes_of zones ++ l.rest_sizes) (points_of zones ++ l.rest_points))

  own_laid : Laid (cut at.piece row.pieces rings) (drop at.ring sizes) (drop at.point points)
  own_laid = rw (own_rings, sizes_here, points_here) (laid_back zone.pieces (sizes_of zones ++ l.rest_sizes) (points_of zones ++ l.rest_points) known)

  rings_fit : at.piece + row.pieces ≤ length rings
  rings_fit =
      omega (arith, length-drop at.piece rings, ap length rings_here, length-append (map length zone.pieces) (rings_of zones ++ l.rest_rings), count, l.piece)

  pub own_readable : Readable rings sizes points row at
  own_readable =
      record {
        ringed = rings_fit;
        sized = l.ring;
        within = l.point;
        laid = own_laid;
        few = own_row.some;
        marks = own_row.fits.few;
      }

  pub own_left_in : row_is_left_in row ≡ is_left_in zone
  unfolding row_is_left_in is_left_in
  own_left_in = rw (own_row.count, own_row.pieces)

  own_sizes_lem : take (sum (cut at.piece row.pieces rings)) (drop at.ring sizes) ≡ sizes_in zone.pieces
  own_sizes_lem =
      rw (own_rings, sizes_here) (front (sizes_in zone.pieces) (sizes_of zones ++ l.rest_sizes) (sum (map length zone.pieces)) (sizes_count zone.pieces))

  -- the zones behind it
  pub left_next : Left s rows rings sizes points zones (past_row rings sizes row at)
  unfolding past_row
  left_next =
      let es : at.ring + length (take (sum (cut at.piece row.pieces rings)) (drop at.ring sizes)) ≡ at.ring + length (sizes_in zone.pieces) =
      rw own_sizes_lem in
      let ec : at.point + sum (take (sum (cut at.piece row.pieces rings)) (drop at.ring sizes)) ≡ at.point + length (points_in zone.pieces) =
      rw (own_sizes_lem, points_count zone.pieces) in
      record {
        are_rows = others;
        rest_rings = l.rest_rings;
        rest_sizes = l.rest_sizes;
        rest_points = l.rest_points;
        in_rings = rw (← count) (behind rings at.piece (map length zone.pieces) (rings_of zones ++ l.rest_rings) rings_here);
        in_sizes = rw es (behind sizes at.ring (sizes_in zone.pieces) (sizes_of zones ++ l.rest_sizes) sizes_here);
        in_points = rw ec (behind points at.point (points_in zone.pieces) (points_of zones ++ l.rest_points) points_here);
        piece = rings_fit;
        ring =
            let joined = length-append (sizes_in zone.pieces) (sizes_of zones ++ l.rest_sizes) in
            rw es (omega (arith, length-drop at.ring sizes, ap length sizes_here, joined, l.ring));
        point =
            let joined = length-append (points_in zone.pieces) (points_of zones ++ l.rest_points) in
            rw ec (omega (arith, length-drop at.point points, ap length points_here, joined, l.point));
        known = l.known.1;
      }

-- ---- all zones

pub all_readable :
    (s : List ℕ) (rows : List Row) (rings sizes : List ℕ) (points : List Point) (zones : List Zone) (at : Offsets) → Left s rows rings sizes points zones at
    → EachRow rings sizes (Readable rings sizes points) rows at
unfolding EachRow AreRows
all_readable s [] rings sizes points zones at l = tt
all_readable s (row ∷ rows) rings sizes points [] at l = absurd l.are_rows
all_readable s (row ∷ rows) rings sizes points (zone ∷ zones) at l = (
  own_readable s row rows rings sizes points zone zones at l,
  all_readable s rows rings sizes points zones (past_row rings sizes row at) (left_next s row rows rings sizes points zone zones at l),
)

-- a walk over the rows is one over the zones, where each row's view is the zone's
pub flat_zones :
    {A : Type 0} (view : Row → Offsets → List A) (own : Zone → List A) (s rings sizes : List ℕ) (points : List Point)
    → ((row : Row) (rows : List Row) (zone : Zone) (zones : List Zone) (at : Offsets)
    → Left s (row ∷ rows) rings sizes points (zone ∷ zones) at → view row at ≡ own zone)
    → (rows : List Row) (zones : List Zone) (at : Offsets) → Left s rows rings sizes points zones at → flat_rows rings sizes view rows at ≡ flat_map own zones
unfolding flat_rows flat_map AreRows
flat_zones view own s rings sizes points same [] [] at l = refl
flat_zones view own s rings sizes points same [] (zone ∷ zones) at l = absurd l.are_rows
flat_zones view own s rings sizes points same (row ∷ rows) [] at l = absurd l.are_rows
flat_zones view own s rings sizes points same (row ∷ rows) (zone ∷ zones) at l =
    rw (
      same row rows zone zones at l,
      flat_zones view own s rings sizes points same rows zones (past_row rings sizes row at) (left_next s row rows rings sizes points zone zones at l),
    )

-- the quotas of all pieces
pub shares_are :
    (s : List ℕ) (rows : List Row) (rings sizes : List ℕ) (points : List Point) (zones : List Zone) (at : Offsets) → Left s rows rings sizes points zones at
    → flat_rows rings sizes (shares_at rings sizes points) rows at ≡ flat_map quotas zones
shares_are s rows rings sizes points zones at l = flat_zones (shares_at rings sizes points) quotas s rings sizes points same rows zones at l
  where
    same :
        (row : Row) (rows : List Row) (zone : Zone) (zones : List Zone) (at : Offsets) → Left s (row ∷ rows) rings sizes points (zone ∷ zones) at
        → shares_at rings sizes points row at ≡ quotas zone
    same row rows zone zones at l =
        unfold shares_at quotas in rw (own_pieces s row rows rings sizes points zone zones at l, (own_row s row rows rings sizes points zone zones at l).count)
