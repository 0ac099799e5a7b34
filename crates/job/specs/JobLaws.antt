-- Laws of the job: what the flat slices hold is the zones'.
-- Rests on the laws of runs and pieces.
use Rattle.std.specs.Prelude.{ℕ, ◌+◌, ◌≡◌}
use mathlib.Core.List.{List, map, flatten, flat_map}
use Rattle.std.proofs.Common.{arith}
use Rattle.std.proofs.Math.ListN.{length}
use Rattle.glyphs.specs.Points.{vertices}
use Rattle.format.specs.Rows.{flat}
use Rattle.format.specs.Numbers.{u8, u16}
use Rattle.format.specs.Pieces.{piece, piece_end, piece_points, ring_sizes}
use Rattle.format.specs.RowLaws.{both, each_map, flat_each}
use Rattle.format.specs.NumberLaws.{Passed, item_passed}
use Rattle.format.specs.PieceLaws.{points_flat, sizes_map, length_piece}
use Rattle.discs.specs.Region.{Zone}
use Rattle.job.specs.Zones.{zone, zone_end, zone_points, zone_sizes, zone_rings, count_at, pieces_at}
use Rattle.job.specs.Job.{zones_at, zones_fault, zones, points_of, sizes_of, rings_of}

module _ (s : List ℕ) where
  zone_points_lem : (at : ℕ) → zone_points s at ≡ flat_map flatten (zone s at).pieces
  unfolding zone_points zone
  zone_points_lem at = flat_each (piece_end s) (piece s) flatten (piece_points s) (points_flat s) (pieces_at s at) (count_at s at + 3)

  zone_sizes_lem : (at : ℕ) → zone_sizes s at ≡ flat_map (map vertices) (zone s at).pieces
  unfolding zone_sizes zone
  zone_sizes_lem at = flat_each (piece_end s) (piece s) (map vertices) (ring_sizes s) (sizes_map s) (pieces_at s at) (count_at s at + 3)

  zone_rings_lem : (at : ℕ) → zone_rings s at ≡ map length (zone s at).pieces
  unfolding zone_rings zone
  zone_rings_lem at = each_map (piece_end s) (piece s) length (u8 s) (length_piece s) (pieces_at s at) (count_at s at + 3)

  pub all_points : flat (zone_points s) (zone_end s) (u16 s (zones_at s)) (zones_at s + 2) ≡ points_of (zones s)
  unfolding points_of zones
  all_points = flat_each (zone_end s) (zone s) (λ (z : Zone). flat_map flatten z.pieces) (zone_points s) zone_points_lem (u16 s (zones_at s)) (zones_at s + 2)

  pub all_sizes : flat (zone_sizes s) (zone_end s) (u16 s (zones_at s)) (zones_at s + 2) ≡ sizes_of (zones s)
  unfolding sizes_of zones
  all_sizes =
      flat_each (zone_end s) (zone s) (λ (z : Zone). flat_map (map vertices) z.pieces) (zone_sizes s) zone_sizes_lem (u16 s (zones_at s)) (zones_at s + 2)

  pub all_rings : flat (zone_rings s) (zone_end s) (u16 s (zones_at s)) (zones_at s + 2) ≡ rings_of (zones s)
  unfolding rings_of zones
  all_rings = flat_each (zone_end s) (zone s) (λ (z : Zone). map length z.pieces) (zone_rings s) zone_rings_lem (u16 s (zones_at s)) (zones_at s + 2)

-- ---- a job whose zones have no fault has their count

pub zones_counted : (s : List ℕ) → zones_fault s ≡ 0 → Passed 2 s (zones_at s) 0 64
unfolding zones_fault
zones_counted s e = item_passed 2 s (zones_at s) 0 64 9 (omega arith) (both _ _ e).0
