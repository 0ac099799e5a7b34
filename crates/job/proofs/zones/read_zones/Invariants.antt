-- `read_zones` reads zones one after the other. Invariant: those left are at the place come to, after what came before, and are still to be put.
-- Rests on what `read_zone` ensures and one turn of a run.
use mathlib.Core.Path.{◌≡◌}
use mathlib.Core.List.{◌++◌}
use Prim.Native.Nat.{◌+◌, ◌-◌, ◌*◌, ◌≤◌}
use lib.ListN.{length}
use Rattle.format.specs.Rows.{faults, past, each, flat}
use Rattle.format.specs.Steps.{Room}
use Rattle.job.specs.Zones.{first_place, zone_fault, zone_next, zone_end, zone_points, zone_sizes, zone_rings, row_at}
use Rattle.job.specs.Steps.{place_of}
use Rattle.job.proofs.zones.read_zones.Given as goal

abbrev pub invariant-loop-i : goal.invariant-loop-i
invariant-loop-i g l =
    let s = l.initial.job.bytes.now in
    let from = l.initial.job.at in
    let left = l.n - l._i in
    record {
      same : l.job.bytes ≡ l.initial.job.bytes;
      point_room : Room s l.job.at l.pieces;
      ring_room : length l.pieces.sizes.items + 144 * left ≤ g.row.RINGS;
      piece_room : length l.pieces.rings.items + 16 * left ≤ g.row.PIECES;
      row_room : length l.rows.items + left ≤ g.row.ROWS;
      few : 8 * length l.pieces.points.items + from ≤ 8 * length l.initial.pieces.points.items + l.job.at;
      few_rings : length l.pieces.sizes.items ≤ length l.initial.pieces.sizes.items + 144 * l._i;
      few_pieces : length l.pieces.rings.items ≤ length l.initial.pieces.rings.items + 16 * l._i;
      faults : faults (zone_fault s) (zone_next s) l.n (first_place from) ≡ faults (zone_fault s) (zone_next s) left (place_of l.job.at l.before);
      end : past (zone_end s) l.n from ≡ past (zone_end s) left l.job.at;
      points :
          l.initial.pieces.points.items ++ flat (zone_points s) (zone_end s) l.n from
          ≡ l.pieces.points.items ++ flat (zone_points s) (zone_end s) left l.job.at;
      sizes :
          l.initial.pieces.sizes.items ++ flat (zone_sizes s) (zone_end s) l.n from
          ≡ l.pieces.sizes.items ++ flat (zone_sizes s) (zone_end s) left l.job.at;
      rings :
          l.initial.pieces.rings.items ++ flat (zone_rings s) (zone_end s) l.n from
          ≡ l.pieces.rings.items ++ flat (zone_rings s) (zone_end s) left l.job.at;
      rows :
          l.initial.rows.items ++ each (row_at s) (zone_end s) l.n from
          ≡ l.rows.items ++ each (row_at s) (zone_end s) left l.job.at;
    }
