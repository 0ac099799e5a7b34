-- What is known of a job without fault: the ranges of its options, its coordinates, its zones and their marks.
-- Rests on the laws of rows and runs, and on coordinates being exact.
use Rattle.std.specs.Prelude.{ℕ, zero, suc, ◌+◌, ◌*◌, ◌≤◌, ◌≡◌, List}
use Rattle.std.proofs.Common.{arith}
use Rattle.format.specs.Rows.{faults, each}
use Rattle.format.specs.Numbers.{u8, u16}
use Rattle.format.specs.Pieces.{piece, piece_end, piece_fault}
use Rattle.format.specs.RowLaws.{both, length_each}
use Rattle.format.specs.NumberLaws.{item_passed, length_part}
use Rattle.format.specs.Known.{All, all_each, coords_known, PieceKnown, piece_known}
use Rattle.job.specs.Head.{obstacles_at, obstacles_fault, obstacles}
use Rattle.job.specs.HeadLaws.{length_obstacles}
use Rattle.job.specs.Zones.{Place, zone, zone_end, zone_next, zone_fault, opening_fault, key_fault, key_at, count_at, marks_at, pieces_at}
use Rattle.job.specs.ZoneLaws.{opening_passed, key_inside}
use Rattle.job.specs.Job.{zones_at, first_zone, zones_fault, zones, items_fault, job_of}
use Rattle.job.specs.Known.{JobKnown, ZoneKnown, marks_of, options_known}

zone_known : (s : List ℕ) (z : Place) → zone_fault s z ≡ 0 → ZoneKnown (zone s z.at)
unfolding zone_fault opening_fault key_fault zone key_at
zone_known s z e =
    let at = z.at in
    let p = both _ _ e in
    let o = p.0 in
    let k = (both _ _ o).0 in
    let i = item_passed 1 s at 1 32 9 (omega arith) (both _ _ k).0 in
    let l = length_part s (at + 1) (u8 s at) (key_inside s at z.last k) in
    record {
      some = omega (arith, i.from);
      short = omega (arith, i.to);
      few = omega (arith, (opening_passed s z o).pieces, length_each (piece_end s) (piece s) (pieces_at s at) (count_at s at + 3));
      pieces = all_each PieceKnown (piece_fault s) (piece_end s) (piece s) (piece_known s) (pieces_at s at) (count_at s at + 3) p.1;
    }

zones_known :
    (s : List ℕ) (n : ℕ) (z : Place) → z.marks ≤ 2000 → faults (zone_fault s) (zone_next s) n z ≡ 0
    → All ZoneKnown (each (zone s) (zone_end s) n z.at) × (z.marks + marks_of (each (zone s) (zone_end s) n z.at) ≤ 2000)
unfolding faults each zone_next marks_of
zones_known s zero z h e = (tt, omega arith)
zones_known s (suc n) z h e =
    let p = both (zone_fault s z) (faults (zone_fault s) (zone_next s) n (zone_next s z)) e in
    let t : z.marks + marks_at s z.at ≤ 2000 = total s z p.0 in
    let r = zones_known s n (zone_next s z) t p.1 in
    ((zone_known s z p.0, r.0), count s n z r.1)
  where
    total : (s : List ℕ) (z : Place) → zone_fault s z ≡ 0 → z.marks + marks_at s z.at ≤ 2000
    total s z e = unfold zone_fault in (opening_passed s z (both _ _ e).0).total

    count : (s : List ℕ) (n : ℕ) (z : Place)
        → z.marks + marks_at s z.at + marks_of (each (zone s) (zone_end s) n (zone_end s z.at)) ≤ 2000
        → z.marks + ((zone s z.at).count + marks_of (each (zone s) (zone_end s) n (zone_end s z.at))) ≤ 2000
    count s n z h = unfold zone in omega (arith, h)

pub job_known : (s : List ℕ) → items_fault s ≡ 0 → JobKnown (job_of s)
unfolding items_fault obstacles_fault zones_fault job_of zones
job_known s e =
    let h = both _ _ e in
    let o = both _ _ (both _ _ h.1).0 in
    let z = both _ _ (both _ _ h.1).1 in
    let n = item_passed 2 s obstacles_at 0 64 8 (omega arith) o.0 in
    let m = item_passed 2 s (zones_at s) 0 64 9 (omega arith) z.0 in
    let k = zones_known s (u16 s (zones_at s)) (first_zone s) (omega arith) (both _ _ z.1).0 in
    record {
      options = options_known s h.0;
      few_obstacles = omega (arith, length_obstacles s, n.to);
      obstacles = unfold obstacles in coords_known s 8 (4 * u16 s obstacles_at) (obstacles_at + 2) (omega arith) o.1;
      few_zones = omega (arith, length_each (zone_end s) (zone s) (u16 s (zones_at s)) (zones_at s + 2), m.to);
      zones = k.0;
      marks = omega (arith, k.1);
    }
