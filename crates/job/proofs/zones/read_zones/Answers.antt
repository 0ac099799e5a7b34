-- `read_zones` reads zones one after the other. Invariant: those left are at the place come to, after what came before, and are still to be put.
-- Rests on what `read_zone` ensures and one turn of a run.
use mathlib.Core.Path.{◌≡◌, refl, sym, ◌∙◌}
use native.Mathlib.Omega.{arith}
use Prim.Native.Nat.{◌<◌, ◌-◌}
use lib.ListN.{length-append}
use Rattle.format.specs.RowLaws.{faults_turn, faults_end, past_turn, past_end, each_turn, each_end, flat_turn, flat_end}
use Rattle.format.specs.RefusalLaws.{stopped}
use Rattle.job.specs.Zones.{zone_fault, zone_next, zone_end, zone_points, zone_sizes, zone_rings, row_at}
use Rattle.job.specs.ZoneLaws.{zone_inside, zone_few}
use Rattle.job.specs.Steps.{place_of}
use Rattle.job.proofs.zones.read_zones.Goals as goal

pub loop-i-init : goal.loop-i-init
loop-i-init g c =
    let n = c.args.n in
    let e : n - 0 ≡ n = omega arith in
    let r = c.requires in
    rw e (
    record {
      same = refl;
      point_room = r.point_room;
      ring_room = r.ring_room;
      piece_room = r.piece_room;
      row_room = r.row_room;
      few = omega arith;
      few_rings = omega arith;
      few_pieces = omega arith;
      faults = refl;
      end = refl;
      points = refl;
      sizes = refl;
      rings = refl;
      rows = refl;
    }
    )

pub returns-in_err-read_zone-clause-fault : goal.returns-in_err-read_zone-clause-fault
returns-in_err-read_zone-clause-fault g c =
    let l = c.loop-i in
    let s = c.args.job.now.bytes.now in
    let f = rw l.invariant.same at c.in_err-read_zone.ensures.fault in
    stopped (zone_next s) (zone_fault s) _ _ c.args.n l._i (place_of l.job.at l.before) (omega arith) f l.invariant.faults c.from_residual.ensures.1

pub loop-i-preserved : goal.loop-i-preserved
loop-i-preserved g c =
    let l = c.loop-i in
    let h = l.invariant in
    let s = c.args.job.now.bytes.now in
    let n = c.args.n in
    let z = l._i in
    let at = l.job.at in
    let m : z < n = omega arith in
    let o = c.in_ok-read_zone.ensures in
    let f = rw h.same at o.fault in
    let r = rw h.same at o.read in
    let p = r.put in
    let few = zone_few s (place_of at l.before) (sym f) in
    record {
      same = o.bytes ∙ h.same;
      point_room = omega (arith, p.few, p.at, zone_inside s (place_of at l.before) (sym f), h.point_room);
      ring_room = rw p.sizes (simp length-append (omega (arith, few.sizes, h.ring_room)));
      piece_room = rw p.rings (simp length-append (omega (arith, few.rings, h.piece_room)));
      row_room = omega (arith, c.push.ensures.len, h.row_room);
      few = omega (arith, p.few, h.few);
      few_rings = rw p.sizes (simp length-append (omega (arith, few.sizes, h.few_rings)));
      few_pieces = rw p.rings (simp length-append (omega (arith, few.rings, h.few_pieces)));
      faults = faults_turn (zone_next s) (zone_fault s) n z (place_of at l.before) m f r.place h.faults;
      end = past_turn (zone_end s) n z at m p.at h.end;
      points = flat_turn (zone_end s) (zone_points s) l.pieces.points.items n z at m p.at p.points h.points;
      sizes = flat_turn (zone_end s) (zone_sizes s) l.pieces.sizes.items n z at m p.at p.sizes h.sizes;
      rings = flat_turn (zone_end s) (zone_rings s) l.pieces.rings.items n z at m p.at p.rings h.rings;
      rows = each_turn (zone_end s) (row_at s) l.rows.items n z at m p.at (rw r.numbers at c.push.ensures.items) h.rows;
    }

pub returns-clause-fault : goal.returns-clause-fault
returns-clause-fault g c =
    let l = c.loop-i in
    let s = c.args.job.now.bytes.now in
    faults_end (zone_next s) (zone_fault s) c.args.n l._i (place_of l.job.at l.before) (omega arith) l.invariant.faults

pub returns-clause-read : goal.returns-clause-read
returns-clause-read g c =
    let l = c.loop-i in
    let h = l.invariant in
    let s = c.args.job.now.bytes.now in
    let n = c.args.n in
    let z = l._i in
    let at = l.job.at in
    let e : z ≡ n = omega arith in
    record {
      put = record {
        at = past_end (zone_end s) n z at (omega arith) h.end;
        few = h.few;
        points = flat_end (zone_end s) (zone_points s) l.pieces.points.items n z at (omega arith) h.points;
        sizes = flat_end (zone_end s) (zone_sizes s) l.pieces.sizes.items n z at (omega arith) h.sizes;
        rings = flat_end (zone_end s) (zone_rings s) l.pieces.rings.items n z at (omega arith) h.rings;
      };
      row = each_end (zone_end s) (row_at s) l.rows.items n z at (omega arith) h.rows;
      few_rings = omega (arith, h.few_rings);
      few_pieces = omega (arith, h.few_pieces);
    }
