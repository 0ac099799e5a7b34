-- `read_piece` reads the rings of a piece. Invariant: those left are at the place come to, and are still to be put.
-- Rests on what `read_ring` ensures and one turn of a run.
use mathlib.Core.Path.{sym, ◌∙◌}
use Rattle.std.proofs.lemmas.List.{append-nil}
use native.Mathlib.Omega.{arith}
use Prim.Native.Nat.{◌<◌}
use lib.ListN.{length-append}
use Rattle.format.specs.Numbers.{u16}
use Rattle.format.specs.Pieces.{ring_fault, ring_end, ring, ring_sizes, piece_fault, piece_end, piece_points}
use Rattle.format.specs.RowLaws.{faults_turn, faults_end, past_turn, past_end, each_turn, each_end, flat_turn, flat_end}
use Rattle.format.specs.PieceLaws.{ring_inside}
use Rattle.format.specs.RefusalLaws.{fails, passes, stopped}
use Rattle.format.proofs.pieces.Pieces.read_piece.Goals as goal

pub returns-in_err-rings-clause-fault : goal.returns-in_err-rings-clause-fault
unfolding piece_fault
returns-in_err-rings-clause-fault g c = fails _ _ _ _ c.in_err-rings.ensures.fault c.from_residual.ensures.1

pub returns-in_err-read_ring-clause-fault : goal.returns-in_err-read_ring-clause-fault
unfolding piece_fault
returns-in_err-read_ring-clause-fault g c =
    let l = c.loop-i in
    let o = c.in_ok-rings.ensures in
    let s = c.item.new.self.bytes.now in
    let f = rw l.invariant.0 at c.in_err-read_ring.ensures.fault in
    let r = c.from_residual-in_err-read_ring.ensures.1 in
    let e = stopped (ring_end s) (ring_fault s) _ _ c.in_ok-rings.rings l._i l.job.at (omega arith) f l.invariant.4 r in
    passes _ _ o.fault (e ∙ rw (o.bytes, o.next, o.value.0))

pub loop-i-preserved : goal.loop-i-preserved
loop-i-preserved g c =
    let l = c.loop-i in
    let s = c.item.new.self.bytes.now in
    let n = c.in_ok-rings.rings in
    let i = l._i in
    let at = l.job.at in
    let m : i < n = omega arith in
    let o = c.in_ok-read_ring.ensures in
    let f = rw l.invariant.0 at o.fault in
    let r = rw l.invariant.0 at o.read in (
      o.bytes ∙ l.invariant.0,
      omega (arith, r.few, r.at, ring_inside s at (sym f), l.invariant.1),
      rw r.sizes (simp length-append (omega (arith, l.invariant.2))),
      r.rings ∙ append-nil _ ∙ l.invariant.3,
      faults_turn (ring_end s) (ring_fault s) n i at m f r.at l.invariant.4,
      past_turn (ring_end s) n i at m r.at l.invariant.5,
      flat_turn (ring_end s) (ring s) l.self.points.items n i at m r.at r.points l.invariant.6,
      each_turn (ring_end s) (u16 s) l.self.sizes.items n i at m r.at r.sizes l.invariant.7,
      omega (arith, r.few, l.invariant.8),
    )

pub returns-clause-fault : goal.returns-clause-fault
unfolding piece_fault
returns-clause-fault g c =
    let l = c.loop-i in
    let o = c.in_ok-rings.ensures in
    let s = c.item.new.self.bytes.now in
    passes _ _ o.fault (faults_end (ring_end s) (ring_fault s) c.in_ok-rings.rings l._i l.job.at (omega arith) l.invariant.4 ∙ rw (o.bytes, o.next, o.value.0))

pub returns-clause-read : goal.returns-clause-read
unfolding piece_end piece_points ring_sizes
returns-clause-read g c =
    let l = c.loop-i in
    let o = c.in_ok-rings.ensures in
    let s = c.item.new.self.bytes.now in
    let n = c.in_ok-rings.rings in
    let at = l.job.at in
    record {
      at = past_end (ring_end s) n l._i at (omega arith) l.invariant.5 ∙ rw (o.bytes, o.next, o.value.0);
      few = omega (arith, l.invariant.8, o.next);
      points = flat_end (ring_end s) (ring s) l.self.points.items n l._i at (omega arith) l.invariant.6 ∙ rw (o.bytes, o.next, o.value.0);
      sizes = each_end (ring_end s) (u16 s) l.self.sizes.items n l._i at (omega arith) l.invariant.7 ∙ rw (o.bytes, o.next, o.value.0);
      rings = l.invariant.3 ∙ c.push.ensures.items ∙ rw o.value.0;
    }
