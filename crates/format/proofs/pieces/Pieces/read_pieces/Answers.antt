-- `read_pieces` reads pieces one after the other. Invariant: those left are at the place come to, and are still to be put.
-- Rests on what `read_piece` ensures and one turn of a run.
use mathlib.Core.Path.{sym, ◌∙◌}
use native.Mathlib.Omega.{arith}
use Prim.Native.Nat.{◌<◌}
use lib.ListN.{length-append}
use Rattle.format.specs.Numbers.{u8}
use Rattle.format.specs.Pieces.{piece_fault, piece_end, piece_points, ring_sizes}
use Rattle.format.specs.RowLaws.{faults_turn, faults_end, past_turn, past_end, each_turn, each_end, flat_turn, flat_end}
use Rattle.format.specs.PieceLaws.{piece_inside, few_rings_lem}
use Rattle.format.specs.RefusalLaws.{stopped}
use Rattle.format.proofs.pieces.Pieces.read_pieces.Goals as goal

pub returns-in_err-read_piece-clause-fault : goal.returns-in_err-read_piece-clause-fault
returns-in_err-read_piece-clause-fault g c =
    let l = c.loop-i in
    let s = c.args.job.now.bytes.now in
    let f = rw l.invariant.0 at c.in_err-read_piece.ensures.fault in
    stopped (piece_end s) (piece_fault s) _ _ c.args.n l._i l.job.at (omega arith) f l.invariant.4 c.from_residual.ensures.1

pub loop-i-preserved : goal.loop-i-preserved
loop-i-preserved g c =
    let l = c.loop-i in
    let s = c.args.job.now.bytes.now in
    let n = c.args.n in
    let i = l._i in
    let at = l.job.at in
    let m : i < n = omega arith in
    let o = c.in_ok-read_piece.ensures in
    let f = rw l.invariant.0 at o.fault in
    let r = rw l.invariant.0 at o.read in
    let few = few_rings_lem s at (sym f) in (
      o.bytes ∙ l.invariant.0,
      omega (arith, r.few, r.at, piece_inside s at (sym f), l.invariant.1),
      rw r.sizes (simp length-append (omega (arith, few, l.invariant.2))),
      rw r.rings (simp length-append (omega (arith, l.invariant.3))),
      faults_turn (piece_end s) (piece_fault s) n i at m f r.at l.invariant.4,
      past_turn (piece_end s) n i at m r.at l.invariant.5,
      flat_turn (piece_end s) (piece_points s) l.self.points.items n i at m r.at r.points l.invariant.6,
      flat_turn (piece_end s) (ring_sizes s) l.self.sizes.items n i at m r.at r.sizes l.invariant.7,
      each_turn (piece_end s) (u8 s) l.self.rings.items n i at m r.at r.rings l.invariant.8,
      omega (arith, r.few, l.invariant.9),
    )

pub returns-clause-fault : goal.returns-clause-fault
returns-clause-fault g c =
    let l = c.loop-i in
    let s = c.args.job.now.bytes.now in
    faults_end (piece_end s) (piece_fault s) c.args.n l._i l.job.at (omega arith) l.invariant.4

pub returns-clause-read : goal.returns-clause-read
returns-clause-read g c =
    let l = c.loop-i in
    let s = c.args.job.now.bytes.now in
    let n = c.args.n in
    let at = l.job.at in
    record {
      at = past_end (piece_end s) n l._i at (omega arith) l.invariant.5;
      few = omega (arith, l.invariant.9);
      points = flat_end (piece_end s) (piece_points s) l.self.points.items n l._i at (omega arith) l.invariant.6;
      sizes = flat_end (piece_end s) (ring_sizes s) l.self.sizes.items n l._i at (omega arith) l.invariant.7;
      rings = each_end (piece_end s) (u8 s) l.self.rings.items n l._i at (omega arith) l.invariant.8;
    }
