-- `read_ring` reads a ring.
-- Rests on what `item` and `points` ensure.
use mathlib.Core.List.{◌++◌}
use mathlib.Core.Path.{◌≡◌, sym, ◌∙◌}
use native.Mathlib.Omega.{arith}
use Prim.Native.Nat.{◌+◌}
use lib.ListN.{length-append}
use Rattle.std.proofs.lemmas.List.{append-nil}
use Rattle.format.specs.Rows.{each}
use Rattle.format.specs.Numbers.{u16, point_at, next_point}
use Rattle.format.specs.Pieces.{ring_fault, ring_end, ring}
use Rattle.format.specs.RowLaws.{length_each}
use Rattle.format.specs.RefusalLaws.{fails, passes, handed}
use Rattle.format.proofs.pieces.Pieces.read_ring.Goals as goal

pub returns-in_err-vertices-clause-fault : goal.returns-in_err-vertices-clause-fault
unfolding ring_fault
returns-in_err-vertices-clause-fault g c = fails _ _ _ _ c.in_err-vertices.ensures.fault c.from_residual.ensures.1

pub returns-in_err-points-clause-fault : goal.returns-in_err-points-clause-fault
unfolding ring_fault
returns-in_err-points-clause-fault g c =
    let o = c.in_ok-vertices.ensures in
    passes _ _ o.fault (handed _ _ (c.in_err-points.ensures.fault ∙ rw (o.bytes, o.next, o.value.0)) c.from_residual-in_err-points.ensures.1)

pub returns-clause-fault : goal.returns-clause-fault
unfolding ring_fault
returns-clause-fault g c =
    let o = c.in_ok-vertices.ensures in
    passes _ _ o.fault (c.in_ok-points.ensures.fault ∙ rw (o.bytes, o.next, o.value.0))

pub returns-clause-read : goal.returns-clause-read
unfolding ring_end ring
returns-clause-read g c =
    let o = c.in_ok-vertices.ensures in
    let r = c.in_ok-points.ensures in
    let s = c.args.job.now.bytes.now in
    let at = c.args.job.now.at in
    let v : c.points.new.out.items ≡ c.args.self.now.points.items ++ each (point_at s) next_point (u16 s at) (at + 2) =
    r.values ∙ rw (o.bytes, o.next, o.value.0) in
    record {
      at = r.next ∙ omega (arith, o.next, o.value.0);
      few = rw v (simp length-append (omega (arith, r.next, o.next, o.value.0, length_each next_point (point_at s) (u16 s at) (at + 2))));
      points = v;
      sizes = c.push.ensures.items ∙ rw o.value.0;
      rings = sym (append-nil _);
    }
