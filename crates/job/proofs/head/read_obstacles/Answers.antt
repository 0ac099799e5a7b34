-- `read_obstacles` reads the obstacles. Invariant: those left are at the place come to, and are still to be put.
-- Rests on what `item` and `read_rectangle` ensure, one turn of a run, and the obstacles being four coordinates each.
use mathlib.Core.Path.{◌∙◌}
use native.Mathlib.Omega.{arith}
use Prim.Native.Nat.{◌<◌}
use Rattle.format.specs.RowLaws.{faults_turn, faults_end, each_turn, each_end}
use Rattle.format.specs.RefusalLaws.{fails, passes, stopped}
use Rattle.job.specs.Head.{rectangle_fault, rectangle, next_rectangle}
use Rattle.job.proofs.Obstacles.{faults_rectangles, obstacles_are}
use Rattle.job.proofs.head.read_obstacles.Goals as goal

pub returns-in_err-n-clause-fault : goal.returns-in_err-n-clause-fault
returns-in_err-n-clause-fault g c = fails _ _ _ _ c.in_err-n.ensures.fault c.from_residual.ensures.1

pub returns-in_err-read_rectangle-clause-fault : goal.returns-in_err-read_rectangle-clause-fault
returns-in_err-read_rectangle-clause-fault g c =
    let l = c.loop-i in
    let o = c.in_ok-n.ensures in
    let s = c.item.new.self.bytes.now in
    let f = rw l.invariant.same at c.in_err-read_rectangle.ensures.fault in
    let r = c.from_residual-in_err-read_rectangle.ensures.1 in
    let e = stopped next_rectangle (rectangle_fault s) _ _ c.in_ok-n.n l._i l.job.at (omega arith) f l.invariant.faults r in
    passes _ _ o.fault (rw faults_rectangles (e ∙ rw (o.bytes, o.next, o.value.0)))

pub push-requires : goal.push-requires
push-requires g c = omega (arith, c.loop-i.invariant.put, c.requires, c.in_ok-n.ensures.value.2)

pub loop-i-preserved : goal.loop-i-preserved
loop-i-preserved g c =
    let l = c.loop-i in
    let s = c.item.new.self.bytes.now in
    let n = c.in_ok-n.n in
    let i = l._i in
    let m : i < n = omega arith in
    let o = c.in_ok-read_rectangle.ensures in
    let f = rw l.invariant.same at o.fault in
    let v = rw l.invariant.same at o.value in
    let p = c.push.ensures in
    record {
      same = o.bytes ∙ l.invariant.same;
      at = omega (arith, o.next, l.invariant.at);
      put = omega (arith, p.len, l.invariant.put);
      faults = faults_turn next_rectangle (rectangle_fault s) n i l.job.at m f o.next l.invariant.faults;
      items = each_turn next_rectangle (rectangle s) l.out.items n i l.job.at m o.next (rw v at p.items) l.invariant.items;
    }

pub returns-clause-fault : goal.returns-clause-fault
returns-clause-fault g c =
    let l = c.loop-i in
    let o = c.in_ok-n.ensures in
    let f = faults_end next_rectangle (rectangle_fault c.item.new.self.bytes.now) c.in_ok-n.n l._i l.job.at (omega arith) l.invariant.faults in
    passes _ _ o.fault (rw faults_rectangles (f ∙ rw (o.bytes, o.next, o.value.0)))

pub returns-clause-read : goal.returns-clause-read
returns-clause-read g c =
    let l = c.loop-i in
    let o = c.in_ok-n.ensures in
    let e = each_end next_rectangle (rectangle c.item.new.self.bytes.now) l.out.items c.in_ok-n.n l._i l.job.at (omega arith) l.invariant.items in
    rw obstacles_are (e ∙ rw (o.bytes, o.next, o.value.0))

pub returns-clause-next : goal.returns-clause-next
returns-clause-next g c =
    let o = c.in_ok-n.ensures in
    omega (arith, c.loop-i.invariant.at, o.next, o.value.0)
