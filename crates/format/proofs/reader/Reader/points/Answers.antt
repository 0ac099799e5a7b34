-- `points` reads points one after the other. Invariant: those left are at the place come to, and are still to be put.
-- Rests on what `point` ensures and one turn of a run.
use mathlib.Core.Path.{◌≡◌, refl, sym, ◌∙◌}
use native.Mathlib.Omega.{arith}
use Prim.Native.Nat.{◌-◌, ◌<◌}
use lib.ListN.{length}
use borrow.Author.Rules.{rules}
use Rattle.format.specs.Refusals.{number_of}
use Rattle.format.specs.Numbers.{point_in, point_at, next_point}
use Rattle.format.specs.RowLaws.{faults_turn, faults_end, each_turn, each_end}
use Rattle.format.specs.RefusalLaws.{stopped}
use Rattle.format.specs.NumberLaws.{room_turn, point_inside, faults_points}
use Rattle.format.proofs.reader.Reader.points.Goals as goal

pub loop-i-init : goal.loop-i-init
loop-i-init g c =
    let e : c.args.n - 0 ≡ c.args.n = omega arith in
    (refl, omega arith, rw e c.requires, rw e, rw e)

pub returns-in_err-point-clause-fault : goal.returns-in_err-point-clause-fault
returns-in_err-point-clause-fault g c =
    let l = c.loop-i in
    let s = c.args.self.now.bytes.now in
    let f = rw l.invariant.0 at c.in_err-point.ensures.fault in
    let r = c.from_residual.ensures.1 in
    rw faults_points
    (stopped next_point (point_in s (number_of c.args.refusal)) _ _ c.args.n l._i l.self.at (omega arith) f l.invariant.3 r)

pub push-requires : goal.push-requires
push-requires g c =
    let l = c.loop-i in
    let s = c.args.self.now.bytes.now in
    let f = rw l.invariant.0 at c.in_ok-point.ensures.fault in
    let r = room_turn (length l.out.items) (c.args.n - l._i) l.self.at (length s) g.row.N (omega arith) (point_inside s _ l.self.at (sym f)) l.invariant.2 in
    (search rules, r.0)

pub loop-i-preserved : goal.loop-i-preserved
loop-i-preserved g c =
    let l = c.loop-i in
    let a = c.args in
    let s = a.self.now.bytes.now in
    let i = l._i in
    let o = c.in_ok-point.ensures in
    let m : i < a.n = omega arith in
    let f = rw l.invariant.0 at o.fault in
    let v = rw l.invariant.0 at o.value in
    let r = room_turn (length l.out.items) (a.n - i) l.self.at (length s) g.row.N (omega arith) (point_inside s _ l.self.at (sym f)) l.invariant.2 in
    let p = c.push.ensures in (
      o.bytes ∙ l.invariant.0,
      omega (arith, o.next, l.invariant.1),
      omega (arith, p.len, o.next, r.1),
      faults_turn next_point (point_in s (number_of a.refusal)) a.n i l.self.at m f o.next l.invariant.3,
      each_turn next_point (point_at s) l.out.items a.n i l.self.at m o.next (rw v at p.items) l.invariant.4,
    )

pub returns-clause-fault : goal.returns-clause-fault
returns-clause-fault g c =
    let l = c.loop-i in
    let s = c.args.self.now.bytes.now in
    rw faults_points (faults_end next_point (point_in s (number_of c.args.refusal)) c.args.n l._i l.self.at (omega arith) l.invariant.3)

pub returns-clause-values : goal.returns-clause-values
returns-clause-values g c =
    let l = c.loop-i in
    each_end next_point (point_at c.args.self.now.bytes.now) l.out.items c.args.n l._i l.self.at (omega arith) l.invariant.4
