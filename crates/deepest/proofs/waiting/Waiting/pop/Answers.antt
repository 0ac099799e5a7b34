-- `pop` meets its contract. The invariant: the last cell is on its way down from the first place.
-- Rests on the laws of that way's start, step and end.
use Rattle.std.proofs.Common.{◌≡◌, ℕ, ◌+◌, ◌-◌, ◌<◌, true, false, refl, sym, subst, arith}
use Rattle.deepest.specs.Order.{leaves}
use Rattle.deepest.specs.Cells.{Tagged, cell_at, put_cell}
use Rattle.deepest.specs.Heap.{parent}
use Rattle.deepest.specs.Queue.{Queue, Popped}
use Rattle.deepest.specs.Sift.{sinking_start, sinking_step, sinking_done, no_child_first, popped_last}
use Rattle.deepest.proofs.waiting.Waiting.pop.Goals.{else-loop-i-test, then-loop-i-test+then-not-before}
use Rattle.deepest.proofs.waiting.Waiting.pop.Goals as goal

pub returns-then-n-lt1 : goal.returns-then-n-lt1
returns-then-n-lt1 c =
    let w = c.args.self.now in
    let e : w.len ≡ 1 = omega (arith, c.if-self-eq0.false, c.if-n-lt1.true) in
    record {
      popped = rw e (popped_last w.halves.now w.cells.now _ c.get-first.ensures);
      halves = refl;
      len = omega (arith, e);
      entered = refl;
      same = refl;
    }

pub loop-i-init : goal.loop-i-init
loop-i-init c =
    let w = c.args.self.now in
    let e : w.len ≡ w.len - 1 + 1 = omega (arith, c.if-self-eq0.false) in
    let more : 0 < w.len - 1 = omega (arith, c.if-n-lt1.false) in
    sinking_start _ _ _ _ _ (subst (λ (k : ℕ). Queue w.halves.now w.cells.now k) e w.heap) more c.get-first.ensures c.get-c.ensures

pub loop-i-preserved : goal.loop-i-preserved
loop-i-preserved c =
    let l = c.loop-i in
    let w = c.args.self.now in
    let h : leaves w.halves.now (cell_at l.cells c.first_child-k.result) c.get-c.result ≡ true =
    cc (c.if-not-before.false, c.before-in-loop-i.ensures, c.get-e.ensures) in
    rw (c.put.ensures, c.get-e.ensures) (sinking_step _ _ _ _ _ _ _ l.invariant _ c.first_child-k.ensures h)

pub invariant_of-self-2 : goal.invariant_of-self-2
invariant_of-self-2 c =
    let l = c.loop-i in
    let w = c.args.self.now in
    let r = c.get-c.result in
    let e : w.len ≡ w.len - 1 + 1 = omega (arith, c.if-self-eq0.false) in
    let t : Tagged r = subst Tagged (sym c.get-c.ensures) (w.heap.sound (w.len - 1) (omega (arith, e))).tagged in
    let stop : (k : ℕ) → 0 < k → k < w.len - 1 → parent k ≡ l.i → leaves w.halves.now (cell_at l.cells k) r ≡ false =
    elim c.loop-i-test.branch [
      | else-loop-i-test o ↦ λ k z b p. absurd (omega (arith, o.loop-i-test.false))
      | then-loop-i-test+then-not-before o ↦
          no_child_first _ _ _ _ _ _ o.first_child-k.ensures (cc (o.if-not-before.true, o.get-e.ensures, o.before-in-loop-i.ensures))
    ] in
    record { heap = rw c.put-2.ensures ((sinking_done _ _ _ _ _ _ _ l.invariant t stop c.get-first.ensures).queue _ refl) }

pub returns : goal.returns
returns c =
    let l = c.loop-i in
    let w = c.args.self.now in
    let r = c.get-c.result in
    let e : w.len ≡ w.len - 1 + 1 = omega (arith, c.if-self-eq0.false) in
    let t : Tagged r = subst Tagged (sym c.get-c.ensures) (w.heap.sound (w.len - 1) (omega (arith, e))).tagged in
    let stop : (k : ℕ) → 0 < k → k < w.len - 1 → parent k ≡ l.i → leaves w.halves.now (cell_at l.cells k) r ≡ false =
    elim c.loop-i-test.branch [
      | else-loop-i-test o ↦ λ k z b p. absurd (omega (arith, o.loop-i-test.false))
      | then-loop-i-test+then-not-before o ↦
          no_child_first _ _ _ _ _ _ o.first_child-k.ensures (cc (o.if-not-before.true, o.get-e.ensures, o.before-in-loop-i.ensures))
    ] in
    let p = sinking_done _ _ _ _ _ _ _ l.invariant t stop c.get-first.ensures in
    record {
      popped = rw c.put-2.ensures (subst (λ (k : ℕ). Popped w.halves.now w.cells.now k c.get-first.result (put_cell l.cells l.i r)) (sym e) p);
      halves = refl;
      len = e;
      entered = refl;
      same = refl;
    }
