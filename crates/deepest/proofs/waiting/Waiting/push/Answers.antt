-- `push` meets its contract. The invariant: the cell is on its way up.
-- Rests on the laws of that way's start, step and end.
use Rattle.std.proofs.Common.{◌≡◌, ◌<◌, true, false, refl, arith}
use Rattle.deepest.specs.Order.{leaves}
use Rattle.deepest.specs.Cells.{cell_at, Tagged}
use Rattle.deepest.specs.Deepest.{cell_of}
use Rattle.deepest.specs.Heap.{parent}
use Rattle.deepest.specs.Sift.{rising_start, rising_step, rising_done}
use Rattle.deepest.proofs.waiting.Waiting.push.Goals.{else-loop-i-test, then-loop-i-test+then-not-before}
use Rattle.deepest.proofs.waiting.Waiting.push.Goals as goal

pub loop-i-init : goal.loop-i-init
loop-i-init c = rising_start _ _ _ _ c.args.self.now.heap c.requires.room

pub loop-i-preserved : goal.loop-i-preserved
loop-i-preserved c =
    let l = c.loop-i in
    let a = c.args in
    let f = c.if-not-before.false in
    let h : leaves a.self.now.halves.now (cell_of a.place.x a.place.y a.d a.halvings a.self.now.entered) (cell_at l.cells (parent l.i)) ≡ true = cc in
    rw (c.put.ensures, c.get-e.ensures) (rising_step _ _ _ _ _ _ l.invariant c.loop-i-test.true h)

pub invariant_of-self : goal.invariant_of-self
invariant_of-self c =
    let l = c.loop-i in
    let a = c.args in
    let cell = cell_of a.place.x a.place.y a.d a.halvings a.self.now.entered in
    let t : Tagged cell = record { few = omega (arith, c.requires.few); early = c.requires.early } in
    let stop : 0 < l.i → leaves a.self.now.halves.now cell (cell_at l.cells (parent l.i)) ≡ false =
    elim c.loop-i-test.branch [
      | else-loop-i-test w ↦ λ z. absurd (omega (arith, w.loop-i-test.false))
      | then-loop-i-test+then-not-before w ↦ λ z. cc (w.if-not-before.true, w.get-e.ensures, w.before-in-loop-i.ensures)
    ] in
    record { heap = rw c.put-2.ensures (rising_done _ _ _ _ _ _ l.invariant t stop).queue }

pub returns : goal.returns
returns c =
    let l = c.loop-i in
    let a = c.args in
    let cell = cell_of a.place.x a.place.y a.d a.halvings a.self.now.entered in
    let t : Tagged cell = record { few = omega (arith, c.requires.few); early = c.requires.early } in
    let stop : 0 < l.i → leaves a.self.now.halves.now cell (cell_at l.cells (parent l.i)) ≡ false =
    elim c.loop-i-test.branch [
      | else-loop-i-test w ↦ λ z. absurd (omega (arith, w.loop-i-test.false))
      | then-loop-i-test+then-not-before w ↦ λ z. cc (w.if-not-before.true, w.get-e.ensures, w.before-in-loop-i.ensures)
    ] in
    record { pushed = rw c.put-2.ensures (rising_done _ _ _ _ _ _ l.invariant t stop); halves = refl; len = refl; entered = refl; same = refl }
