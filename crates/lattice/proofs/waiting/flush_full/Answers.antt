-- `flush_full` meets its contract: nothing changes where more can wait, else the run is merged.
-- Rests on the law of those that wait put among the others.
use Rattle.std.proofs.Common.{refl, arith}
use Rattle.lattice.specs.Flat.{front_number, spots_front}
use Rattle.lattice.specs.Waiting.{onward_same, flushed}
use Rattle.lattice.proofs.waiting.flush_full.Goals as goal

pub returns-then-t-lt32 : goal.returns-then-t-lt32
returns-then-t-lt32 c =
    let a = c.args in
    (c.if-t-lt32.true, c.requires, refl, onward_same a.anchor a.nf a.t a.free.now a.run.now c.requires)

pub merge_run-m-requires : goal.merge_run-m-requires
merge_run-m-requires c =
    let a = c.args in
    (c.requires.kept_le, c.requires.room, c.requires.order, rw (spots_front a.t.waiting a.run.now) c.requires.run_order)

pub returns : goal.returns
returns c =
    let a = c.args in
    let w = a.t.waiting in
    let number = front_number w a.run.now (omega (arith, c.requires.waiting_le)) in
    let merged = rw (number, spots_front w a.run.now) at c.merge_run-m.ensures in
    let f = flushed a.anchor a.nf a.t a.free.now a.run.now c.requires (omega arith) c.merge_run-m.result c.merge_run-m.new.cells merged.0 merged.1 in
    (omega arith, f.0, f.1, f.2)
