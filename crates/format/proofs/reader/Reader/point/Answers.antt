-- `point` reads two coordinates.
-- Rests on what `coord` ensures.
use mathlib.Core.Path.{refl, ◌∙◌}
use Prim.Native.Nat.{◌+◌}
use Rattle.format.specs.Refusals.{number_of}
use Rattle.format.specs.Rows.{faults}
use Rattle.format.specs.Numbers.{coord_in, point_in, point_at}
use Rattle.format.specs.RefusalLaws.{fails, passes}
use Rattle.format.proofs.reader.Reader.point.Goals as goal

pub returns-in_err-coord-clause-fault : goal.returns-in_err-coord-clause-fault
unfolding point_in faults
returns-in_err-coord-clause-fault c = fails _ _ _ _ c.in_err-coord.ensures.fault c.from_residual.ensures.1

pub returns-in_err-coord-2-clause-fault : goal.returns-in_err-coord-2-clause-fault
unfolding point_in faults
returns-in_err-coord-2-clause-fault c =
    let o = c.in_ok-coord.ensures in
    let j = c.args.self.now in
    let second = coord_in j.bytes.now (number_of c.args.refusal) (j.at + 4) in
    passes _ _ o.fault (fails _ _ second 0 (c.in_err-coord-2.ensures.fault ∙ rw (o.bytes, o.next)) c.from_residual-in_err-coord-2.ensures.1)

pub returns-clause-fault : goal.returns-clause-fault
unfolding point_in faults
returns-clause-fault c =
    let o = c.in_ok-coord.ensures in
    passes _ _ o.fault (passes _ _ (c.in_ok-coord-2.ensures.fault ∙ rw (o.bytes, o.next)) refl)

pub returns-clause-value : goal.returns-clause-value
unfolding point_at
returns-clause-value c =
    let o = c.in_ok-coord.ensures in
    rw (o.value, rw (o.bytes, o.next) at c.in_ok-coord-2.ensures.value) refl
