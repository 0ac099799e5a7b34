-- `read_rectangle` reads an obstacle.
-- Rests on what `point` and `coord` ensure.
use Rattle.std.proofs.Common.{◌≡◌, ℕ, ◌+◌, arith, refl, sym, ap, ◌∙◌, List}
use Rattle.format.specs.Rows.{◌or_else◌, faults, past}
use Rattle.format.specs.Numbers.{coord_in, next_coord, point_in}
use Rattle.format.specs.RowLaws.{faults_more}
use Rattle.format.specs.RefusalLaws.{passes}
use Rattle.job.specs.Head.{rectangle_fault, rectangle}
use Rattle.job.proofs.Reading.{Left, went, stops}
use Rattle.job.proofs.head.read_rectangle.Goals as goal
use Rattle.job.proofs.head.read_rectangle.Goals.{Start, In_ok-point, In_ok-coord}

-- the faults of the coordinates that are left
abbrev one_left : List ℕ → ℕ → ℕ
one_left s at = coord_in s 8 at or_else 0

abbrev two_left : List ℕ → ℕ → ℕ
two_left s at = coord_in s 8 at or_else one_left s (at + 4)

rows : (s : List ℕ) (at : ℕ) → point_in s 8 at or_else two_left s (at + 8) ≡ rectangle_fault s at
unfolding rectangle_fault point_in faults past
rows s at =
    let e : at + 4 + 4 ≡ at + 8 = omega arith in
    sym (faults_more (coord_in s 8) next_coord 2 2 at ∙ ap (λ (z : ℕ). point_in s 8 at or_else two_left s z) e)

none : (c : Start) → let j = c.args.job.now in
    Left j.bytes.now (rectangle_fault j.bytes.now j.at) (point_in j.bytes.now 8 j.at or_else two_left j.bytes.now (j.at + 8)) j.at j.bytes j.at
none c =
    let j = c.args.job.now in
    record { of = refl; is = refl; rows = rows j.bytes.now j.at }

center : (c : In_ok-point) → let j = c.args.job.now in let to = c.point.new.self in
    Left j.bytes.now (rectangle_fault j.bytes.now j.at) (two_left j.bytes.now (j.at + 8)) (j.at + 8) to.bytes to.at
center c =
    let o = c.in_ok-point.ensures in
    went (none c.before.before.before.before) o.fault o.bytes o.next

width : (c : In_ok-coord) → let j = c.args.job.now in let to = c.coord.new.self in
    Left j.bytes.now (rectangle_fault j.bytes.now j.at) (one_left j.bytes.now (j.at + 8 + 4)) (j.at + 8 + 4) to.bytes to.at
width c =
    let p = center c.before.before.before.before in
    let o = c.in_ok-coord.ensures in
    went p (o.fault ∙ rw (p.of, p.is)) o.bytes (o.next ∙ rw p.is)

pub returns-in_err-point-clause-fault : goal.returns-in_err-point-clause-fault
returns-in_err-point-clause-fault c =
    stops _ (none (goal.at.returns-in_err-point-clause-fault c).Start) _ _ c.in_err-point.ensures.fault c.from_residual.ensures.1

pub returns-in_err-coord-clause-fault : goal.returns-in_err-coord-clause-fault
returns-in_err-coord-clause-fault c =
    let p = center (goal.at.returns-in_err-coord-clause-fault c).In_ok-point in
    stops _ p _ _ (c.in_err-coord.ensures.fault ∙ rw (p.of, p.is)) c.from_residual-in_err-coord.ensures.1

pub returns-in_err-coord-2-clause-fault : goal.returns-in_err-coord-2-clause-fault
returns-in_err-coord-2-clause-fault c =
    let p = width (goal.at.returns-in_err-coord-2-clause-fault c).In_ok-coord in
    stops _ p _ _ (c.in_err-coord-2.ensures.fault ∙ rw (p.of, p.is)) c.from_residual-in_err-coord-2.ensures.1

pub returns-clause-fault : goal.returns-clause-fault
returns-clause-fault c =
    let p = width (goal.at.returns-clause-fault c).In_ok-coord in
    passes _ _ (c.in_ok-coord-2.ensures.fault ∙ rw (p.of, p.is)) refl ∙ p.rows

pub returns-clause-value : goal.returns-clause-value
unfolding rectangle
returns-clause-value c =
    let at = c.args.job.now.at in
    let p = center (goal.at.returns-clause-value c).In_ok-point in
    let q = width (goal.at.returns-clause-value c).In_ok-coord in
    let w = rw (p.of, p.is) at c.in_ok-coord.ensures.value in
    let h = rw (q.of, q.is) at c.in_ok-coord-2.ensures.value in
    let d : at + 8 + 4 ≡ at + 12 = omega arith in
    rw (c.in_ok-point.ensures.value, w, h, d)
