-- `check_work` is row 2.
-- Rests on the laws of rows.
use Rattle.format.specs.RowLaws.{rows}
use Rattle.job.specs.Head.{work_fault}
use Rattle.job.proofs.head.check_work.Goals as goal
use Rattle.job.proofs.head.check_work.Goals.{then-first-lt8000-via-then-first-lt8000, then-first-lt8000-via-else-first-lt8000+then-second-lt8000}

pub returns-then-first-lt8000 : goal.returns-then-first-lt8000
unfolding work_fault
returns-then-first-lt8000 c =
    elim c.then-first-lt8000.branch [
      | then-first-lt8000-via-then-first-lt8000 w ↦ let h = w.if-first-lt8000.true in search rows
      | then-first-lt8000-via-else-first-lt8000+then-second-lt8000 w ↦ let g = w.if-first-lt8000.false in let h = w.if-second-lt8000.true in search rows
    ]

pub returns : goal.returns
unfolding work_fault
returns c = search rows
