-- `first_child` meets its contract: the lesser of two children.
-- Rests on the laws of the order of leaving.
use Rattle.std.proofs.Common.{arith}
use Rattle.deepest.specs.Cells.{cell_at}
use Rattle.deepest.specs.Heap.{first_left, first_right}
use Rattle.deepest.proofs.queue.first_child.Goals as goal

pub returns-then-before : goal.returns-then-before
returns-then-before c =
    let a = c.args in
    first_right a.halves.now (cell_at a.cells.now) a.n a.i c.if-s-n.true (cc)

pub returns-else-before : goal.returns-else-before
returns-else-before c =
    let a = c.args in
    first_left a.halves.now (cell_at a.cells.now) a.n a.i (omega arith) (λ l. cc)

pub returns-else-s-n : goal.returns-else-s-n
returns-else-s-n c =
    let a = c.args in
    first_left a.halves.now (cell_at a.cells.now) a.n a.i (omega arith) (λ l. absurd (omega arith))
