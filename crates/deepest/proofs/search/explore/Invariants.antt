-- `explore` meets its contract. The invariant: what is left of the definition's search is that of the cells that wait. The measure is what they weigh.
-- Rests on the laws of the search's state.
use Rattle.std.proofs.Common.{◌≡◌, length}
use Rattle.regions.specs.Pieces.{rings_of}
use Rattle.deepest.specs.Cells.{cell_at}
use Rattle.deepest.specs.Queue.{total}
use Rattle.deepest.specs.Deepest.{heft}
use Rattle.deepest.specs.Search.{Searching}
use Rattle.deepest.proofs.search.explore.Given as goal

abbrev pub invariant-loop-cell : goal.invariant-loop-cell
invariant-loop-cell l =
    let a = l.initial.waiting in
    let w = l.waiting in
    (w.halves.now ≡ a.halves.now)
    × Searching (rings_of l.piece) a.halves.now l.precision (length a.cells.now) a.cells.now a.len l.initial.best w.cells.now w.len w.entered l.best

abbrev pub decreases-loop-cell : goal.decreases-loop-cell
decreases-loop-cell l = total heft (cell_at l.waiting.cells.now) l.waiting.len
