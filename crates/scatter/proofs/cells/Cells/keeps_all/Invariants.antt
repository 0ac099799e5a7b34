-- `keeps_all` meets its contract. The invariant: the answer is that of the blocks left and of the rest.
-- Rests on the laws of a test of each element in turn, and of a list cut into blocks.
use Rattle.std.proofs.Common.{◌≡◌, ◌&&◌, drop}
use Rattle.laws.specs.Any.{all}
use Rattle.scatter.specs.Cells.{keeps_block}
use Rattle.scatter.proofs.cells.Cells.keeps_all.Given as goal

abbrev pub invariant-loop-block : goal.invariant-loop-block
invariant-loop-block l =
    let keeps = keeps_block l.self l.p in
    keeps l.spots ≡ all keeps (drop l.block-index l.blocks) && keeps l.rest
