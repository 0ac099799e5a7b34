-- `inside_level` meets its contract. The invariant: the answer is that of the holes which are left.
-- Rests on the laws that take the ends apart ring by ring.
use Rattle.std.proofs.Common.{◌≡◌, not, drop, length}
use Rattle.lattice.specs.Crossings.{odd_any, inside_level, Ascend}
use Rattle.lattice.proofs.crossings.inside_level.Given as goal

abbrev pub invariant-loop-to : goal.invariant-loop-to
invariant-loop-to l =
    let left = drop l.to-index l.to-items in
    Ascend (length l.crossings) l.from left × (inside_level l.x l.crossings l.ends ≡ not (odd_any l.x l.crossings l.from left))
