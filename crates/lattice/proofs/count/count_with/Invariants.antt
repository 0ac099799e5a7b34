-- `count_with` meets its contract. The invariant: the answer is that of the rows which are left, from `t` on.
-- Rests on the laws of a turn over the rows.
use Rattle.std.proofs.Common.{◌≡◌, ◌+◌, ◌<◌, ◌≤◌, length}
use Rattle.regions.specs.Pieces.{rings_of}
use Rattle.lattice.specs.Rows.{walk}
use Rattle.lattice.specs.Tally.{none, tally}
use Rattle.lattice.specs.Walk.{cells_left}
use Rattle.lattice.proofs.count.count_with.Given as goal

abbrev pub invariant-loop-row : goal.invariant-loop-row
invariant-loop-row l =
    (goal.iterator-loop-row).can_next l.row-iterator
    × (goal.iterator-loop-row).is_finite l.row-iterator
    × (l.t.free + length (cells_left l.row-iterator) ≤ 1000000)
    × (l.t.blocked + length (cells_left l.row-iterator) ≤ 1000000)
    × (l.t.free < l.cap)
    × (tally (rings_of l.site.piece) l.site.margin.least l.site.near.now l.cap none (walk l.fn.field)
    ≡ tally (rings_of l.site.piece) l.site.margin.least l.site.near.now l.cap l.t (cells_left l.row-iterator))
