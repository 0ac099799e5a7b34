-- `count_row` meets its contract. The invariant: the answer is that of the cells which are left, from `t` on.
-- Rests on the laws of a turn over a row.
use Rattle.std.proofs.Common.{◌≡◌, ◌+◌, ◌-◌, ◌≤◌}
use Rattle.regions.specs.Pieces.{rings_of}
use Rattle.lattice.specs.Tally.{tally, tally_from}
use Rattle.lattice.specs.Walk.{cells_in}
use Rattle.lattice.proofs.count.count_row.Given as goal

abbrev pub invariant-loop-k : goal.invariant-loop-k
invariant-loop-k l =
    (l.t.free + (l.row.count - l.k) ≤ 1000000)
    × (l.t.blocked + (l.row.count - l.k) ≤ 1000000)
    × (tally (rings_of l.site.piece) l.site.margin.least l.site.near.now l.cap l.initial.t (cells_in l.row)
    ≡ tally_from (rings_of l.site.piece) l.site.margin.least l.site.near.now l.cap l.t l.row.x l.row.y l.row.spacing l.row.first l.row.count l.k)
