-- `widen` meets its contract. The invariant: the answer is that of the turns which are left.
-- Rests on the laws of a turn.
use Rattle.std.proofs.Common.{◌≡◌, ◌-◌}
use Rattle.regions.specs.Pieces.{rings_of}
use Rattle.lattice.specs.Spread.{field_widen}
use Rattle.lattice.proofs.spread.Packing.widen.Given as goal

abbrev pub invariant-loop-turn : goal.invariant-loop-turn
invariant-loop-turn l =
    field_widen (rings_of l.self.site.piece) l.self.site.margin.least l.self.site.near.now l.self.n l.self.field l.self.honoring l.s_max 24 l.low l.high
    ≡ field_widen (rings_of l.self.site.piece) l.self.site.margin.least l.self.site.near.now l.self.n l.self.field l.self.honoring l.s_max
    (24 - l._turn) l.lo l.hi
