-- `place` meets its contract. The invariant: what is looked for lies from `low` through `high`.
-- Rests on the laws of where an element goes in a list that is in order.
use Rattle.std.proofs.Common.{◌-◌, ◌/◌, ◌≤◌, length}
use Rattle.laws.specs.Bounded.{lead}
use Rattle.glyphs.specs.Spots.{spots_of}
use Rattle.lattice.specs.Lattice.{by_anchor}
use Rattle.lattice.proofs.nearest.place.Given as goal

abbrev pub invariant-loop-low : goal.invariant-loop-low
invariant-loop-low l =
    let k = lead (by_anchor l.anchor) l.p (spots_of l.cells) in
    (l.low ≤ k) × (k ≤ l.high) × (l.high ≤ length l.cells / 2)

abbrev pub decreases-loop-low : goal.decreases-loop-low
decreases-loop-low l = l.high - l.low
