-- `place` meets its contract. The invariant: what is looked for lies from `low` through `high`.
-- Rests on the laws of where an element goes in a list that is in order.
use Rattle.std.proofs.Common.{◌≡◌, ◌+◌, ◌-◌, ◌/◌, ◌<◌, true, false, length, get_or, arith}
use lib.Ieee.{nan}
use Rattle.laws.specs.Bounded.{lead_le, lead_before, lead_behind}
use Rattle.laws.specs.Orders.{is_lt}
use Rattle.glyphs.specs.Spots.{spots_of, length_spots, spots_at_lem}
use Rattle.lattice.specs.Escape.{point}
use Rattle.lattice.specs.Keys.{linear_by}
use Rattle.lattice.specs.Lattice.{by_anchor}
use Rattle.lattice.proofs.nearest.place.Goals as goal

pub loop-low-init : goal.loop-low-init
loop-low-init c =
    let a = c.args in
    (omega arith, omega (arith, lead_le (by_anchor a.anchor) a.p (spots_of a.cells.now), length_spots a.cells.now), omega arith)

pub loop-low-preserved-then-precedes : goal.loop-low-preserved-then-precedes
loop-low-preserved-then-precedes c =
    let l = c.loop-low in
    let a = c.args in
    let mid = l.low + (l.high - l.low) / 2 in
    let ps = spots_of a.cells.now in
    let d = point nan nan in
    let n : mid < length ps = omega (arith, length_spots a.cells.now) in
    let e : is_lt (by_anchor a.anchor a.p (get_or ps mid d)) ≡ true =
    rw (spots_at_lem a.cells.now mid d (omega arith), ← c.spot.ensures, ← c.precedes.ensures) c.if-precedes.true in
    (l.invariant.0, lead_before (by_anchor a.anchor) a.p ps mid d n e, omega arith)

pub loop-low-preserved : goal.loop-low-preserved
loop-low-preserved c =
    let l = c.loop-low in
    let a = c.args in
    let mid = l.low + (l.high - l.low) / 2 in
    let ps = spots_of a.cells.now in
    let d = point nan nan in
    let n : mid < length ps = omega (arith, length_spots a.cells.now) in
    let e : is_lt (by_anchor a.anchor a.p (get_or ps mid d)) ≡ false =
    rw (spots_at_lem a.cells.now mid d (omega arith), ← c.spot.ensures, ← c.precedes.ensures) c.if-precedes.false in
    (omega (arith, lead_behind (by_anchor a.anchor) (linear_by a.anchor) a.p ps mid d c.requires n e), l.invariant.1, l.invariant.2)
