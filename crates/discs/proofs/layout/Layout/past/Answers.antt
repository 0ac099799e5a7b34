-- `Layout::past` meets its contract.
-- Rests on what a zone's pieces are known to hold.
use Rattle.std.proofs.Common.{◌≤◌, take, drop, length, arith, length-drop}
use Rattle.regions.specs.Ring.{sum}
use Rattle.discs.specs.Floor.{past_row}
use Rattle.discs.proofs.Zones.{laid_rings, laid_points}
use Rattle.discs.proofs.layout.Layout.past.Goals as goal

pub total-requires : goal.total-requires
total-requires c =
    let a = c.args in
    let fits : sum (take a.zone.row.pieces c.split_at.result.1.now) ≤ length (drop a.zone.at.ring a.self.sizes.now) =
    rw c.split_at.ensures.back (laid_rings _ _ _ c.requires.laid) in
    omega (arith, fits, length-drop a.zone.at.ring a.self.sizes.now)

pub split_at-requires-3 : goal.split_at-requires-3
split_at-requires-3 c = rw (c.total.ensures, c.split_at.ensures.back, c.split_at-2.ensures.back) (laid_rings _ _ _ c.requires.laid)

pub total-requires-2 : goal.total-requires-2
total-requires-2 c =
    let a = c.args in
    let fits : sum c.split_at-3.result.0.now ≤ length (drop a.zone.at.point a.self.points.now) =
    rw (c.split_at-3.ensures.front, c.total.ensures, c.split_at.ensures.back, c.split_at-2.ensures.back) (laid_points _ _ _ c.requires.laid) in
    omega (arith, fits, length-drop a.zone.at.point a.self.points.now)

pub overflow_add-result-3 : goal.overflow_add-result-3
overflow_add-result-3 c =
    let a = c.args in
    let fits : sum c.split_at-3.result.0.now ≤ length (drop a.zone.at.point a.self.points.now) =
    rw (c.split_at-3.ensures.front, c.total.ensures, c.split_at.ensures.back, c.split_at-2.ensures.back) (laid_points _ _ _ c.requires.laid) in
    omega (arith, fits, c.total-2.ensures, length-drop a.zone.at.point a.self.points.now)

pub returns : goal.returns
unfolding past_row
returns c = rw (c.total-2.ensures, c.split_at-3.ensures.front, c.total.ensures, c.split_at.ensures.back, c.split_at-2.ensures.back)
