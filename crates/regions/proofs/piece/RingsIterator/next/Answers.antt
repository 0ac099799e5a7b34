-- The rings come one by one: the first is split off its list of sizes and its vertices.
-- Rests on the laws of Pieces.
use Rattle.std.proofs.Common.{◌<◌, length, rules}
use Rattle.regions.specs.Ring.{piece_of}
use Rattle.regions.specs.Pieces.{takes_first, rings_none, first_fits, others_fit, one_fewer, rings_left}
use Rattle.regions.proofs.piece.RingsIterator.next.Goals as goal

pub returns-in_err-size-clause-steps : goal.returns-in_err-size-clause-steps
returns-in_err-size-clause-steps c =
    let e = c.in_err-size.ensures.cases in
    let n = rings_none c.args.self.now.sizes.now c.args.self.now.points.now e in
    search rules

pub split_at-requires : goal.split_at-requires
split_at-requires c = first_fits _ _ _ c.args.self.now.points.now c.in_ok-size.ensures.cases.0 c.args.self.now.room

pub invariant_of-self : goal.invariant_of-self
invariant_of-self c =
    let fits = others_fit _ _ _ c.args.self.now.points.now c.in_ok-size.ensures.cases.0 c.args.self.now.room in
    record { room = rw c.split_at.ensures.back fits }

pub returns-clause-steps : goal.returns-clause-steps
returns-clause-steps c =
    let e = takes_first _ _ _ c.args.self.now.points.now c.in_ok-size.ensures.cases.0 in
    rw (c.split_at.ensures.front, c.split_at.ensures.back) e

pub returns-clause-goes : goal.returns-clause-goes
returns-clause-goes c =
    let self = c.args.self.now in
    let fewer : length (piece_of c.in_ok-size.sizes.now c.split_at.result.1.now) < length (rings_left self) =
    rw c.split_at.ensures.back (one_fewer _ _ _ self.points.now c.in_ok-size.ensures.cases.0) in
    search rules
