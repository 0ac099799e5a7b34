-- The pieces come one by one: the rings of the first are split off the sizes and the points.
-- Rests on the laws of Slices.
use Rattle.std.proofs.Common.{◌<◌, length, rules, arith}
use Rattle.discs.specs.Pieces.{pieces_of}
use Rattle.discs.specs.Slices.{no_pieces, first_lies, others_laid, first_piece, has_ring, pieces_left}
use Rattle.discs.proofs.pieces.PiecesIterator.next.Goals as goal

pub returns-in_err-rings-clause-steps : goal.returns-in_err-rings-clause-steps
returns-in_err-rings-clause-steps c =
    let e = no_pieces c.args.self.now.rings.now c.args.self.now.sizes.now c.args.self.now.points.now c.in_err-rings.ensures.cases in
    search rules

pub split_at-requires : goal.split_at-requires
split_at-requires c =
    let self = c.args.self.now in
    (first_lies _ _ _ self.sizes.now self.points.now c.in_ok-rings.ensures.cases.0 self.laid).sized

pub total-requires : goal.total-requires
total-requires c =
    let self = c.args.self.now in
    let lies = first_lies _ _ _ self.sizes.now self.points.now c.in_ok-rings.ensures.cases.0 self.laid in
    rw c.split_at.ensures.front (omega (arith, lies.within))

pub split_at-requires-2 : goal.split_at-requires-2
split_at-requires-2 c =
    let self = c.args.self.now in
    let lies = first_lies _ _ _ self.sizes.now self.points.now c.in_ok-rings.ensures.cases.0 self.laid in
    rw (c.total.ensures, c.split_at.ensures.front) lies.within

pub invariant_of-self : goal.invariant_of-self
invariant_of-self c =
    let self = c.args.self.now in
    let later = others_laid _ _ _ self.sizes.now self.points.now c.in_ok-rings.ensures.cases.0 self.laid in
    record { laid = rw (c.split_at-2.ensures.back, c.total.ensures, c.split_at.ensures.back, c.split_at.ensures.front) later }

pub invariant_of-result : goal.invariant_of-result
invariant_of-result c =
    let self = c.args.self.now in
    let lies = first_lies _ _ _ self.sizes.now self.points.now c.in_ok-rings.ensures.cases.0 self.laid in
    let some = has_ring _ self.sizes.now self.points.now lies in
    record { outer_ring = rw c.split_at.ensures.front some; room = rw c.split_at.ensures.front lies.within }

pub returns-clause-steps : goal.returns-clause-steps
returns-clause-steps c =
    let self = c.args.self.now in
    rw (c.split_at-2.ensures.back, c.total.ensures, c.split_at.ensures.back, c.split_at.ensures.front)
    (first_piece _ _ _ self.sizes.now self.points.now c.in_ok-rings.ensures.cases.0)

pub returns-clause-goes : goal.returns-clause-goes
returns-clause-goes c =
    let self = c.args.self.now in
    let e = first_piece _ _ _ self.sizes.now self.points.now c.in_ok-rings.ensures.cases.0 in
    let fewer : length (pieces_of c.in_ok-rings.later.now c.split_at.result.1.now c.split_at-2.result.1.now) < length (pieces_left self) =
    rw (c.split_at-2.ensures.back, c.total.ensures, c.split_at.ensures.back, c.split_at.ensures.front, e) (omega arith) in
    search rules
