-- `pack_pieces` meets its contract. The invariant: the pieces left, from the stream as it is now, and the spots so far make up the whole.
-- Rests on the laws of a turn.
use Rattle.std.proofs.Common.{rules, refl, arith}
use Rattle.discs.specs.Bundles.{lent_on, lent_same}
use Rattle.discs.proofs.Turns.{begin, turn, no_piece, no_point, no_quota, none_left, ended, quota_fits}
use Rattle.discs.proofs.region.pack_pieces.Goals as goal

pub loop-piece-init : goal.loop-piece-init
loop-piece-init c =
    let a = c.args in
    let p = a.how.packing in
    let whole = begin p.numbers p.options a.how.ctx _ _ a.region.deepest.now a.region.quotas.now a.start a.spots.now in
    let outer = c.zip-piece-items.ensures in
    let inner = c.zip.ensures in
    (rw (c.into_iter-piece-iterator.ensures.into_iter_gives, outer.first, inner.first, outer.second.0, inner.second.0) whole, lent_same a.lent.now, refl)

pub pack_piece-taken-requires-clause-room : goal.pack_piece-taken-requires-clause-room
pack_piece-taken-requires-clause-room c =
    let l = c.loop-piece in
    let room = c.requires.room in
    let same = l.invariant.1 in
    let s = c.in-Some.ensures.steps in
    let fits = quota_fits l.invariant.0 s.0.0 s.1 s.0.1 in
    record {
      near = omega (arith, room.near, same.near_long);
      second = omega (arith, fits, room.second, same.second_long);
      flags = omega (arith, fits, room.flags, same.flags_long);
    }

pub overflow_mul-to : goal.overflow_mul-to
overflow_mul-to c =
    let s = c.in-Some.ensures.steps in
    let fits = quota_fits c.loop-piece.invariant.0 s.0.0 s.1 s.0.1 in
    omega (arith, fits, c.requires.spots)

pub overflow_add-to : goal.overflow_add-to
overflow_add-to c =
    let s = c.in-Some.ensures.steps in
    let fits = quota_fits c.loop-piece.invariant.0 s.0.0 s.1 s.0.1 in
    omega (arith, fits, c.requires.spots)

pub slice_bounds-pack_piece-end : goal.slice_bounds-pack_piece-end
slice_bounds-pack_piece-end c =
    let s = c.in-Some.ensures.steps in
    let fits = quota_fits c.loop-piece.invariant.0 s.0.0 s.1 s.0.1 in
    omega (arith, fits, c.requires.spots, c.loop-piece.invariant.2)

pub overflow_add-placed : goal.overflow_add-placed
overflow_add-placed c =
    let s = c.in-Some.ensures.steps in
    let fits = quota_fits c.loop-piece.invariant.0 s.0.0 s.1 s.0.1 in
    omega (arith, fits, c.pack_piece-taken.ensures.placed.most, c.requires.spots)

pub loop-piece-preserved : goal.loop-piece-preserved
loop-piece-preserved c =
    let l = c.loop-piece in
    let s = c.in-Some.ensures.steps in
    let taken = c.pack_piece-taken in
    let placed = rw c.deepest_from.ensures at taken.ensures.placed in
    let rng = rw c.deepest_from.ensures at taken.ensures.rng in (
      turn l.invariant.0 s.0.0 s.1 s.0.1 _ taken.result.count _ placed rng (omega (arith, c.requires.spots, l.invariant.2)),
      lent_on l.invariant.1 taken.ensures.same,
      search rules,
    )

pub returns-clause-placed : goal.returns-clause-placed
returns-clause-placed c =
    let g = c.loop-piece.invariant.0 in
    ended (λ v p. no_piece g p.0) (λ w p. no_quota g (none_left _ p.0))
    (λ t p. no_point g (none_left _ p.0)) c.in-None.ensures.steps
