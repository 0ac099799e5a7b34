-- `search_pieces` finds the deepest points. Invariant: those of the pieces left are still to be found and put.
-- Rests on one turn of a walk over pieces.
use mathlib.Core.Path.{◌≡◌, refl, sym, ap, ◌∙◌}
use Rattle.std.specs.Prelude.{true}
use mathlib.Core.List.{[]}
use Prim.Native.Nat.{◌<◌}
use native.Mathlib.Omega.{arith}
use borrow.Author.Rules.{rules}
use lib.ListN.{length, length-set}
use Rattle.discs.specs.Searches.{had_room}
use Rattle.plan.specs.Found.{found_for, found_in}
use Rattle.plan.specs.Walk.{never, no_room, length_pieces, none_left, either_ends, fits_turn, fits_stop, put_turn, no_piece, no_quota, fits_end, put_end}
use Rattle.plan.proofs.searches.search_pieces.Goals as goal

pub loop-k-init : goal.loop-k-init
loop-k-init c =
    let z = c.zip-k-items.ensures in
    let e = c.into_iter-k-iterator.ensures.into_iter_gives in
    let n = length_pieces c.args.pieces.rings.now c.args.pieces.sizes.now c.args.pieces.points.now in
    let pieces = c.zip.ensures.first in
    let quotas = c.zip.ensures.second.0 in (
      refl,
      rw (e, z.first) (sym n),
      rw (e, z.first, z.second, pieces) (omega arith),
      rw (e, z.second, pieces, quotas),
      rw (e, z.first, z.second, pieces, quotas),
    )

pub offset_bounds-deepest-k : goal.offset_bounds-deepest-k
offset_bounds-deepest-k c =
    let s = c.in-Some.ensures.steps in
    let i = c.loop-k.invariant in
    let n = length_pieces c.args.pieces.rings.now c.args.pieces.sizes.now c.args.pieces.points.now in
    let fits : c.in-Some.k < length c.loop-k.deepest = omega (arith, s.0, i.0, i.1, n, c.requires) in
    search rules

pub returns-in_err-deepest : goal.returns-in_err-deepest
unfolding found_for
returns-in_err-deepest c =
    let s = c.in-Some.ensures.steps in
    let i = c.loop-k.invariant in
    let o = c.in_err-deepest.ensures in
    let e = no_room _ c.from_residual.ensures.0 in
    record {
      fits = e ∙ sym (fits_stop _ _ _ s.1.0 c.args.options true _ _ _ s.1.1 _ refl (sym o.room) i.3);
      put = λ t. absurd (never (sym e ∙ t));
    }

pub bounds-deepest-k : goal.bounds-deepest-k
bounds-deepest-k c =
    let s = c.in-Some.ensures.steps in
    let i = c.loop-k.invariant in
    let n = length_pieces c.args.pieces.rings.now c.args.pieces.sizes.now c.args.pieces.points.now in
    omega (arith, s.0, i.0, i.1, n, c.requires)

pub loop-k-preserved : goal.loop-k-preserved
unfolding found_for
loop-k-preserved c =
    let s = c.in-Some.ensures.steps in
    let l = c.loop-k in
    let i = l.invariant in
    let a = c.args in
    let o = c.in_ok-deepest.ensures in
    let h = ap had_room o.found ∙ sym o.room in (
      length-set l.deepest c.in-Some.k _ ∙ i.0,
      s.0.0 ∙ i.1,
      omega (arith, s.0.1.2, ap length s.1.0, i.2),
      fits_turn _ _ _ s.1.0 a.options true _ _ _ s.1.1 _ o.found h i.3,
      put_turn _ _ _ s.1.0 a.options true _ _ _ s.1.1 _ o.found l.deepest c.in-Some.k _ _ s.0.1.1 s.0.1.2 i.4,
    )

pub returns : goal.returns
returns c =
    let i = c.loop-k.invariant in
    let a = c.args in
    let e : found_in a.options true _ _ ≡ [] =
    either_ends (λ u p. no_piece a.options true _ _ (none_left _ (omega (arith, i.1, i.2, p))))
    (λ u p. either_ends (λ v q. no_piece a.options true _ _ q.0) (λ v q. no_quota a.options true _ _ (none_left _ q.0)) p) c.in-None.ensures.steps in
    record { fits = sym (fits_end _ e i.3); put = λ t. sym (put_end _ _ _ e i.4) }
