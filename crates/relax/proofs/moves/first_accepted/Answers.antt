-- `first_accepted` meets its contract. The invariant: the answer is that of the tries which are left, from `step` on.
-- Rests on the laws of one try.
use Rattle.std.proofs.Common.{◌≡◌, suc, zero, ◌-◌, ◌+◌, sym, arith}
use Rattle.relax.specs.Moves.{told_of, first_refused, first_clear, none_accepted}
use Rattle.relax.proofs.moves.first_accepted.Goals as goal

pub returns-in-Some : goal.returns-in-Some
unfolding told_of
returns-in-Some c =
    let a = c.args in
    let l = c.loop in
    let m = a.mark in
    rw (l.invariant, first_clear _ _ _ m.i m.spots.now m.honoring a.towards m.within _ c.place-p.ensures _ l.step _ (sym c.in-Some.ensures))

pub loop-preserved : goal.loop-preserved
loop-preserved c =
    let a = c.args in
    let l = c.loop in
    let k : a.backtracks - l.counter ≡ suc (a.backtracks - (l.counter + 1)) = omega arith in
    let m = a.mark in
    rw (l.invariant, first_refused _ _ _ m.i m.spots.now m.honoring a.towards m.within _ c.place-p.ensures _ l.step (sym c.in_default.ensures), k)

pub returns-in_default : goal.returns-in_default
unfolding told_of
returns-in_default c =
    let a = c.args in
    let l = c.loop in
    let k : a.backtracks - l.counter ≡ zero = omega arith in
    let m = a.mark in
    rw (
      l.invariant,
      first_refused _ _ _ m.i m.spots.now m.honoring a.towards m.within _ c.place-p.ensures _ l.step (sym c.in_default.ensures),
      k,
      none_accepted,
    )
