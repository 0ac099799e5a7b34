-- `inverse_by` is the radical inverse. Invariant: the digits left, from the value so far and the weight of the next, give it.
-- Rests on the law of a turn, and on an index having at most 64 digits.
use Rattle.std.proofs.Common.{sym, refl, ◌∙◌, mod-lt, arith, rules}
use native.Mathlib.Nat.{div-lt_self}
use Rattle.laws.specs.Casts.{in_float_lem}
use Rattle.glyphs.specs.Halton.{radical_inverse}
use Rattle.glyphs.specs.Digits.{Weights, weight_at, digit_left, digit_off, next_weight}
use Rattle.glyphs.proofs.Turns.{turn, done}
use Rattle.glyphs.proofs.halton.inverse_by.Goals as goal

pub loop-rest-init : goal.loop-rest-init
unfolding radical_inverse weight_at
loop-rest-init c = (search rules, refl)

pub int_to_float-value : goal.int_to_float-value
int_to_float-value c =
    let l = c.loop-rest in
    in_float_lem _ (omega (arith, mod-lt l.rest {m = c.args.base} (search rules)))

pub offset_bounds-weights-j : goal.offset_bounds-weights-j
offset_bounds-weights-j c =
    let l = c.loop-rest in
    let h = digit_left l.j l.rest (search rules) l.invariant.0 in
    search rules

pub bounds-weights-j : goal.bounds-weights-j
bounds-weights-j c =
    let l = c.loop-rest in
    let h = digit_left l.j l.rest (search rules) l.invariant.0 in
    search rules

pub overflow_add-j : goal.overflow_add-j
overflow_add-j c =
    let l = c.loop-rest in
    let h = digit_left l.j l.rest (search rules) l.invariant.0 in
    search rules

pub loop-rest-smaller : goal.loop-rest-smaller
loop-rest-smaller c = div-lt_self (search rules) (search rules)

pub loop-rest-preserved : goal.loop-rest-preserved
loop-rest-preserved c =
    let l = c.loop-rest in
    let a = c.args in
    let weights : Weights a.base a.weights.now = search rules in
    let h = digit_left l.j l.rest (search rules) l.invariant.0 in (
      digit_off a.base l.j l.rest (search rules) h l.invariant.0,
      rw (← next_weight a.base l.j (weight_at a.base l.j) refl, weights.weight l.j h)
          (sym (turn a.base l.rest l.value (weight_at a.base l.j) (search rules) (search rules)) ∙ l.invariant.1),
    )

pub returns : goal.returns
returns c =
    let l = c.loop-rest in
    cc (done c.args.base l.rest l.value (weight_at c.args.base l.j) (search rules))
