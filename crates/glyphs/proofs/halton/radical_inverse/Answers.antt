-- `radical_inverse` mirrors the index's digits. Invariant: the digits left, from the value and the weight so far, give the inverse.
-- Rests on the law of a turn.
use Rattle.std.proofs.Common.{refl, mod-lt, arith, rules}
use native.Mathlib.Nat.{div-lt_self}
use Rattle.laws.specs.Casts.{in_float_lem}
use Rattle.glyphs.specs.Halton.{radical_inverse}
use Rattle.glyphs.proofs.Turns.{turn, done}
use Rattle.glyphs.proofs.halton.radical_inverse.Goals as goal

pub int_to_float-b : goal.int_to_float-b
int_to_float-b c = in_float_lem _ (search rules)

pub loop-rest-init : goal.loop-rest-init
unfolding radical_inverse
loop-rest-init c = refl

pub int_to_float-value : goal.int_to_float-value
int_to_float-value c =
    let base = c.args.base in
    in_float_lem _ (omega (arith, mod-lt c.loop-rest.rest {m = base} (search rules)))

pub loop-rest-smaller : goal.loop-rest-smaller
loop-rest-smaller c = div-lt_self (search rules) (search rules)

pub loop-rest-preserved : goal.loop-rest-preserved
loop-rest-preserved c =
    let l = c.loop-rest in
    cc (turn c.args.base l.rest l.value l.weight (search rules) (search rules))

pub returns : goal.returns
returns c =
    let l = c.loop-rest in
    cc (done c.args.base l.rest l.value l.weight (search rules))
