-- `put_weights` writes the weights of a base. Invariant: those before j are there, and the next is at hand.
-- Rests on the laws of one more weight.
use Rattle.std.proofs.Common.{◌≡◌, ℕ, refl, subst, arith, length-set, rules}
use Rattle.laws.specs.Casts.{in_float_lem}
use Rattle.glyphs.specs.Digits.{weight_at, Upto, none_yet, one_more, next_weight}
use Rattle.glyphs.proofs.halton.put_weights.Goals as goal

pub int_to_float-b : goal.int_to_float-b
int_to_float-b c = in_float_lem _ (search rules)

pub loop-j-init : goal.loop-j-init
unfolding weight_at
loop-j-init c = (refl, refl, refl, none_yet _ _)

pub loop-j-preserved : goal.loop-j-preserved
loop-j-preserved c =
    let l = c.loop-j in
    let base = c.args.base in (
      simp length-set l.invariant.0,
      refl,
      next_weight base l.j l.weight l.invariant.2,
      one_more base l.j l.weights l.weight (search rules) l.invariant.2 l.invariant.3,
    )

pub shape_of-weights : goal.shape_of-weights
shape_of-weights c = c.loop-j.invariant.0

pub returns : goal.returns
returns c =
    let l = c.loop-j in
    let e : l.j ≡ 64 = omega arith in
    subst (λ (n : ℕ). Upto c.args.base n l.weights) e l.invariant.3
