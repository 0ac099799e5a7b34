-- `float::digit_root` meets its contract. The invariant: q has the digits of the root down to the bit, and what is left is
-- kept beside it. The measure is the bit.
-- Rests on `Digit.antt`.
use Rattle.std.proofs.Common.{ℕ, ◌-◌, ◌*◌, ◌^◌, ◌<◌, ◌≤◌, refl, le_refl, arith, lit<}
use Rattle.float.proofs.roots.Digit.{State, again_one, again_zero, at_one, nearest_up, nearest_down}
use Rattle.float.proofs.roots.digit_root.Goals as goal

first : (m : ℕ) → 2 ^ 52 ≤ m → m < 2 ^ 54 → State (2 ^ 53) (m * 2 ^ 52) (2 ^ 52) (m - 2 ^ 52) (2 ^ 52)
first m h l = ((52, refl), (omega arith, omega arith), le_refl (2 ^ 53), lit< tt)

pub loop-bit-init : goal.loop-bit-init
loop-bit-init c = first c.args.m c.requires.low c.requires.high

pub overflow_mul-rest : goal.overflow_mul-rest
overflow_mul-rest c = omega arith

pub overflow_mul-trial : goal.overflow_mul-trial
overflow_mul-trial c = omega arith

pub overflow_add-trial : goal.overflow_add-trial
overflow_add-trial c = omega arith

pub overflow_add-q : goal.overflow_add-q
overflow_add-q c = omega arith

pub loop-bit-smaller-then-trial-rest : goal.loop-bit-smaller-then-trial-rest
loop-bit-smaller-then-trial-rest c = omega arith

pub loop-bit-preserved-then-trial-rest : goal.loop-bit-preserved-then-trial-rest
loop-bit-preserved-then-trial-rest c = again_one (2 ^ 53) _ _ _ _ c.loop-bit.invariant c.loop-bit-test.true c.if-trial-rest.true

pub loop-bit-smaller : goal.loop-bit-smaller
loop-bit-smaller c = omega arith

pub loop-bit-preserved : goal.loop-bit-preserved
loop-bit-preserved c = again_zero (2 ^ 53) _ _ _ _ c.loop-bit.invariant c.loop-bit-test.true c.if-trial-rest.false

pub overflow_add-result : goal.overflow_add-result
overflow_add-result c = omega arith

pub returns-then-rest-q : goal.returns-then-rest-q
returns-then-rest-q c =
    let i = c.loop-bit.invariant in
    nearest_up _ _ _ (at_one _ _ _ _ i.0.0 i.0.1 c.loop-bit-test.false i.1) c.if-rest-q.true

pub returns-else-rest-q : goal.returns-else-rest-q
returns-else-rest-q c =
    let i = c.loop-bit.invariant in
    nearest_down _ _ _ (at_one _ _ _ _ i.0.0 i.0.1 c.loop-bit-test.false i.1) i.3 c.if-rest-q.false
