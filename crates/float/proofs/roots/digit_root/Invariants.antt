-- `float::digit_root` meets its contract. The invariant: q has the digits of the root down to the bit, and what is left is
-- kept beside it. The measure is the bit.
-- Rests on `Digit.antt`.
use Rattle.std.proofs.Common.{◌*◌, ◌^◌}
use Rattle.float.proofs.roots.Digit.{State}
use Rattle.float.proofs.roots.digit_root.Given as goal

abbrev pub invariant-loop-bit : goal.invariant-loop-bit
invariant-loop-bit l = State (2 ^ 53) (l.m * 2 ^ 52) l.q l.rest l.bit

abbrev pub decreases-loop-bit : goal.decreases-loop-bit
decreases-loop-bit l = l.bit
