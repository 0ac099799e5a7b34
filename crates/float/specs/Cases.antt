-- The root at given values, each by computation: a quarter, minus zero and 2, and the ends of the range.
-- Assumes nothing.
use Rattle.std.specs.Prelude.{◌≡◌, refl}
use Rattle.std.specs.Float.{nan, binary64}
use Rattle.std.specs.Float.Ieee.{neg, of_bits, to_bits}
use Rattle.float.specs.Ops.{literal, -0ᶠ, ½ᶠ, 1ᶠ, 2ᶠ, ∞}
use Rattle.float.specs.Root.{root_of}
use Rattle.float.specs.Order.{sqrt}

-- 0.25
pub root_quarter : sqrt (literal 0x3fd0_0000_0000_0000) ≡ ½ᶠ
unfolding root_of of_bits
root_quarter = refl

pub root_minus_zero : sqrt -0ᶠ ≡ -0ᶠ
unfolding root_of of_bits neg
root_minus_zero = refl

pub root_two : to_bits binary64 (sqrt 2ᶠ) ≡ 0x3ff6_a09e_667f_3bcd
unfolding root_of of_bits to_bits
root_two = refl

-- ---- beside these: -1.0, the infinity, the least value, 2 ^ -1074, and the greatest
pub root_below : sqrt (neg 1ᶠ) ≡ nan
unfolding root_of of_bits neg
root_below = refl

pub root_infinity : sqrt ∞ ≡ ∞
unfolding root_of of_bits
root_infinity = refl

pub root_smallest : sqrt (literal 1) ≡ literal 0x1e60_0000_0000_0000
unfolding root_of of_bits
root_smallest = refl

pub root_greatest : to_bits binary64 (sqrt (literal 0x7fef_ffff_ffff_ffff)) ≡ 0x5fef_ffff_ffff_ffff
unfolding root_of of_bits to_bits
root_greatest = refl
