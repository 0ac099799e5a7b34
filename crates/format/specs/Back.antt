-- What was written is read back: numbers and floats that stand at a place of some bytes.
-- Rests on the kit's laws of lists and of a float's bits.
use Rattle.std.specs.Prelude.{◌≡◌, length, Float}
use Rattle.std.specs.Float.{binary64}
use Rattle.std.specs.Float.Ieee.{to_bits}
use Rattle.format.specs.Numbers.{float_bytes}
use Rattle.format.specs.NumberLaws.{length_bytes}

pub length_float : (x : Float) → length (float_bytes x) ≡ 8
unfolding float_bytes
length_float x = length_bytes 8 (to_bits binary64 x)
