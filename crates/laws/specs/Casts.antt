-- An integer of at most 53 digits is a float exactly, so that the cast asks no more.
-- Rests on the kit's account of casts.
use Rattle.std.specs.Prelude.{ℕ, ◌≤◌, T, pos}
use Rattle.std.proofs.Common.{le→leb}
use Rattle.std.specs.Float.{binary64}
use Rattle.std.specs.Float.Ieee.{in_float}

pub in_float_lem : (n : ℕ) → n ≤ 0x20_0000_0000_0000 → T (in_float binary64 (pos n))
unfolding in_float
in_float_lem n h = le→leb n 0x20_0000_0000_0000 h
