-- `float::is_normal` meets its contract: its two tests are the bounds of a normal float's pattern.
-- Rests on `Tests.antt` and the kit's account of tests.
use Rattle.std.proofs.Common.{◌^◌, ltb, leb, ltb→lt, leb→le}
use lib.Ieee.{binary64, to_bits}
use lib.Ieee.Fits.{and_l, and_r}
use Rattle.float.proofs.roots.Tests.{above_number}
use Rattle.float.proofs.roots.is_normal.Goals as goal

pub float_to_bits-bits : goal.float_to_bits-bits
float_to_bits-bits c = above_number c.args.x c.if-x.true

pub returns-then-x : goal.returns-then-x
returns-then-x c t =
    let b = to_bits binary64 c.args.x in
    let low = leb (2 ^ 52) b in
    let high = ltb b 0x7ff0_0000_0000_0000 in
    (above_number c.args.x c.if-x.true, leb→le (2 ^ 52) b (and_l low high t), ltb→lt b 0x7ff0_0000_0000_0000 (and_r low high t))

pub returns : goal.returns
returns c t = absurd t
