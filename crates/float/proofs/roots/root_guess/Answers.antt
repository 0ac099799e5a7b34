-- `float::root_guess` meets its contract: each pattern that it reads as a float is no NaN's.
-- Rests on `Laws/Pattern.antt`.
use Rattle.std.proofs.Common.{◌+◌, ◌-◌, ◌/◌, arith}
use lib.Ieee.{binary64, to_bits}
use Rattle.float.specs.Laws.Pattern.{no_nan}
use Rattle.float.proofs.roots.root_guess.Goals as goal

pub float_from_bits-a : goal.float_from_bits-a
float_from_bits-a c = no_nan (0x5fdc_0350_c7b5_37a9 - to_bits binary64 c.args.x / 2) (omega arith)

pub float_from_bits-far : goal.float_from_bits-far
float_from_bits-far c = no_nan (to_bits binary64 c.args.x / 2 + 0x21e7_a3be_a91d_9b1b) (omega arith)
