-- `float::is_root` meets its contract: a guess whose pattern is the root's is the root.
-- Rests on `Value.antt`, `Tests.antt` and the contract of `is_scaled_root`.
use Rattle.std.proofs.Common.{sym, ◌∙◌}
use lib.Ieee.{binary64}
use lib.Ieee.Bits.{of_bits-to_bits}
use Rattle.laws.specs.Truth.{yes}
use Rattle.float.proofs.roots.Tests.{above_number, own_root}
use Rattle.float.proofs.roots.Value.{normal_root}
use Rattle.float.proofs.roots.is_root.Goals as goal

pub float_to_bits-bits : goal.float_to_bits-bits
float_to_bits-bits c = c.requires.0

pub float_to_bits-guess : goal.float_to_bits-guess
float_to_bits-guess c = above_number c.args.guess c.if-guess.true

pub returns-then-guess : goal.returns-then-guess
returns-then-guess c t =
    own_root c.args.x _ (yes c.well_formed.0.1)
    (sym (of_bits-to_bits binary64 c.args.guess (yes c.well_formed.1.0.1)) ∙ c.is_scaled_root.ensures t ∙ sym (normal_root _ c.requires.1 c.requires.2))

pub returns : goal.returns
returns c t = absurd t
