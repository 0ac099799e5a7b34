-- `mix_byte` takes one byte into the hash.
-- Rests on nothing.
use Rattle.std.proofs.Common.{refl}
use Rattle.glyphs.specs.Hash.{mix_byte}
use Rattle.glyphs.proofs.hash.mix_byte.Goals as goal

pub returns : goal.returns
unfolding mix_byte
returns c = refl
