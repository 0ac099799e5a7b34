-- `seeded` starts the stream of a seed and a hash.
-- Rests on nothing else.
use Rattle.std.proofs.Common.{refl}
use Rattle.glyphs.specs.Stream.{seeded}
use Rattle.glyphs.proofs.stream.Stream.seeded.Goals as goal

pub returns : goal.returns
unfolding seeded
returns c = refl
