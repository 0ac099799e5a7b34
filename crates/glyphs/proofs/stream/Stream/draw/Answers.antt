-- `draw` answers the next 64 bits with the next stream.
-- Rests on nothing.
use Rattle.std.proofs.Common.{refl}
use Rattle.glyphs.specs.Stream.{draw, scramble}
use Rattle.glyphs.proofs.stream.Stream.draw.Goals as goal

pub returns : goal.returns
unfolding draw scramble
returns c = refl
