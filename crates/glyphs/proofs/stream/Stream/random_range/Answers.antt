-- `random_range` answers a draw from a range with the next stream.
-- Rests on what `draw` ensures.
use Rattle.std.proofs.Common.{rules}
use Rattle.laws.specs.Casts.{in_float_lem}
use Rattle.glyphs.specs.Stream.{random_range}
use Rattle.glyphs.proofs.stream.Stream.random_range.Goals as goal

pub int_to_float-unit : goal.int_to_float-unit
int_to_float-unit c = in_float_lem _ (search rules)

pub returns : goal.returns
unfolding random_range
returns c = rw c.draw-d.ensures
