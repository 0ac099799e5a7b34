-- `roots` asks for roots of numbers, some by their bit patterns.
-- Rests on no such pattern being a NaN's, by computation.
use lib.Ieee.{nan_bits}
use Rattle.vectors.proofs.numbers.roots.Goals as goal

pub float_from_bits-root : goal.float_from_bits-root
unfolding nan_bits
float_from_bits-root g c = tt

pub float_from_bits-root-2 : goal.float_from_bits-root-2
unfolding nan_bits
float_from_bits-root-2 g c = tt
