-- `inverse_by` is the radical inverse. Invariant: the digits left, from the value so far and the weight of the next, give it.
-- Rests on the law of a turn, and on an index having at most 64 digits.
use Rattle.std.proofs.Common.{◌≡◌}
use Rattle.glyphs.specs.Halton.{radical_inverse, digits}
use Rattle.glyphs.specs.Digits.{weight_at, Left}
use Rattle.glyphs.proofs.halton.inverse_by.Given as goal

abbrev pub invariant-loop-rest : goal.invariant-loop-rest
invariant-loop-rest l =
    Left l.j l.rest × (digits l.rest l.base l.rest l.value (weight_at l.base l.j) ≡ radical_inverse l.index l.base)

abbrev pub decreases-loop-rest : goal.decreases-loop-rest
decreases-loop-rest l = l.rest
