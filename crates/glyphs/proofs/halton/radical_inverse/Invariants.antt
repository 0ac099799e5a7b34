-- `radical_inverse` mirrors the index's digits. Invariant: the digits left, from the value and the weight so far, give the inverse.
-- Rests on the law of a turn.
use Rattle.std.proofs.Common.{◌≡◌}
use Rattle.glyphs.specs.Halton.{radical_inverse, digits}
use Rattle.glyphs.proofs.halton.radical_inverse.Given as goal

abbrev pub invariant-loop-rest : goal.invariant-loop-rest
invariant-loop-rest l = digits l.rest l.base l.rest l.value l.weight ≡ radical_inverse l.index l.base

abbrev pub decreases-loop-rest : goal.decreases-loop-rest
decreases-loop-rest l = l.rest
