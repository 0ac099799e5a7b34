-- `put_weights` writes the weights of a base. Invariant: those before j are there, and the next is at hand.
-- Rests on the laws of one more weight.
use Rattle.std.proofs.Common.{◌≡◌, length}
use Rattle.float.specs.Whole.{as_f64}
use Rattle.glyphs.specs.Digits.{weight_at, Upto}
use Rattle.glyphs.proofs.halton.put_weights.Given as goal

abbrev pub invariant-loop-j : goal.invariant-loop-j
invariant-loop-j l =
    (length l.weights ≡ length l.initial.weights) × (l.b ≡ as_f64 l.base) × (l.weight ≡ weight_at l.base l.j) × Upto l.base l.j l.weights
