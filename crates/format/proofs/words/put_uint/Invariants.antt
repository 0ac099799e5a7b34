-- `put_uint` writes a number's bytes, the last first. Invariant: what is left to write, over what is written, is all of them.
-- Rests on `put_last`.
use mathlib.Core.Path.{◌≡◌}
use lib.Seq.{sets}
use Rattle.format.specs.Numbers.{bytes}
use Rattle.format.proofs.words.put_uint.Given as goal

abbrev pub invariant-loop-i : goal.invariant-loop-i
invariant-loop-i l = sets l.initial.out l.at (bytes l.n l.v) ≡ sets l.out l.at (bytes l.i l.rest)
