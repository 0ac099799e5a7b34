-- `fnv1a` hashes its bytes. Invariant: the hash of the bytes left, from the hash so far, is that of all.
-- Rests on what `mix_byte` ensures and the laws of a fold.
use Rattle.std.proofs.Common.{◌≡◌, drop}
use mathlib.Core.List.{foldl}
use Rattle.glyphs.specs.Hash.{fnv1a, mix_byte}
use Rattle.glyphs.proofs.hash.fnv1a.Given as goal

abbrev pub invariant-loop-b : goal.invariant-loop-b
invariant-loop-b l = foldl mix_byte l.hash (drop l.b-index l.bytes) ≡ fnv1a l.bytes
