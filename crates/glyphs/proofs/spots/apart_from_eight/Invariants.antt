-- `apart_from_eight` meets its contract. The invariant: `ok` is the answer for the first j of the eight.
-- Rests on the laws of `all` over the first elements.
use Rattle.std.proofs.Common.{◌≡◌, take}
use Rattle.laws.specs.Any.{all}
use Rattle.glyphs.specs.Spots.{apart, spots_of}
use Rattle.glyphs.proofs.spots.apart_from_eight.Given as goal

abbrev pub invariant-loop-j : goal.invariant-loop-j
invariant-loop-j l = l.ok ≡ all (apart l.p l.least) (take l.j (spots_of l.block))
