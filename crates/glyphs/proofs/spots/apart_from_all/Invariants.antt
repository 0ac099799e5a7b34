-- `apart_from_all` meets its contract. The invariant of the loops: the answer is that of the blocks left and of the last, and of
-- `ok` and the last left.
-- Rests on the laws of `all` over blocks, over one element and over none.
use Rattle.std.proofs.Common.{◌≡◌, ◌&&◌, drop}
use Rattle.laws.specs.Any.{all}
use Rattle.glyphs.specs.Spots.{apart, spots_of, all_of}
use Rattle.glyphs.proofs.spots.apart_from_all.Given as goal

abbrev pub invariant-loop-block : goal.invariant-loop-block
invariant-loop-block l =
    let far = all_of (apart l.p l.least) in
    far l.spots ≡ all far (drop l.block-index l.blocks) && far l.last

abbrev pub invariant-loop-i : goal.invariant-loop-i
invariant-loop-i l =
    let test = apart l.p l.least in
    all_of test l.spots ≡ l.ok && all test (drop l.i (spots_of l.last))
