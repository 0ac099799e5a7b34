-- `uint` reads a number as the end of a word.
-- Rests on the library's conversion being the definition.
use mathlib.Core.List.{◌++◌}
use Prim.Native.Nat.{◌+◌, ◌-◌}
use lib.ListN.{length, replicate}
use borrow.Rule.Slice.PartMut.{put_mid}
use Rattle.std.specs.Int.{w64, from_be_bytes}
use Rattle.std.proofs.Common.{◌≡◌, ◌∙◌, arith}
use Rattle.format.proofs.WordLaws.{of_word, zeros_first, ends_word, uint_room}
use Rattle.format.proofs.numbers.uint.Goals as goal

pub returns : goal.returns
returns c =
    let b = c.args.bytes.now in
    let n = length b in
    let k : 8 - n + n ≡ 8 = omega arith in
    let word : c.from_be_bytes.result ≡ from_be_bytes w64 (put_mid (8 - n) (8 - (8 - n)) (replicate 8 0) c.copy_from_slice.new.self) =
    c.from_be_bytes.ensures in
    let whole : c.from_be_bytes.result ≡ from_be_bytes w64 (replicate (8 - n) 0 ++ b) =
    rw (c.copy_from_slice.ensures.after, ends_word b c.requires) at word in
    let v = whole ∙ of_word (replicate (8 - n) 0 ++ b) ∙ rw k at (zeros_first (8 - n) n b) in
    (v, rw v (uint_room n b c.requires (λ i. (c.type_inv.bytes i).fits)))
