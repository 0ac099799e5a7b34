-- `put_float` writes a float's bits.
-- Rests on the library's conversion being the definition, and on the bits of the one NaN.
use mathlib.Core.Path.{◌≡◌, ◌∙◌, sym}
use Prim.Native.Nat.{◌+◌}
use native.Mathlib.Omega.{arith}
use Rattle.std.specs.Float.{binary64}
use Rattle.std.specs.Float.Ieee.{to_bits}
use Rattle.format.specs.Numbers.{bytes, float_bytes}
use Rattle.format.specs.NumberLaws.{nan_bits, length_bytes}
use Rattle.format.specs.RowLaws.{copied}
use Rattle.format.proofs.WordLaws.{to_word}
use Rattle.format.proofs.words.put_float.Goals as goal
use Rattle.format.proofs.words.put_float.Goals.{then-is_nan, else-is_nan}

pub returns : goal.returns
unfolding float_bytes
returns c =
    let a = c.args in
    let e : c.if-is_nan.bits ≡ to_bits binary64 a.x =
    elim c.if-is_nan.branch [
      | then-is_nan w ↦ w.bits-is ∙ sym (nan_bits a.x (sym c.is_nan.ensures.value ∙ w.if-is_nan.true))
      | else-is_nan w ↦ w.bits-is
    ] in
    let word = to_bits binary64 a.x in
    let b : c.copy_from_slice.new.self ≡ bytes 8 word = c.copy_from_slice.ensures.after ∙ c.to_be_bytes.ensures ∙ to_word 8 c.if-is_nan.bits ∙ rw e in
    let long = length_bytes 8 word in
    rw b (copied a.out.now (bytes 8 word) a.at (a.at + 8) (rw long) (omega (arith, long, c.requires)))
