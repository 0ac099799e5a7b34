-- `put_uint` writes a number's bytes, the last first. Invariant: what is left to write, over what is written, is all of them.
-- Rests on `put_last`.
use mathlib.Core.Path.{◌∙◌, sym}
use native.Mathlib.Omega.{arith}
use Rattle.format.specs.NumberLaws.{put_last, bytes_none}
use Rattle.format.proofs.words.put_uint.Goals as goal

pub loop-i-preserved : goal.loop-i-preserved
loop-i-preserved c =
    let l = c.loop-i in
    l.invariant ∙ put_last l.out c.args.at l.i l.rest (omega arith)

pub returns : goal.returns
returns c =
    let l = c.loop-i in
    sym (l.invariant ∙ bytes_none l.out c.args.at l.i l.rest (omega arith))
