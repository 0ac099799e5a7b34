-- `fnv1a` hashes its bytes. Invariant: the hash of the bytes left, from the hash so far, is that of all.
-- Rests on what `mix_byte` ensures and the laws of a fold.
use Rattle.std.proofs.Common.{refl, rules}
use Rattle.laws.specs.Folds.{fold_step, fold_end}
use Rattle.glyphs.specs.Hash.{fnv1a, mix_byte}
use Rattle.glyphs.proofs.hash.fnv1a.Goals as goal

pub loop-b-init : goal.loop-b-init
unfolding fnv1a
loop-b-init c = refl

pub loop-b-preserved : goal.loop-b-preserved
loop-b-preserved c =
    let l = c.loop-b in
    cc (fold_step mix_byte l.hash c.args.bytes.now l.b-index 0 (search rules))

pub returns : goal.returns
returns c =
    let l = c.loop-b in
    cc (fold_end mix_byte l.hash c.args.bytes.now l.b-index (search rules))
