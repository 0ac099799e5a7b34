-- `radical_inverse` refuses a base outside 2..65,536 and else answers.
-- Rests on what the layer's function ensures.
use mathlib.Core.Bool.{true, false}
use mathlib.Core.Path.{◌≡◌}
use native.Mathlib.Omega.{arith}
use Rattle.std.specs.Prelude.{◌||◌, ltb}
use Rattle.marks.specs.Leaves.{inverse_answer}
use Rattle.marks.proofs.leaves.radical_inverse.Goals as goal

pub returns-then-not-contains : goal.returns-then-not-contains
unfolding inverse_answer
returns-then-not-contains c =
    let f : (ltb c.args.base 2 || ltb 65536 c.args.base) ≡ true = grind arith in
    rw f

pub returns : goal.returns
unfolding inverse_answer
returns c =
    let f : (ltb c.args.base 2 || ltb 65536 c.args.base) ≡ false = grind arith in
    rw (f, c.radical_inverse.ensures)
