-- `append` meets its contract. The invariant: the first `k` floats are copied.
-- Rests on the kit's laws of a copy.
use Rattle.std.proofs.Common.{◌+◌, ◌*◌, List, get_or, set, refl, ap, ◌∙◌, arith, length-set}
use Rattle.std.proofs.lemmas.List.Edits.{paste_more}
use lib.Ieee.{Float, nan}
use Rattle.lattice.proofs.spread.append.Goals as goal

pub loop-k-preserved : goal.loop-k-preserved
loop-k-preserved c =
    let l = c.loop-k in
    let a = c.args in (
      refl,
      simp length-set l.invariant.1,
      ap (λ (t : List Float). set t (a.at * 2 + l.k) (get_or a.cells.now l.k nan)) l.invariant.2
          ∙ paste_more a.spots.now (a.at * 2) a.cells.now l.k nan (omega arith) (omega arith),
    )
