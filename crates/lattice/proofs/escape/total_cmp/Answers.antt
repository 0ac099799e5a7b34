-- `total_cmp` meets its contract: keys are compared.
-- Rests on the law that the library's answers are the definitions'.
use Rattle.lattice.specs.Keys.{key_cmp}
use Rattle.lattice.proofs.escape.total_cmp.Goals as goal

pub returns : goal.returns
returns c = key_cmp c.args.x c.args.y c.cmp.result (rw (← c.total_key.ensures, ← c.total_key-2.ensures) c.cmp.ensures)
