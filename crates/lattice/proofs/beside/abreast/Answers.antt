-- `abreast` meets its contract.
-- Rests on the contract of `beyond`.
use Rattle.lattice.specs.Beside.{abreast}
use Rattle.lattice.proofs.beside.abreast.Goals as goal

pub returns : goal.returns
unfolding abreast
returns c = rw c.beyond-dy.ensures
