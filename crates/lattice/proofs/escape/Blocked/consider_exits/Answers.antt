-- `consider_exits` meets its contract: the four exits in the source's order.
-- Rests on the contract of `consider`.
use Rattle.lattice.specs.Escape.{exits}
use Rattle.lattice.proofs.escape.Blocked.consider_exits.Goals as goal

pub returns : goal.returns
unfolding exits
returns c = rw (c.consider.ensures, c.consider-three.ensures, c.consider-two.ensures, c.consider-one.ensures)
