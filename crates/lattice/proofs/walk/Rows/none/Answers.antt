-- `Rows::none` meets its contract: no cells are left.
-- Rests on the law that none are where none may be visited.
use Rattle.std.proofs.Common.{ap}
use Rattle.lattice.specs.Rows.{joined}
use Rattle.lattice.specs.Walk.{none_from}
use Rattle.lattice.proofs.walk.Rows.none.Goals as goal

pub returns : goal.returns
returns c = ap joined (none_from c.args.field _ 0 1)
