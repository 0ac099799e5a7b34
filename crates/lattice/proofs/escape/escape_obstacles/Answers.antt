-- `escape_obstacles` meets its contract: a clear anchor stays, and any other goes to the best exit, if there is one.
-- Rests on the contracts of its calls.
use Rattle.std.proofs.Common.{rules}
use Rattle.lattice.specs.Escape.{escape_obstacles}
use Rattle.lattice.proofs.escape.escape_obstacles.Goals as goal

pub returns-then-clear_of_obstacles : goal.returns-then-clear_of_obstacles
unfolding escape_obstacles
returns-then-clear_of_obstacles c = rw (← c.clear_of_obstacles.ensures, c.if-clear_of_obstacles.true)

pub returns : goal.returns
unfolding escape_obstacles
returns c =
    rw (← c.clear_of_obstacles.ensures, c.if-clear_of_obstacles.false, ← c.best_exit.ensures) (search rules)
