-- `anchor_of` meets its contract: the deepest point where no obstacle is near, else where it escapes to.
-- Rests on the contract of `escape_obstacles`.
use Rattle.std.proofs.Common.{sym, ◌∙◌}
use Rattle.lattice.specs.Uniform.{anchor_of}
use Rattle.lattice.proofs.uniform.anchor_of.Goals as goal

pub returns-then-is_empty : goal.returns-then-is_empty
unfolding anchor_of
returns-then-is_empty c = rw (sym c.is_empty.ensures ∙ c.if-is_empty.true)

pub returns : goal.returns
unfolding anchor_of
returns c = rw (sym c.is_empty.ensures ∙ c.if-is_empty.false) c.escape_obstacles.ensures
