-- `spacing` of a context is the source's product.
-- Rests on nothing else.
use Rattle.std.proofs.Common.{refl}
use Rattle.lattice.specs.Context.{spacing}
use Rattle.lattice.proofs.context.PackCtx.spacing.Goals as goal

pub returns : goal.returns
unfolding spacing
returns c = refl
