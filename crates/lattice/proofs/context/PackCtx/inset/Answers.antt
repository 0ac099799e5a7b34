-- `inset` of a context is the source's product.
-- Rests on nothing else.
use Rattle.std.proofs.Common.{refl}
use Rattle.lattice.specs.Context.{inset}
use Rattle.lattice.proofs.context.PackCtx.inset.Goals as goal

pub returns : goal.returns
unfolding inset
returns c = refl
