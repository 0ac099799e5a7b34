-- discs.rs, `PackCtx`: inset and spacing. Definitions only.
use Rattle.std.specs.Prelude.{Float}
use Rattle.float.specs.Ops.{◌+ᶠ◌, ◌*ᶠ◌, 1ᶠ, 2ᶠ}
use Rattle.lattice.specs.declared.context.PackCtx.{PackCtx}

unfoldable pub inset : PackCtx → Float
inset ctx = ctx.r *ᶠ (1ᶠ +ᶠ ctx.boundary_gap)

unfoldable pub spacing : PackCtx → Float
spacing ctx = 2ᶠ *ᶠ ctx.r *ᶠ (1ᶠ +ᶠ ctx.gap)
