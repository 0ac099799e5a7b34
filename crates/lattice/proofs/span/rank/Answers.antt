-- `rank` meets its contract: the difference from the least number.
-- Rests on `Signed.antt`.
use Rattle.std.proofs.Common.{ℤ, negsuc, ◌-ℤ◌, nat_abs, ap, ◌∙◌, w64}
use mir.ValLaws.{to_z-of_z}
use Rattle.lattice.proofs.Signed.{rank_is}
use Rattle.lattice.proofs.span.rank.Goals as goal

pub returns : goal.returns
returns c =
    c.abs_diff.ensures
    ∙ ap (λ (z : ℤ). nat_abs (z -ℤ negsuc 9223372036854775807)) (to_z-of_z w64 c.args.i c.ranges.i)
    ∙ rank_is c.args.i c.ranges.i
