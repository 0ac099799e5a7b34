-- `ceiling_of` meets its contract, case by case.
-- Rests on what `analytic_r_hi` ensures.
use Rattle.discs.specs.Floor.{start}
use Rattle.discs.specs.FloorLaws.{rows_stand}
use Rattle.plan.specs.Sized.{ceiling_for}
use Rattle.plan.proofs.floor.ceiling_of.Goals as goal

pub returns-in-Stated : goal.returns-in-Stated
unfolding ceiling_for
returns-in-Stated c = rw c.in-Stated.is

pub analytic_r_hi-requires : goal.analytic_r_hi-requires
analytic_r_hi-requires c =
    let z = c.args.zones in
    rows_stand z.bytes.now z.layout.rings.now z.layout.sizes.now z.layout.points.now z.quotas.now z.deepest.now z.layout.rows.now start z.floor

pub returns-in-Auto : goal.returns-in-Auto
unfolding ceiling_for
returns-in-Auto c =
    let z = c.args.zones in
    rw (c.in-Auto.is, ← c.boundary_gap_of.ensures) (c.analytic_r_hi.ensures z.bytes.now z.quotas.now)
