-- `share_zone` writes the quotas of the zone that a row names.
-- Rests on what `share_pieces` ensures and on the parts of slices that are lent.
use mathlib.Core.Path.{◌≡◌, ◌∙◌}
use native.Mathlib.Omega.{arith}
use Rattle.plan.specs.Rows.{shares_at, part_put, length_shares}
use Rattle.plan.proofs.shares.share_zone.Goals as goal

pub returns : goal.returns
unfolding shares_at
returns c =
    let a = c.args in
    let r = c.requires.zone in
    let shares : c.share_pieces.new.quotas ≡ shares_at a.job.layout.rings.now a.job.layout.sizes.now a.job.layout.points.now a.zone.row a.zone.at =
    c.share_pieces.ensures ∙ rw c.pieces.ensures.pieces in
    let long = length_shares a.job.layout.rings.now a.job.layout.sizes.now a.job.layout.points.now a.zone.row a.zone.at r.ringed in
    rw shares (part_put a.quotas.now _ a.zone.at.piece a.zone.row.pieces long (omega (arith, r.ringed, c.requires.room)))
