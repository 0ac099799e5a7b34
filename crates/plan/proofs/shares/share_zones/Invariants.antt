-- `share_zones` writes the quotas of all pieces. Invariant: those of the zones left are still to be put.
-- Rests on one turn of a walk over rows.
use mathlib.Core.Path.{◌≡◌}
use lib.ListN.{length}
use lib.Seq.{sets}
use Rattle.discs.specs.Floor.{EachRow}
use Rattle.plan.specs.Rows.{Readable, flat_rows}
use Rattle.plan.specs.Bundled.{zone_shares, all_shares}
use Rattle.plan.proofs.shares.share_zones.Given as goal

abbrev pub invariant-loop-zone : goal.invariant-loop-zone
invariant-loop-zone l =
    let rings = l.job.layout.rings.now in
    let sizes = l.job.layout.sizes.now in
    let left = l.zone-iterator in
    (left.layout ≡ l.job.layout)
    × (length l.quotas ≡ length l.initial.quotas)
    × EachRow rings sizes (Readable rings sizes l.job.layout.points.now) left.rows.now left.at
    × (sets l.initial.quotas 0 (all_shares l.job.layout) ≡ sets l.quotas left.at.piece (flat_rows rings sizes (zone_shares l.job.layout) left.rows.now left.at))
