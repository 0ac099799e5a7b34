-- `search_zones` finds the deepest points of all pieces. Invariant: those of the zones left are still to be found and put.
-- Rests on one turn of a walk over rows.
use mathlib.Core.Path.{◌≡◌}
use lib.ListN.{length}
use lib.Seq.{sets}
use Rattle.plan.specs.Rows.{flat_rows, all_rows}
use Rattle.plan.specs.Bundled.{zone_fits, zone_found, all_fit, all_found}
use Rattle.plan.proofs.searches.search_zones.Given as goal

abbrev pub invariant-loop-zone : goal.invariant-loop-zone
invariant-loop-zone l =
    let rings = l.job.layout.rings.now in
    let sizes = l.job.layout.sizes.now in
    let left = l.zone-iterator in
    (left.layout ≡ l.job.layout)
    × (length l.deepest ≡ length l.initial.deepest)
    × (all_fit l.job.layout l.job.options l.quotas ≡ all_rows rings sizes (zone_fits l.job.layout l.job.options l.quotas) left.rows.now left.at)
    × (sets l.initial.deepest 0 (all_found l.job.layout l.job.options l.quotas)
    ≡ sets l.deepest left.at.piece (flat_rows rings sizes (zone_found l.job.layout l.job.options l.quotas) left.rows.now left.at))
