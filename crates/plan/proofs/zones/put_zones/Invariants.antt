-- `put_zones` packs and writes the zones left in. Invariant: those left are still to be put, and there is room for them.
-- Rests on what its calls ensure and one turn of a walk over rows.
use mathlib.Core.Path.{◌≡◌}
use Prim.Native.Nat.{◌+◌, ◌≤◌}
use lib.ListN.{length}
use lib.Seq.{sets}
use Rattle.discs.specs.Floor.{EachRow}
use Rattle.discs.specs.Bundles.{IsPackable, SameWork}
use Rattle.job.specs.Job.{rows_room}
use Rattle.plan.specs.Rows.{flat_rows}
use Rattle.plan.specs.Bundled.{zone_placed, zone_bytes, ZoneFair, all_placed, all_bytes}
use Rattle.plan.proofs.zones.put_zones.Given as goal

abbrev pub invariant-loop-zone : goal.invariant-loop-zone
invariant-loop-zone l =
    let rings = l.zones.layout.rings.now in
    let sizes = l.zones.layout.sizes.now in
    let left = l.zone-iterator in
    let bytes_left = flat_rows rings sizes (zone_bytes l.setting l.zones) left.rows.now left.at in
    let zones_left = flat_rows rings sizes (zone_placed l.setting l.zones) left.rows.now left.at in
    let w = l.initial.writer in
    (left.layout ≡ l.zones.layout)
    × SameWork l.initial.work l.work
    × (l.writer.sheet.ghost_name ≡ w.sheet.ghost_name)
    × (length l.writer.sheet.now ≡ length w.sheet.now)
    × EachRow rings sizes (IsPackable l.zones) left.rows.now left.at
    × EachRow rings sizes (ZoneFair l.setting l.zones) left.rows.now left.at
    × (l.writer.at + rows_room left.rows.now ≤ w.at + rows_room l.zones.layout.rows.now)
    × (w.at + length (all_bytes l.setting l.zones) ≡ l.writer.at + length bytes_left)
    × (w.zones + length (all_placed l.setting l.zones) ≡ l.writer.zones + length zones_left)
    × (sets w.sheet.now w.at (all_bytes l.setting l.zones) ≡ sets l.writer.sheet.now l.writer.at bytes_left)
