-- `put_zones` packs and writes the zones left in. Invariant: those left are still to be put, and there is room for them.
-- Rests on what its calls ensure and one turn of a walk over rows.
use mathlib.Core.Path.{sym, ◌∙◌}
use native.Mathlib.Omega.{arith}
use lib.Seq.{length-sets}
use Rattle.discs.specs.Bundles.{IsPackable, work_on}
use Rattle.discs.specs.ZoneWalk.{each_turn}
use Rattle.plan.specs.Rows.{flat_turn, flat_end, length_turn, length_end, rooms_turn}
use Rattle.plan.specs.Bundled.{zone_placed, zone_bytes, ZoneFair}
use Rattle.plan.proofs.zones.put_zones.Goals as goal

pub put_row-requires-clause-zone : goal.put_row-requires-clause-zone
put_row-requires-clause-zone c =
    let i = c.loop-zone.invariant in
    (each_turn (IsPackable c.args.zones) (rw i.0 at c.in-Some.ensures.steps.step) i.4).0

pub put_row-requires-clause-fair : goal.put_row-requires-clause-fair
put_row-requires-clause-fair c =
    let i = c.loop-zone.invariant in
    (each_turn (ZoneFair c.args.setting c.args.zones) (rw i.0 at c.in-Some.ensures.steps.step) i.5).0

pub put_row-requires-clause-room : goal.put_row-requires-clause-room
put_row-requires-clause-room c =
    let i = c.loop-zone.invariant in
    let step = rw i.0 at c.in-Some.ensures.steps.step in
    omega (arith, rooms_turn step, i.3, i.6, c.requires.room)

pub loop-zone-preserved : goal.loop-zone-preserved
loop-zone-preserved c =
    let l = c.loop-zone in
    let i = l.invariant in
    let n = c.args.zones in
    let zone = c.in-Some.zone in
    let steps = c.in-Some.ensures.steps in
    let step = rw i.0 at steps.step in
    let t = each_turn (IsPackable n) step i.4 in
    let f = each_turn (ZoneFair c.args.setting n) step i.5 in
    let r = rooms_turn step in
    let p = c.put_row.ensures in
    let w = l.writer in
    let bytes = zone_bytes c.args.setting n in
    let ps = zone_placed c.args.setting n in (
      steps.layout ∙ i.0,
      work_on i.1 p.same,
      p.put.same ∙ i.2,
      rw p.put.put (length-sets w.sheet.now w.at (bytes zone.row zone.at) ∙ i.3),
      t.1,
      f.1,
      omega (arith, r, p.room, i.6),
      length_turn step bytes w.at _ p.put.at i.7,
      length_turn step ps w.zones _ p.put.zones i.8,
      flat_turn step bytes w.sheet.now _ w.at _ p.put.at p.put.put i.9,
    )

pub returns-clause-put : goal.returns-clause-put
returns-clause-put c =
    let l = c.loop-zone in
    let i = l.invariant in
    let n = c.args.zones in
    let rings = n.layout.rings.now in
    let sizes = n.layout.sizes.now in
    let rows = l.zone-iterator.rows.now in
    let at = l.zone-iterator.at in
    let over = c.in-None.ensures.steps.0 in
    let bytes = zone_bytes c.args.setting n in
    let ps = zone_placed c.args.setting n in
    record {
      same = i.2;
      put = sym (flat_end rings sizes rows at over bytes l.writer.sheet.now l.writer.at i.9);
      at = sym (length_end rings sizes rows at over bytes l.writer.at i.7);
      zones = sym (length_end rings sizes rows at over ps l.writer.zones i.8);
    }
