-- `put_row` packs and writes a zone where it is left in.
-- Rests on what its calls ensure, and on the bytes of a zone.
use mathlib.Core.Path.{sym, ap, ◌∙◌}
use mathlib.Core.List.{flatten}
use native.Mathlib.Omega.{arith}
use borrow.Author.Rules.{rules}
use lib.ListN.{length}
use Rattle.laws.specs.Lists.{length_written}
use Rattle.glyphs.specs.Spots.{flat}
use Rattle.discs.specs.Joined.{length_joined}
use Rattle.plan.specs.Placing.{Fair}
use Rattle.plan.specs.Bundled.{zone_spots}
use Rattle.plan.specs.Bytes.{room_in, bytes_count, bytes_out, none_out, one_in, bytes_in}
use Rattle.plan.proofs.zones.put_row.Goals as goal

pub returns-then-not-is_left_in-clause-put : goal.returns-then-not-is_left_in-clause-put
returns-then-not-is_left_in-clause-put c =
    let a = c.args in
    let p = a.setting.packing in
    let n = a.zones in
    let e = sym c.is_left_in.ensures ∙ c.if-not-is_left_in.true in
    let none =
    none_out p.numbers a.setting.size p.options p.obstacles.now
    n.bytes.now n.layout.rings.now n.layout.sizes.now n.layout.points.now n.quotas.now n.deepest.now a.zone.row a.zone.at e in
    rw none
    (bytes_out p.numbers a.setting.size p.options p.obstacles.now
    n.bytes.now n.layout.rings.now n.layout.sizes.now n.layout.points.now n.quotas.now n.deepest.now a.zone.row a.zone.at a.writer.now e)

pub put_placement-requires : goal.put_placement-requires
unfolding Fair
put_placement-requires c =
    let a = c.args in
    let p = c.requires in
    let e = sym c.is_left_in.ensures ∙ c.if-not-is_left_in.false in
    let z = c.place_zone-placed.ensures in
    let all = zone_spots a.setting a.zones a.zone.row a.zone.at in
    let most = p.fair e in
    let room = a.work.now.room_spots in
    let long =
    ap length z.spots
    ∙ length_written (flat (flatten all)) a.work.now.spots.now (omega (arith, length_joined all, most, p.zone.stands.marks, room)) in
    record {
      room = omega (arith, z.counted, most, p.room, room_in a.zone.row e);
      key = p.zone.key;
      placed = omega (arith, z.counted, most);
      spots = omega (arith, z.counted, most, long, p.zone.stands.marks, room);
    }

pub returns : goal.returns
unfolding Fair
returns c =
    let a = c.args in
    let n = a.zones in
    let k = a.setting.packing in
    let p = c.requires in
    let e = sym c.is_left_in.ensures ∙ c.if-not-is_left_in.false in
    let z = c.place_zone-placed.ensures in
    let all = zone_spots a.setting a.zones a.zone.row a.zone.at in
    let most = p.fair e in
    let room = a.work.now.room_spots in
    let long =
    ap length z.spots
    ∙ length_written (flat (flatten all)) a.work.now.spots.now (omega (arith, length_joined all, most, p.zone.stands.marks, room)) in
    let same =
    bytes_in k.numbers a.setting.size k.options k.obstacles.now
    n.bytes.now n.layout.rings.now n.layout.sizes.now n.layout.points.now n.quotas.now n.deepest.now a.zone.row a.zone.at
    c.place_zone-placed.result a.work.now.spots.now _ e z.counted z.spots in
    let b =
    bytes_count k.numbers a.setting.size k.options k.obstacles.now
    n.bytes.now n.layout.rings.now n.layout.sizes.now n.layout.points.now n.quotas.now n.deepest.now a.zone.row a.zone.at
    c.place_zone-placed.result a.work.now.spots.now _ e z.counted z.spots p.zone.key
    (omega (arith, z.counted, most, long, p.zone.stands.marks, room)) in
    let one =
    one_in k.numbers a.setting.size k.options k.obstacles.now
    n.bytes.now n.layout.rings.now n.layout.sizes.now n.layout.points.now n.quotas.now n.deepest.now a.zone.row a.zone.at e in
    let w = rw (same, ← one) at c.put_placement.ensures in
    record {
      put = w;
      room = omega (arith, w.at, b, z.counted, most, room_in a.zone.row e);
      same = record { lent = z.same.lent; spots = z.same.spots; spots_long = search rules };
    }
