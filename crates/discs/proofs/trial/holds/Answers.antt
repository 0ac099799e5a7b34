-- `holds` meets its contract: a zone that is left out holds its marks.
-- Rests on the contract of the zone's packing.
use Rattle.std.proofs.Common.{◌≤◌, sym, ◌∙◌, arith}
use Rattle.regions.specs.Ring.{sum}
use Rattle.discs.specs.Floor.{handed_at, pack_handed, holds_all}
use Rattle.discs.specs.Walk.{holding}
use Rattle.discs.proofs.Zones.{left_in}
use Rattle.discs.proofs.trial.holds.Goals as goal

pub returns-then-not-is_left_in-clause-held : goal.returns-then-not-is_left_in-clause-held
unfolding holding
returns-then-not-is_left_in-clause-held c =
    let z = c.args.zones in
    let h = c.requires.packable.stands in
    rw (
      left_in z.bytes.now z.layout.rings.now z.layout.sizes.now z.layout.points.now z.quotas.now z.deepest.now c.args.zone.row c.args.zone.at h.pieces,
      ← c.is_left_in.ensures,
      c.if-not-is_left_in.true,
    )

pub pack_region-placed-requires : goal.pack_region-placed-requires
unfolding handed_at
pack_region-placed-requires c =
    let w = c.args.work.now in
    let left = sym c.is_left_in.ensures ∙ c.if-not-is_left_in.false in
    let few : sum c.region_at-region.result.quotas.now ≤ 2000 = rw c.region_at-region.ensures.quotas (c.requires.packable.few left) in
    record {
      room = record { near = c.requires.near; second = omega (arith, few, w.room_second); flags = omega (arith, few, w.room_flags) };
      spots = omega (arith, few, w.room_spots);
    }

pub returns-clause-held : goal.returns-clause-held
unfolding holding holds_all pack_handed handed_at
returns-clause-held c =
    let z = c.args.zones in
    let h = c.requires.packable.stands in
    let region = c.region_at-region.ensures in
    rw (
      left_in z.bytes.now z.layout.rings.now z.layout.sizes.now z.layout.points.now z.quotas.now z.deepest.now c.args.zone.row c.args.zone.at h.pieces,
      ← c.is_left_in.ensures,
      c.if-not-is_left_in.false,
      c.pack_region-placed.ensures.placed.counted,
      region.key,
      region.pieces,
      region.quotas,
      region.deepest,
    )
