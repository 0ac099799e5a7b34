-- `place_zone` packs a zone, or nothing without a size.
-- Rests on what its calls ensure.
use mathlib.Core.Bool.{true}
use mathlib.Core.Path.{◌≡◌}
use mathlib.Core.List.{flatten}
use Prim.Native.Nat.{◌≤◌}
use native.Mathlib.Omega.{arith}
use Rattle.laws.specs.Lists.{written}
use Rattle.glyphs.specs.Spots.{flat}
use Rattle.regions.specs.Ring.{sum}
use Rattle.discs.specs.Region.{placed_in}
use Rattle.discs.specs.Floor.{handed_at, pack_handed}
use Rattle.plan.specs.Placing.{place_for}
use Rattle.plan.proofs.zones.place_zone.Goals as goal

pub returns-in_default-clause-counted : goal.returns-in_default-clause-counted
unfolding place_for placed_in
returns-in_default-clause-counted c = rw c.in_default.is

pub returns-in_default-clause-spots : goal.returns-in_default-clause-spots
unfolding place_for flatten flat written
returns-in_default-clause-spots c = rw c.in_default.is

pub pack_region-requires : goal.pack_region-requires
unfolding handed_at
pack_region-requires c =
    let w = c.args.work.now in
    let few : sum c.region_at-region.result.quotas.now ≤ 2000 = rw c.region_at-region.ensures.quotas (c.requires.zone.few c.requires.left_in) in
    record {
      room = record { near = c.requires.near; second = omega (arith, few, w.room_second); flags = omega (arith, few, w.room_flags) };
      spots = omega (arith, few, w.room_spots);
    }

pub returns-clause-counted : goal.returns-clause-counted
unfolding place_for pack_handed handed_at
returns-clause-counted c =
    let r = c.region_at-region.ensures in
    rw c.in-Some.is (rw (r.key, r.pieces, r.quotas, r.deepest, c.context_at.ensures, c.pack_mode.ensures) at c.pack_region.ensures.placed.counted)

pub returns-clause-spots : goal.returns-clause-spots
unfolding place_for pack_handed handed_at
returns-clause-spots c =
    let r = c.region_at-region.ensures in
    let spreads : c.context_at.result.mode.spread ≡ true = rw (c.context_at.ensures, c.pack_mode.ensures) in
    rw c.in-Some.is (rw (r.key, r.pieces, r.quotas, r.deepest, c.context_at.ensures, c.pack_mode.ensures) at (c.pack_region.ensures.placed.spots spreads))
