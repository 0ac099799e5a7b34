-- `share_zones` writes the quotas of all pieces. Invariant: those of the zones left are still to be put.
-- Rests on what its calls ensure and one turn of a walk over rows.
use mathlib.Core.Path.{◌≡◌, sym, ap, ◌∙◌}
use Prim.Native.Nat.{◌+◌}
use native.Mathlib.Omega.{arith}
use lib.ListN.{length}
use lib.Seq.{sets, length-sets}
use Rattle.discs.specs.ZoneWalk.{each_turn}
use Rattle.discs.specs.declared.rows.Offsets.{Offsets}
use Rattle.plan.specs.Rows.{Readable, length_shares, next_piece, flat_turn, flat_end}
use Rattle.plan.specs.Bundled.{zone_shares}
use Rattle.plan.proofs.shares.share_zones.Goals as goal

pub share_zone-requires-clause-zone : goal.share_zone-requires-clause-zone
share_zone-requires-clause-zone c =
    let i = c.loop-zone.invariant in
    let a = c.args.job.layout in
    let step = rw i.0 at c.in-Some.ensures.steps.step in
    (each_turn (Readable a.rings.now a.sizes.now a.points.now) step i.2).0

pub loop-zone-preserved : goal.loop-zone-preserved
loop-zone-preserved c =
    let l = c.loop-zone in
    let i = l.invariant in
    let a = c.args.job.layout in
    let rings = a.rings.now in
    let sizes = a.sizes.now in
    let zone = c.in-Some.zone in
    let steps = c.in-Some.ensures.steps in
    let step = rw i.0 at steps.step in
    let t = each_turn (Readable rings sizes a.points.now) step i.2 in
    let view = zone_shares a in
    let long = length_shares rings sizes a.points.now zone.row zone.at t.0.ringed in
    let from : l.zone-iterator.at.piece ≡ zone.at.piece = ap (λ (o : Offsets). o.piece) step.here in
    let put : c.share_zone.new.quotas ≡ sets l.quotas l.zone-iterator.at.piece (view zone.row zone.at) = rw from c.share_zone.ensures in
    let far : zone.at.piece + zone.row.pieces ≡ l.zone-iterator.at.piece + length (view zone.row zone.at) = omega (arith, from, long) in (
      steps.layout ∙ i.0,
      rw put (length-sets l.quotas l.zone-iterator.at.piece (view zone.row zone.at) ∙ i.1),
      t.1,
      flat_turn step view l.quotas _ l.zone-iterator.at.piece _ (next_piece step ∙ far) put i.3,
    )

pub returns : goal.returns
returns c =
    let l = c.loop-zone in
    let i = l.invariant in
    let a = c.args.job.layout in
    let left = l.zone-iterator in
    sym (flat_end a.rings.now a.sizes.now left.rows.now left.at c.in-None.ensures.steps.0 (zone_shares a) l.quotas left.at.piece i.3)
