-- `search_zones` finds the deepest points of all pieces. Invariant: those of the zones left are still to be found and put.
-- Rests on what its calls ensure and one turn of a walk over rows.
use mathlib.Core.Path.{◌≡◌, refl, sym, ap, ◌∙◌}
use Prim.Native.Nat.{◌+◌}
use native.Mathlib.Omega.{arith}
use lib.ListN.{length}
use lib.Seq.{sets, length-sets}
use Rattle.discs.specs.Floor.{Within}
use Rattle.discs.specs.ZoneWalk.{each_turn}
use Rattle.discs.specs.declared.rows.Offsets.{Offsets}
use Rattle.plan.specs.Walk.{never, no_room}
use Rattle.plan.specs.Rows.{fits_at, length_found_at, next_piece, flat_turn, all_turn, all_stop, flat_end, all_end}
use Rattle.plan.specs.Bundled.{zone_fits, zone_found}
use Rattle.plan.proofs.searches.search_zones.Goals as goal

pub search_zone-requires-clause-zone : goal.search_zone-requires-clause-zone
search_zone-requires-clause-zone c =
    let a = c.args.job.layout in
    let e = c.loop-zone.invariant.0 in
    let step = rw e at c.in-Some.ensures.steps.step in
    (each_turn (Within a.rings.now a.sizes.now a.points.now) step (rw e at c.loop-zone.zone-iterator.within)).0

pub returns-in_err-search_zone : goal.returns-in_err-search_zone
unfolding fits_at
returns-in_err-search_zone c =
    let i = c.loop-zone.invariant in
    let a = c.args in
    let e = no_room _ c.from_residual.ensures.0 in
    let step = rw i.0 at c.in-Some.ensures.steps.step in
    let f = sym c.in_err-search_zone.ensures.fits in
    record {
      fits = e ∙ sym (all_stop step (zone_fits a.job.layout a.job.options a.quotas.now) f i.2);
      put = λ t. absurd (never (sym e ∙ t));
    }

pub loop-zone-preserved : goal.loop-zone-preserved
unfolding fits_at
loop-zone-preserved c =
    let l = c.loop-zone in
    let i = l.invariant in
    let a = c.args.job.layout in
    let options = c.args.job.options in
    let quotas = c.args.quotas.now in
    let rings = a.rings.now in
    let sizes = a.sizes.now in
    let points = a.points.now in
    let zone = c.in-Some.zone in
    let steps = c.in-Some.ensures.steps in
    let step = rw i.0 at steps.step in
    let t = each_turn (Within rings sizes points) step (rw i.0 at l.zone-iterator.within) in
    let test = zone_fits a options quotas in
    let view = zone_found a options quotas in
    let f = sym c.in_ok-search_zone.ensures.fits in
    let long = length_found_at rings sizes points zone.row zone.at t.0.pieces options quotas (omega (arith, t.0.pieces, c.requires.quotas)) in
    let from : l.zone-iterator.at.piece ≡ zone.at.piece = ap (λ (o : Offsets). o.piece) step.here in
    let put : c.search_zone.new.deepest ≡ sets l.deepest l.zone-iterator.at.piece (view zone.row zone.at) = rw from (c.in_ok-search_zone.ensures.put refl) in
    let far : zone.at.piece + zone.row.pieces ≡ l.zone-iterator.at.piece + length (view zone.row zone.at) = omega (arith, from, long) in (
      steps.layout ∙ i.0,
      rw put (length-sets l.deepest l.zone-iterator.at.piece (view zone.row zone.at) ∙ i.1),
      all_turn step test f i.2,
      flat_turn step view l.deepest _ l.zone-iterator.at.piece _ (next_piece step ∙ far) put i.3,
    )

pub returns : goal.returns
returns c =
    let l = c.loop-zone in
    let i = l.invariant in
    let a = c.args.job.layout in
    let rings = a.rings.now in
    let sizes = a.sizes.now in
    let left = l.zone-iterator in
    let over = c.in-None.ensures.steps.0 in
    let test = zone_fits a c.args.job.options c.args.quotas.now in
    let view = zone_found a c.args.job.options c.args.quotas.now in
    record {
      fits = sym (all_end rings sizes left.rows.now left.at over test i.2);
      put = λ e. sym (flat_end rings sizes left.rows.now left.at over view l.deepest left.at.piece i.3);
    }
