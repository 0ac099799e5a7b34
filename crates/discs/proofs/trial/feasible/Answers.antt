-- `feasible` meets its contract. The invariant: the answer is that of the zones left.
-- Rests on a turn over zones.
use Rattle.std.proofs.Common.{sym, refl, ◌∙◌}
use Rattle.laws.specs.Any.{all}
use Rattle.discs.specs.Radius.{context_at, probe}
use Rattle.discs.specs.Floor.{handed_feasible}
use Rattle.discs.specs.Bundles.{IsPackable, work_on, work_same}
use Rattle.discs.specs.ZoneWalk.{each_turn}
use Rattle.discs.proofs.Zones.{trial_turn, handed_end}
use Rattle.discs.proofs.trial.feasible.Goals as goal

pub loop-zone-init : goal.loop-zone-init
unfolding handed_feasible
loop-zone-init c =
    let w = c.walk-zone-items.ensures in
    rw c.into_iter-zone-iterator.ensures.into_iter_gives
    (w.layout, rw (w.rows, w.at) c.args.zones.floor, work_same c.args.work.now, rw (w.rows, w.at) refl)

pub holds-requires-clause-packable : goal.holds-requires-clause-packable
holds-requires-clause-packable c =
    let i = c.loop-zone.invariant in
    let step = rw i.0 at c.in-Some.ensures.steps.step in
    (each_turn (IsPackable c.args.zones) step i.1).0

pub returns-then-not-holds-clause-fits : goal.returns-then-not-holds-clause-fits
returns-then-not-holds-clause-fits c =
    let l = c.loop-zone in
    let p = c.args.packing in
    let ctx = context_at p.options probe c.args.r in
    let step = rw l.invariant.0 at c.in-Some.ensures.steps.step in
    let held = rw c.context_at.ensures at c.holds.ensures.held in
    sym (l.invariant.3
    ∙ trial_turn _ _ _ _ _ _ step p.numbers p.options ctx p.obstacles.now held
    ∙ rw c.if-not-holds.true)

pub loop-zone-preserved : goal.loop-zone-preserved
loop-zone-preserved c =
    let l = c.loop-zone in
    let p = c.args.packing in
    let ctx = context_at p.options probe c.args.r in
    let steps = c.in-Some.ensures.steps in
    let step = rw l.invariant.0 at steps.step in
    let held = rw c.context_at.ensures at c.holds.ensures.held in (
      steps.layout ∙ l.invariant.0,
      (each_turn (IsPackable c.args.zones) step l.invariant.1).1,
      work_on l.invariant.2 c.holds.ensures.same,
      l.invariant.3
          ∙ trial_turn _ _ _ _ _ _ step p.numbers p.options ctx p.obstacles.now held
          ∙ rw c.if-not-holds.false,
    )

pub returns-clause-fits : goal.returns-clause-fits
unfolding all
returns-clause-fits c = sym (c.loop-zone.invariant.3 ∙ rw (handed_end _ _ _ _ _ _ _ _ c.in-None.ensures.steps.0))
