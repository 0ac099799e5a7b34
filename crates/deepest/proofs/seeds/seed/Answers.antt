-- `seed` meets its contract. The invariant: the cells that wait are those of the grid up to the corner. The measure is the room.
-- Rests on the laws of the grid.
use Rattle.std.proofs.Common.{◌<◌, length, ◌∙◌, refl, arith}
use Rattle.deepest.specs.Plant.{plant_start, plant_over, plant_step, plant_end}
use Rattle.deepest.specs.Turns.{entered}
use Rattle.deepest.proofs.seeds.seed.Goals as goal

pub loop-next-init : goal.loop-next-init
loop-next-init c = (refl, refl, rw (c.requires.0, c.requires.1), refl, rw (c.requires.0, c.first_corner-next.ensures) (plant_start _ _ _ _ _ _))

pub returns-then-room-eq0 : goal.returns-then-room-eq0
returns-then-room-eq0 c =
    let l = c.loop-next in
    let i = l.invariant in
    record {
      full = plant_over _ _ _ _ _ _ _ _ (rw c.in-Some.is at i.4) (omega (arith, i.0, c.room.ensures.places, c.if-room-eq0.true));
      halves = i.1;
      long = i.0;
      same = i.3;
    }

pub push-requires-clause-early : goal.push-requires-clause-early
push-requires-clause-early c = omega (arith, c.loop-next.invariant.2, c.room.ensures.few)

pub loop-next-smaller : goal.loop-next-smaller
loop-next-smaller c = omega (arith, c.loop-next.invariant.0, c.room.ensures.places, c.push.ensures.len)

pub loop-next-preserved : goal.loop-next-preserved
loop-next-preserved c =
    let i = c.loop-next.invariant in
    let w = c.push.ensures in
    let e = rw (i.1, i.2) at (entered _ _ _ _ _ _ _ _ _ _ c.signed_clearance-d.ensures w.pushed) in
    let more : c.loop-next.waiting.len < length c.args.waiting.now.cells.now = omega (arith, i.0, c.room.ensures.places, c.if-room-eq0.false) in (
      e.long ∙ i.0,
      w.halves ∙ i.1,
      rw (w.len, w.entered, i.2),
      w.same ∙ i.3,
      rw (c.next_corner-next.ensures, w.len)
          (plant_step _ _ _ _ _ _ _ _ (rw c.in-Some.is at i.4) _ _ _ more (rw c.half-h0.ensures) (rw c.half-h0.ensures) e),
    )

pub returns : goal.returns
returns c =
    let i = c.loop-next.invariant in
    record {
      planted = plant_end _ _ _ _ _ _ _ (rw c.in_default.is at i.4);
      halves = i.1;
      long = i.0;
      same = i.3;
      entered = i.2;
    }
