-- `analytic_r_hi` meets its contract. The invariant: the answer is that of the zones left, from `r_hi` on.
-- Rests on a turn over zones.
use Rattle.std.proofs.Common.{sym, ap, ◌∙◌, arith}
use Rattle.glyphs.specs.Rect.{infinite}
use Rattle.discs.specs.Radius.{if_positive}
use Rattle.discs.specs.Floor.{handed_r_hi, handed_at, lowered_by, Stands}
use Rattle.discs.specs.FloorLaws.{stands_within}
use Rattle.discs.specs.Walk.{lowering}
use Rattle.discs.specs.ZoneWalk.{each_turn}
use Rattle.discs.proofs.Zones.{part_is, left_in, ceiling_turn, handed_end}
use Rattle.discs.proofs.ceiling.analytic_r_hi.Goals as goal

pub loop-zone-init : goal.loop-zone-init
loop-zone-init c =
    let w = c.walk-zone-items.ensures in
    rw c.into_iter-zone-iterator.ensures.into_iter_gives
    (w.layout, rw (w.rows, w.at) c.requires, λ s quotas. rw (infinite, w.rows, w.at))

pub overflow_add-q : goal.overflow_add-q
overflow_add-q c =
    let i = c.loop-zone.invariant in
    let step = rw i.0 at c.in-Some.ensures.steps.step in
    omega (arith, (each_turn _ step i.1).0.pieces)

pub pieces-pieces-requires : goal.pieces-pieces-requires
pieces-pieces-requires c =
    let i = c.loop-zone.invariant in
    let step = rw i.0 at c.in-Some.ensures.steps.step in
    stands_within (each_turn _ step i.1).0

pub offset_bounds-deepest-p : goal.offset_bounds-deepest-p
offset_bounds-deepest-p c =
    let i = c.loop-zone.invariant in
    let step = rw i.0 at c.in-Some.ensures.steps.step in
    omega (arith, (each_turn _ step i.1).0.found)

pub slice_bounds-lowered_by-end : goal.slice_bounds-lowered_by-end
slice_bounds-lowered_by-end c =
    let i = c.loop-zone.invariant in
    let step = rw i.0 at c.in-Some.ensures.steps.step in
    omega (arith, (each_turn _ step i.1).0.found)

pub lowered_by-r_hi-requires : goal.lowered_by-r_hi-requires
lowered_by-r_hi-requires c =
    let i = c.loop-zone.invariant in
    let step = rw i.0 at c.in-Some.ensures.steps.step in
    (each_turn _ step i.1).0.marks

pub loop-zone-preserved : goal.loop-zone-preserved
unfolding lowering lowered_by handed_at
loop-zone-preserved c =
    let l = c.loop-zone in
    let i = l.invariant in
    let a = c.args in
    let all = a.layout in
    let zone = c.in-Some.zone in
    let steps = c.in-Some.ensures.steps in
    let step = rw i.0 at steps.step in
    let turned = each_turn (Stands all.rings.now all.sizes.now all.points.now a.deepest.now) step i.1 in (
      steps.layout ∙ i.0,
      turned.1,
      λ s quotas.
          i.2 s quotas
          ∙ ceiling_turn s all.rings.now all.sizes.now all.points.now quotas a.deepest.now step a.gap l.r_hi
          (c.lowered_by-r_hi.ensures
          ∙ rw (
            left_in s all.rings.now all.sizes.now all.points.now quotas a.deepest.now zone.row zone.at turned.0.pieces,
            c.pieces-pieces.ensures.pieces,
            part_is zone.at.piece zone.row.pieces a.deepest.now,
          )),
    )

pub returns : goal.returns
unfolding handed_r_hi
returns c =
    let l = c.loop-zone in
    λ s quotas.
    c.if_positive.ensures ∙ ap if_positive (sym (l.invariant.2 s quotas ∙ rw (handed_end _ _ _ _ _ _ _ _ c.in-None.ensures.steps.0)))
