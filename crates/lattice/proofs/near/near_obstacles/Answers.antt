-- `near_obstacles` meets its contract. The invariant: the near ones are those written and those of what is left.
-- Rests on the law of a list filtered in turn.
use Rattle.std.proofs.Common.{◌+◌, Bool, List, ◌++◌, drop, sym, refl, ap, ◌∙◌, arith, length-set}
use Rattle.glyphs.specs.declared.rect.Rectangle.{Rectangle}
use Rattle.glyphs.specs.Rect.{filter, near, obstacles_near}
use Rattle.lattice.specs.Near.{filter_kept, filter_left, filter_none, one_written}
use Rattle.lattice.proofs.near.near_obstacles.Goals as goal
use Rattle.lattice.proofs.near.near_obstacles.Goals.{then-is_near, else-is_near}

pub loop-rect-init : goal.loop-rect-init
unfolding obstacles_near
loop-rect-init c = (omega arith, refl, refl)

pub loop-rect-preserved : goal.loop-rect-preserved
loop-rect-preserved c =
    let l = c.loop-rect in
    let a = c.args in
    let e = a.extents in
    let f : Rectangle → Bool = λ (rect : Rectangle). near rect a.inset e.min_x e.max_x e.min_y e.max_y in
    let rest = filter f (drop (l.rect-index + 1) a.obstacles.now) in
    elim c.if-is_near.branch [
      | then-is_near w ↦
          rw (w.m-is, w.out-is) (
            omega (arith, l.invariant.0),
            length-set _ _ _ ∙ l.invariant.1,
            ap (λ (xs : List Rectangle). xs ++ rest) (one_written l.out l.m _ (omega (arith, l.invariant.0, l.invariant.1, c.requires, c.loop-rect-test.true)))
                ∙ sym (filter_kept f a.obstacles.now l.rect-index _ _ c.loop-rect-test.true (sym c.is_near.ensures ∙ w.if-is_near.true))
                ∙ l.invariant.2,
          )
      | else-is_near w ↦
          rw (w.m-is, w.out-is) (
            omega (arith, l.invariant.0),
            l.invariant.1,
            sym (filter_left f a.obstacles.now l.rect-index _ _ c.loop-rect-test.true (sym c.is_near.ensures ∙ w.if-is_near.false)) ∙ l.invariant.2,
          )
    ]

pub returns-clause-near : goal.returns-clause-near
returns-clause-near c =
    let l = c.loop-rect in
    sym (filter_none _ c.args.obstacles.now l.rect-index _ c.loop-rect-test.false) ∙ l.invariant.2
