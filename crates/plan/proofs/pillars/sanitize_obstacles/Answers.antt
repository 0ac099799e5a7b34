-- `sanitize_obstacles` meets its contract. The invariant: the sane ones are those put and those of what is left.
-- Rests on the law of a list filtered in turn.
use Rattle.std.proofs.Common.{refl, sym, ◌∙◌, arith, length-append}
use Rattle.glyphs.specs.Rect.{sane, sanitize_obstacles}
use Rattle.lattice.specs.Near.{filter_kept, filter_left, filter_none}
use Rattle.plan.proofs.pillars.sanitize_obstacles.Goals as goal
use Rattle.plan.proofs.pillars.sanitize_obstacles.Goals.{then-is_sane, else-is_sane}

pub loop-rect-init : goal.loop-rect-init
unfolding sanitize_obstacles
loop-rect-init g c = (omega arith, refl)

pub loop-rect-preserved : goal.loop-rect-preserved
loop-rect-preserved g c =
    let l = c.loop-rect in
    let a = c.args.obstacles.now in
    elim c.if-is_sane.branch [
      | then-is_sane w ↦
          rw (w.out-is, w.push.ensures.items) (
            simp length-append (omega (arith, l.invariant.0)),
            sym (filter_kept sane a l.rect-index l.out.items _ c.loop-rect-test.true (sym c.is_sane.ensures ∙ w.if-is_sane.true)) ∙ l.invariant.1,
          )
      | else-is_sane w ↦
          rw w.out-is (
            omega (arith, l.invariant.0),
            sym (filter_left sane a l.rect-index l.out.items _ c.loop-rect-test.true (sym c.is_sane.ensures ∙ w.if-is_sane.false)) ∙ l.invariant.1,
          )
    ]

pub returns : goal.returns
returns g c =
    let l = c.loop-rect in
    sym (filter_none sane c.args.obstacles.now l.rect-index l.out.items c.loop-rect-test.false) ∙ l.invariant.1
