-- `merge_run` meets its contract. The invariant of both loops: the cells behind the `i` old ones and those of the run that are left are placed.
-- Rests on the laws of a run merged from the back.
use Rattle.std.proofs.Common.{◌≡◌, ℕ, zero, suc, ◌+◌, ◌-◌, ◌/◌, ◌<◌, length, true, false, List, sym, ap, ◌∙◌, subst, arith}
use lib.Ieee.{Float}
use Rattle.glyphs.specs.declared.rect.Point.{Point}
use Rattle.lattice.specs.Flat.{point_at, spot_is, spots_points}
use Rattle.lattice.specs.Run.{before_last, put_below, Merging, merge_start, merge_old, merge_new, merge_done}
use Rattle.lattice.proofs.nearest.merge_run.Goals as goal

some_left : (anchor p : Point) (l : List Float) (i : ℕ) → before_last anchor p l i ≡ true → 0 < i
unfolding before_last
some_left anchor p l zero e = let e : false ≡ true = e in let w : ◌≡◌ {A = ℕ} 0 1 = cc in absurd (omega arith)
some_left anchor p l (suc i) e = omega arith

pub loop-j-init : goal.loop-j-init
loop-j-init c =
    let a = c.args in
    let k = length a.run.now / 2 in
    merge_start a.anchor a.cells.now a.run.now a.m a.cap k c.requires.0 c.requires.1 (omega arith) c.requires.2 (rw (← spots_points a.run.now) c.requires.3)

pub overflow_sub-i : goal.overflow_sub-i
overflow_sub-i c = omega (arith, some_left c.args.anchor c.spot-p.result c.loop-i.cells c.loop-i.i (sym c.is_before_last.ensures ∙ c.loop-i-test.true))

pub spot-q-requires : goal.spot-q-requires
spot-q-requires c =
    let some-old = some_left c.args.anchor c.spot-p.result c.loop-i.cells c.loop-i.i (sym c.is_before_last.ensures ∙ c.loop-i-test.true) in
    omega (arith, c.loop-i.invariant.old_left, c.loop-i.invariant.as_long)

pub loop-i-smaller : goal.loop-i-smaller
loop-i-smaller c = omega (arith, some_left c.args.anchor c.spot-p.result c.loop-i.cells c.loop-i.i (sym c.is_before_last.ensures ∙ c.loop-i-test.true))

pub loop-i-preserved : goal.loop-i-preserved
loop-i-preserved c =
    let a = c.args in
    let k = length a.run.now / 2 in
    let e : c.loop-j.j - 1 + 1 - 1 ≡ c.loop-j.j - 1 = omega arith in
    let asked : before_last a.anchor (point_at a.run.now (c.loop-j.j - 1 + 1 - 1)) c.loop-i.cells c.loop-i.i ≡ c.is_before_last.result =
    rw e (ap (λ (p : Point). before_last a.anchor p c.loop-i.cells c.loop-i.i) (sym (c.spot-p.ensures ∙ spot_is _ _)) ∙ sym c.is_before_last.ensures) in
    let f : c.loop-i.i - 1 + (c.loop-j.j - 1 + 1) ≡ c.loop-i.i - 1 + (c.loop-j.j - 1) + 1 = omega arith in
    let merged =
    (merge_old a.anchor a.cells.now a.run.now a.m a.cap k c.requires.0 c.requires.1 (omega arith) c.requires.2 (rw (← spots_points a.run.now) c.requires.3)
    c.loop-i.i (c.loop-j.j - 1 + 1) c.loop-i.cells c.loop-i.invariant (omega arith) (asked ∙ c.loop-i-test.true)).1 in
    subst (Merging a.anchor a.cells.now a.run.now a.m a.cap k (c.loop-i.i - 1) (c.loop-j.j - 1 + 1))
    (sym (c.put_below.ensures ∙ rw f (ap (put_below a.cap c.loop-i.cells (c.loop-i.i - 1 + (c.loop-j.j - 1) + 1)) (c.spot-q.ensures ∙ spot_is _ _)))) merged

pub loop-j-preserved : goal.loop-j-preserved
loop-j-preserved c =
    let a = c.args in
    let k = length a.run.now / 2 in
    let e : c.loop-j.j - 1 + 1 - 1 ≡ c.loop-j.j - 1 = omega arith in
    let asked : before_last a.anchor (point_at a.run.now (c.loop-j.j - 1 + 1 - 1)) c.loop-i.cells c.loop-i.i ≡ c.is_before_last.result =
    rw e (ap (λ (p : Point). before_last a.anchor p c.loop-i.cells c.loop-i.i) (sym (c.spot-p.ensures ∙ spot_is _ _)) ∙ sym c.is_before_last.ensures) in
    let merged =
    rw e at
    (merge_new a.anchor a.cells.now a.run.now a.m a.cap k c.requires.0 c.requires.1 (omega arith) c.requires.2 (rw (← spots_points a.run.now) c.requires.3)
    c.loop-i.i (c.loop-j.j - 1 + 1) c.loop-i.cells c.loop-i.invariant (omega arith) (asked ∙ c.loop-i-test.false)) in
    subst (Merging a.anchor a.cells.now a.run.now a.m a.cap k c.loop-i.i (c.loop-j.j - 1))
    (sym (c.put_below-in-loop-j.ensures ∙ ap (put_below a.cap c.loop-i.cells (c.loop-i.i + (c.loop-j.j - 1))) (c.spot-p.ensures ∙ spot_is _ _))) merged

pub returns : goal.returns
returns c =
    let l = c.loop-j in
    let a = c.args in
    let k = length a.run.now / 2 in (
      c.min.ensures,
      rw (spots_points a.run.now)
          (merge_done a.anchor a.cells.now a.run.now a.m a.cap k c.requires.0 c.requires.1 (omega arith) c.requires.2
          (rw (← spots_points a.run.now) c.requires.3) l.i l.j l.cells l.invariant (omega (arith, c.loop-j-test.false))),
    )
