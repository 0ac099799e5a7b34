-- `inside_level` meets its contract. The invariant: the answer is that of the holes which are left.
-- Rests on the laws that take the ends apart ring by ring.
use Rattle.std.proofs.Common.{◌≡◌, ℕ, ◌-◌, not, List, length, take, drop, sym, ap, ◌∙◌, arith, length-drop, length-take-le, take_all, rules}
use Rattle.lattice.specs.Asked.{end_next, outside_outer, inside_outer, inside_hole, outside_hole, no_hole}
use Rattle.lattice.proofs.crossings.inside_level.Goals as goal

holes_are : (ends : List ℕ) → take (length ends - 1) (drop 1 ends) ≡ drop 1 ends
holes_are ends = take_all (length ends - 1) (drop 1 ends) (simp length-drop (omega arith))

pub slice_bounds-odd-end : goal.slice_bounds-odd-end
slice_bounds-odd-end c =
    let a = c.args in
    let n = end_next (length a.crossings.now) a.ends.now 0 0 c.requires.some c.requires.ascend in
    sym (length-take-le _ _ n.1)

pub returns-then-not-odd : goal.returns-then-not-odd
returns-then-not-odd c =
    let a = c.args in
    sym (outside_outer a.x a.crossings.now a.ends.now
    (sym c.odd.ensures ∙ c.if-not-odd.true))

pub loop-to-init : goal.loop-to-init
loop-to-init c =
    let a = c.args in
    rw (holes_are a.ends.now) (
      (end_next (length a.crossings.now) a.ends.now 0 0 c.requires.some c.requires.ascend).2,
      inside_outer a.x a.crossings.now a.ends.now (sym c.odd.ensures ∙ c.if-not-odd.false),
    )

pub offset_bounds-crossings-from : goal.offset_bounds-crossings-from
offset_bounds-crossings-from c =
    let l = c.loop-to in
    let a = c.args in
    let holes = take (length a.ends.now - 1) (drop 1 a.ends.now) in
    let n = end_next (length a.crossings.now) holes l.from l.to-index c.loop-to-test.true l.invariant.0 in
    omega (arith, n.0, n.1)

pub slice_bounds-odd-end-in-loop-to : goal.slice_bounds-odd-end-in-loop-to
slice_bounds-odd-end-in-loop-to c =
    let l = c.loop-to in
    let a = c.args in
    let holes = take (length a.ends.now - 1) (drop 1 a.ends.now) in
    let n = end_next (length a.crossings.now) holes l.from l.to-index c.loop-to-test.true l.invariant.0 in
    search rules

pub returns-then-odd : goal.returns-then-odd
returns-then-odd c =
    let l = c.loop-to in
    let a = c.args in
    let holes = take (length a.ends.now - 1) (drop 1 a.ends.now) in
    let e = inside_hole a.x a.crossings.now holes l.from l.to-index c.loop-to-test.true (sym c.odd-in-loop-to.ensures ∙ c.if-odd.true) in
    sym (l.invariant.1 ∙ ap not e)

pub loop-to-preserved : goal.loop-to-preserved
loop-to-preserved c =
    let l = c.loop-to in
    let a = c.args in
    let holes = take (length a.ends.now - 1) (drop 1 a.ends.now) in
    let e = outside_hole a.x a.crossings.now holes l.from l.to-index c.loop-to-test.true (sym c.odd-in-loop-to.ensures ∙ c.if-odd.false) in
    ((end_next (length a.crossings.now) holes l.from l.to-index c.loop-to-test.true l.invariant.0).2, l.invariant.1 ∙ ap not e)

pub returns : goal.returns
returns c =
    let l = c.loop-to in
    let a = c.args in
    let holes = take (length a.ends.now - 1) (drop 1 a.ends.now) in
    sym (l.invariant.1
    ∙ ap not (no_hole a.x a.crossings.now holes l.from l.to-index (omega (arith, c.loop-to-test.false))))
