-- `ring_clearance` meets its contract. The invariant: leasts and turns are those of the definitions after i edges of each half.
-- Rests on the laws of a ring's two parts, and on the contracts of what it calls.
use Prim.Native.Nat.{◌+◌, ◌/◌}
use mathlib.Core.Path.{◌≡◌, refl, sym, ap, ◌∙◌}
use native.Mathlib.Omega.{arith}
use native.Mathlib.Nat.{le_antisymm, zero-add}
use native.Mathlib.Numerals.{add-one}
use borrow.Author.Rules.{rules}
use borrow.Author.Tests.{le-ltb}
use mathlib.Core.Bool.{not, beq}
use lib.ListN.{length}
use Rattle.float.specs.Ops.{∞}
use Rattle.glyphs.specs.Points.{vertex_at}
use Rattle.regions.specs.Inside.{inside_after, point_in_polygon}
use Rattle.regions.specs.Squares.{least_after, least_from, least_of_ring, infinite}
use Rattle.regions.specs.Least.{of_halves}
use Rattle.regions.specs.Walk.{next_is, in_first, in_second, its_square, its_crossing}
use Rattle.regions.specs.Turns.{turns_from, differ, turns_of_halves}
use Rattle.regions.proofs.small.ring_clearance.Goals as goal

pub loop-i-init : goal.loop-i-init
unfolding least_after least_from turns_from
loop-i-init c =
    let n = length c.args.ring.now in
    let e : n / 2 + 0 ≡ n / 2 = omega arith in
    (search rules, refl, refl, infinite, infinite, refl, refl, refl, λ h. rw e refl)

pub loop-i-preserved : goal.loop-i-preserved
unfolding least_after least_from turns_from
loop-i-preserved c =
    let l = c.loop-i in
    let a = c.args in
    let ring = a.ring.now in
    let n = length ring in
    let e = next_is n l.i (in_first n l.i c.loop-i-test.true) in
    let b = l.invariant.8 (in_second n l.i c.loop-i-test.true) in
    let next = ap (vertex_at ring) (sym e) in
    let other = ap (vertex_at ring) c.after.ensures.0 in (
      search rules,
      refl,
      refl,
      rw (add-one, ← l.invariant.3, ← its_square a.px a.py ring n l.i _ _ l.invariant.7 next) c.closer_edge-best.ensures,
      rw (add-one, ← l.invariant.4, ← its_square a.px a.py ring n (n / 2 + l.i) _ _ b other) c.closer_edge-other.ensures,
      rw (add-one, zero-add, ← l.invariant.5, ← its_crossing a.px a.py ring n l.i _ _ l.invariant.7 next) c.turned_by-turned.ensures,
      rw (add-one, ← l.invariant.6, ← its_crossing a.px a.py ring n (n / 2 + l.i) _ _ b other) c.turned_by-turned_other.ensures,
      refl,
      λ h.
          let f : n / 2 + (l.i + 1) ≡ n / 2 + l.i + 1 = omega arith in
          let g = next_is n (n / 2 + l.i) (rw f at h) in
          rw f (other ∙ ap (vertex_at ring) g),
    )

pub with_last-requires : goal.with_last-requires
with_last-requires c = (search rules, cc (le_antisymm c.loop-i.invariant.0 c.loop-i-test.false))

pub turned_by_last-requires : goal.turned_by_last-requires
turned_by_last-requires c =
    (refl, cc (le_antisymm c.loop-i.invariant.0 c.loop-i-test.false))

pub returns : goal.returns
unfolding point_in_polygon
returns c =
    let a = c.args in
    let ring = a.ring.now in
    let n = length ring in
    let done = le_antisymm c.loop-i.invariant.0 c.loop-i-test.false in
    let least : c.lesser-square.result ≡ least_of_ring a.px a.py ∞ ring =
    c.lesser-square.ensures ∙ rw (c.with_last.ensures, c.loop-i.invariant.3, done) (of_halves a.px a.py ∞ ring (n / 2) (search rules) (search rules)) in
    let turns : not (beq c.loop-i.turned c.turned_by_last.result) ≡ inside_after a.px a.py ring n n =
    differ c.loop-i.turned c.turned_by_last.result
    ∙ rw (c.turned_by_last.ensures, c.loop-i.invariant.5, done) (turns_of_halves a.px a.py ring n (n / 2) (search rules) (search rules)) in
    rw (le-ltb n 3 (search rules), ← turns, ← least) c.with_root.ensures
