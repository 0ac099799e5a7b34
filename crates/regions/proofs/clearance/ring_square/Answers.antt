-- `ring_square` meets its contract. The invariant: the leasts are those of the definitions after `i` edges of each half.
-- Rests on the law of a ring's two parts, and on the contracts of what it calls.
use Prim.Native.Nat.{◌+◌, ◌/◌}
use mathlib.Core.Path.{◌≡◌, refl, sym, ap, ◌∙◌}
use native.Mathlib.Omega.{arith}
use native.Mathlib.Nat.{le_antisymm}
use native.Mathlib.Numerals.{add-one}
use borrow.Author.Rules.{rules}
use borrow.Author.Tests.{lt-ltb}
use lib.ListN.{length}
use Rattle.glyphs.specs.Points.{vertex_at}
use Rattle.regions.specs.Squares.{least_after, least_from, least_of_ring, infinite}
use Rattle.regions.specs.Least.{of_halves}
use Rattle.regions.specs.Walk.{next_is, in_first, in_second, its_square}
use Rattle.regions.proofs.clearance.ring_square.Goals as goal

pub returns-then-n-lt2 : goal.returns-then-n-lt2
unfolding least_of_ring
returns-then-n-lt2 c = rw (lt-ltb _ _ c.if-n-lt2.true)

pub loop-i-init : goal.loop-i-init
unfolding least_after least_from
loop-i-init c =
    let n = length c.args.ring.now in
    let e : n / 2 + 0 ≡ n / 2 = omega arith in
    (search rules, refl, refl, refl, infinite, refl, λ h. rw e refl)

pub loop-i-preserved : goal.loop-i-preserved
unfolding least_after least_from
loop-i-preserved c =
    let l = c.loop-i in
    let a = c.args in
    let ring = a.ring.now in
    let n = length ring in
    let e = next_is n l.i (in_first n l.i c.loop-i-test.true) in
    let b = l.invariant.6 (in_second n l.i c.loop-i-test.true) in
    let next = ap (vertex_at ring) (sym e) in
    let other = ap (vertex_at ring) c.after.ensures.0 in (
      search rules,
      refl,
      refl,
      rw (add-one, ← l.invariant.3, ← its_square a.px a.py ring n l.i _ _ l.invariant.5 next) c.closer_edge-best.ensures,
      rw (add-one, ← l.invariant.4, ← its_square a.px a.py ring n (n / 2 + l.i) _ _ b other) c.closer_edge-other.ensures,
      refl,
      λ h.
          let f : n / 2 + (l.i + 1) ≡ n / 2 + l.i + 1 = omega arith in
          let g = next_is n (n / 2 + l.i) (rw f at h) in
          rw f (other ∙ ap (vertex_at ring) g),
    )

pub with_last-requires : goal.with_last-requires
with_last-requires c = (search rules, cc (le_antisymm c.loop-i.invariant.0 c.loop-i-test.false))

pub returns : goal.returns
returns c =
    let a = c.args in
    let n = length a.ring.now in
    let done = le_antisymm c.loop-i.invariant.0 c.loop-i-test.false in
    c.lesser.ensures
    ∙ rw (c.with_last.ensures, c.loop-i.invariant.3, done) (of_halves a.px a.py a.start a.ring.now (n / 2) c.if-n-lt2.false (search rules))
