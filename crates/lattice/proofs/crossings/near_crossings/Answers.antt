-- `near_crossings` meets its contract. The invariant: all crossings are those written and those of the rings which are left; so are the ends.
-- Rests on the laws of the rings in turn, and on that of the whole.
use Rattle.std.proofs.Common.{◌≡◌, length, take, ap, sym, ◌∙◌, arith, inl}
use Rattle.std.specs.Iterator.Adapters.{enumerate_source, enumerate_count}
use Rattle.regions.specs.Pieces.{rings_left}
use Rattle.lattice.specs.Crossings.{crossings_of_all, ends_of, rings_next, ends_next, rings_done, ends_done, counted, crossed, length_rings}
use Rattle.lattice.proofs.crossings.near_crossings.Goals as goal

pub loop-k-init-derived : goal.loop-k-init-derived
loop-k-init-derived c =
    let z = c.enumerate-k-items.ensures in
    let p = c.args.piece in
    let n = ap length c.rings.ensures ∙ length_rings 0 p.sizes.now p.points.now in
    ((tt, tt, inl (rw (c.into_iter-k-iterator.ensures.into_iter_gives, z.source, z.count) (omega (arith, n)))), tt)

pub loop-k-init : goal.loop-k-init
loop-k-init c =
    let z = c.enumerate-k-items.ensures in
    let p = c.args.piece in
    let e = c.rings.ensures in
    let n = ap length e ∙ length_rings 0 p.sizes.now p.points.now in
    rw (c.into_iter-k-iterator.ensures.into_iter_gives, z.source, z.count)
    (omega (arith, n), omega arith, ap (crossings_of_all c.args.y) (sym e), ap (ends_of c.args.y 0) (sym e))

pub loop-k-preserved : goal.loop-k-preserved
loop-k-preserved c =
    let l = c.loop-k in
    let i = l.invariant in
    let s = c.in-Some.ensures.steps in
    let y = c.args.y in
    let ring = c.in-Some.ring.now in
    let rings = rings_left (enumerate_source c.next.new.self) in
    let k = enumerate_count l.k-iterator in
    let more = ap length s.0 in (
      omega (arith, i.0, s.2, more),
      c.in_ok-c.ensures.0,
      rings_next y ring rings _ (take l.c l.crossings) _ (i.2 ∙ rw s.0) c.in_ok-c.ensures.1,
      rw (s.1, s.2)
          (ends_next y ring rings _ l.ends l.c c.in_ok-c.c k (omega (arith, i.0, more, l.auto.ends, c.if-n-ends.false)) (i.3 ∙ rw s.0)
          (counted l.crossings _ _ l.c c.in_ok-c.c c.in_ok-c.ensures.1 i.1 c.in_ok-c.ensures.0)),
    )

pub returns-clause-crossed : goal.returns-clause-crossed
returns-clause-crossed c =
    let l = c.loop-k in
    let i = l.invariant in
    let y = c.args.y in
    let rings = rings_left (enumerate_source l.k-iterator) in
    let none = c.in-None.ensures.steps.0.0 in
    let all : enumerate_count l.k-iterator ≡ length c.args.piece.sizes.now = omega (arith, i.0, ap length none) in
    rw (← all)
    (crossed y c.args.piece (take l.c l.crossings) (take (enumerate_count l.k-iterator) l.ends)
    (i.2 ∙ rings_done y rings (take l.c l.crossings) none)
    (i.3 ∙ ends_done y l.c rings (take (enumerate_count l.k-iterator) l.ends) none))
