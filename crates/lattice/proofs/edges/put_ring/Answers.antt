-- `put_ring` meets its contract. The invariant: the edges visited so far are added.
-- Rests on the laws of a ring's edges in turn.
use Rattle.std.proofs.Common.{length, take, refl, arith}
use Rattle.lattice.specs.Edges.{edge_at, Added, after_none, after_next, ring_short, ring_added}
use Rattle.lattice.proofs.edges.put_ring.Goals as goal

pub returns-then-n-lt2 : goal.returns-then-n-lt2
returns-then-n-lt2 c =
    let a = c.args in
    (c.requires, ring_short a.y a.reach a.ring.now (take a.start a.edges.now) c.if-n-lt2.true)

pub loop-i-init : goal.loop-i-init
loop-i-init c =
    let a = c.args in
    (refl, c.requires, after_none a.y a.reach a.ring.now _ (take a.start a.edges.now))

pub loop-i-preserved : goal.loop-i-preserved
loop-i-preserved c =
    let l = c.loop-i in
    let a = c.args in
    let added : Added a.y a.reach (edge_at a.ring.now (length a.ring.now) l.i) (take l.m l.edges) (take c.in_ok-m.m c.put_near.new.edges) =
    rw (← c.edge_at.ensures) c.in_ok-m.ensures.1 in
    (refl, c.in_ok-m.ensures.0, after_next a.y a.reach a.ring.now _ l.i (take a.start a.edges.now) (take l.m l.edges) _ l.invariant.2 added)

pub returns : goal.returns
returns c =
    let l = c.loop-i in
    let a = c.args in
    (l.invariant.1, ring_added a.y a.reach a.ring.now _ l.i (take a.start a.edges.now) (take l.m l.edges) refl c.if-n-lt2.false (omega arith) l.invariant.2)
