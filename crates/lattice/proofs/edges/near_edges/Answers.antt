-- `near_edges` meets its contract. The invariant: the edges written and the rings left say what the piece says.
-- Rests on the laws of the rings in turn.
use Rattle.std.proofs.Common.{◌≡◌, take, arith, rules}
use Rattle.laws.specs.Truth.{yes}
use Rattle.float.specs.Laws.Nan.{lt_number}
use Rattle.regions.specs.Pieces.{rings_of, rings_left}
use Rattle.lattice.specs.Edges.{left_all, left_next, left_none}
use Rattle.lattice.proofs.edges.near_edges.Goals as goal

pub loop-ring-init : goal.loop-ring-init
loop-ring-init c =
    let a = c.args in
    let e : rings_left c.into_iter-ring-iterator.result ≡ rings_of a.site.piece = search rules in
    (tt, tt, omega arith, rw e (left_all a.y _ (rings_of a.site.piece)))

pub loop-ring-preserved : goal.loop-ring-preserved
loop-ring-preserved c =
    let l = c.loop-ring in
    let a = c.args in
    let left = rw c.in-Some.ensures.steps at l.invariant.3 in
    (tt, tt, c.in_ok-m.ensures.0, left_next a.y _ (rings_of a.site.piece) _ _ (take l.m l.edges) _ left c.in_ok-m.ensures.1)

pub returns : goal.returns
returns c =
    let l = c.loop-ring in
    let a = c.args in
    let left = rw c.in-None.ensures.steps.0 at l.invariant.3 in (
      l.invariant.2,
      left_none a.y _ (rings_of a.site.piece) a.site.margin.least (take l.m l.edges) (lt_number _ _ (yes c.requires)).1
          c.reach_of-reach.ensures left,
    )
