-- `turned_by_sixteen` meets its contract: sixteen edges are turned by, or passed over.
-- Rests on the law of edges on one side.
use mathlib.Core.Path.{◌≡◌}
use Prim.Native.Nat.{◌+◌, ◌-◌}
use native.Mathlib.Omega.{arith}
use lib.ListN.{length}
use Rattle.laws.specs.Truth.{yes}
use Rattle.regions.specs.Sides.{passed_over}
use Rattle.regions.proofs.inside.turned_by_sixteen.Goals as goal

pub returns-then-on_one_side : goal.returns-then-on_one_side
returns-then-on_one_side c =
    let a = c.args in
    let n = length a.v.now in
    let e : a.i - 1 + 17 ≡ a.i + 16 = omega arith in
    let f : a.i - 1 + 1 ≡ a.i = omega arith in
    rw (← e) (cc (passed_over a.x a.y a.v.now n (a.i - 1) 16 (rw (← c.on_one_side.ensures) (yes c.if-on_one_side.true)), f))
