-- `with_last` meets its contract: the halves of an odd number of edges leave the last one out.
-- Rests on the contract of `closer_at`.
use mathlib.Core.Path.{◌≡◌}
use Prim.Native.Nat.{suc, ◌-◌}
use native.Mathlib.Omega.{arith}
use lib.ListN.{length}
use Rattle.regions.specs.Squares.{least_from}
use Rattle.regions.proofs.clearance.with_last.Goals as goal

pub returns-then-i-ring : goal.returns-then-i-ring
unfolding least_from
returns-then-i-ring c =
    let a = c.args in
    let n = length a.ring.now in
    let e : n - a.half ≡ suc a.half = omega arith in
    rw e (cc)

pub returns : goal.returns
returns c =
    let a = c.args in
    let n = length a.ring.now in
    let e : n - a.half ≡ a.half = omega arith in
    rw e c.requires.1
