-- `turned_by_last` meets its contract: the halves of an odd number of edges leave the last one out.
-- Rests on the contracts of what it calls.
use mathlib.Core.Path.{◌≡◌}
use Prim.Native.Nat.{suc, ◌-◌}
use native.Mathlib.Omega.{arith}
use lib.ListN.{length}
use Rattle.regions.specs.Turns.{turns_from}
use Rattle.regions.proofs.small.turned_by_last.Goals as goal

pub returns-then-i-n : goal.returns-then-i-n
unfolding turns_from
returns-then-i-n c =
    let a = c.args in
    let e : length a.v.now - a.half ≡ suc a.half = omega arith in
    rw e (cc)

pub returns : goal.returns
returns c =
    let a = c.args in
    let e : length a.v.now - a.half ≡ a.half = omega arith in
    rw e c.requires.1
