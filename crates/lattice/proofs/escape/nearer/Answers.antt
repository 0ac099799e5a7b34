-- `nearer` meets its contract: the first keys that differ decide.
-- Rests on the laws of comparisons one after another.
use Rattle.std.proofs.Common.{◌≡◌, ap, ◌∙◌, rules}
use Prim.Native.Nat.{Ordering}
use Rattle.laws.specs.Orders.{◌then_by◌, is_lt}
use Rattle.float.specs.Total.{total_cmp}
use Rattle.lattice.specs.Keys.{ordering, found_lt, then_is, then_assoc}
use Rattle.lattice.proofs.escape.nearer.Goals as goal

pub returns : goal.returns
returns c =
    let p = c.args.exit in
    let q = c.args.best in
    let by-square = total_cmp p.square q.square in
    let by-x = total_cmp p.place.x q.place.x in
    let by-y = total_cmp p.place.y q.place.y in
    let second : ordering c.then_with.result ≡ by-square then_by by-x =
    then_is c.total_cmp.result c.then_with.result by-x c.then_with.ensures (λ k. search rules)
    ∙ ap (λ (o : Ordering). o then_by by-x) c.total_cmp.ensures in
    let third : ordering c.then_with-2.result ≡ (by-square then_by by-x) then_by by-y =
    then_is c.then_with.result c.then_with-2.result by-y c.then_with-2.ensures (λ k. search rules) ∙ ap (λ (o : Ordering). o then_by by-y) second in
    c.is_lt.ensures ∙ found_lt c.then_with-2.result ∙ ap is_lt (third ∙ then_assoc by-square by-x by-y)
