-- `before` meets its contract.
-- Rests on the law that the order is the library's.
use Rattle.std.proofs.Common.{◌∙◌}
use Rattle.deepest.specs.Order.{leaves, sooner_cmp}
use Rattle.deepest.proofs.queue.before.Goals as goal

pub returns : goal.returns
unfolding leaves
returns c =
    let a = c.args.a in
    let b = c.args.b in
    c.lt.ensures ∙ rw (c.bound.ensures, c.bound-2.ensures) (sooner_cmp _ a.entry _ b.entry)
