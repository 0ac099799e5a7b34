-- `push` meets its contract: a mark too far away, or in the same place, pushes nothing.
-- Rests on the law of a push in parts.
use mathlib.Core.Path.{sym, ap, ◌∙◌}
use Rattle.relax.specs.Others.{reaches, unreached}
use Rattle.relax.proofs.push.push.Goals as goal

pub returns : goal.returns
returns c =
    let a = c.args in
    unreached a.influence a.p a.f a.q (sym (c.reaches.ensures ∙ ap (reaches a.influence) c.squared_distance-d2.ensures) ∙ c.if-reaches.false)
