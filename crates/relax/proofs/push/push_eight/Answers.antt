-- `push_eight` meets its contract: none of the eight marks pushes, or they are gone through.
-- Rests on the law that marks too far away push nothing.
use Rattle.std.proofs.Common.{sym, ◌∙◌}
use Rattle.glyphs.specs.Spots.{spots_of}
use Rattle.relax.specs.Others.{far_all}
use Rattle.relax.proofs.push.push_eight.Goals as goal

pub returns-then-apart_from_eight : goal.returns-then-apart_from_eight
returns-then-apart_from_eight c =
    let a = c.args in
    sym (far_all a.influence a.p (spots_of a.block.now) a.start (sym c.apart_from_eight.ensures ∙ c.if-apart_from_eight.true))

pub returns : goal.returns
returns c = c.push_near.ensures
