-- `search` meets its contract: the table, the first cells, and the turns.
-- Rests on the contracts of the three.
use Rattle.std.proofs.Common.{sym, ◌∙◌}
use Rattle.deepest.specs.Deepest.{centre_of}
use Rattle.deepest.specs.Plant.{search_over, search_some}
use Rattle.deepest.proofs.search.search.Goals as goal

pub returns-in_default : goal.returns-in_default
returns-in_default c =
    let w = c.new-waiting.ensures in
    sym (search_over _ _ _ _ _ _ c.halves_of-halves.ensures (rw (w.cells, w.halves) at c.in_default.ensures.full))

pub returns : goal.returns
unfolding centre_of
returns c =
    let w = c.new-waiting.ensures in
    let s = c.in-Ok.ensures in
    let p = rw (w.cells, w.halves) at s.planted in
    let x = rw (s.halves ∙ w.halves) at c.explore.ensures in
    search_some _ _ _ _ _ _ c.halves_of-halves.ensures _ _ _ _ (rw (s.long, w.cells)) p (rw c.signed_clearance-d.ensures) x
