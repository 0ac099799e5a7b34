-- `precedes` meets its contract: the first keys that differ decide.
-- Rests on the laws of comparisons one after another.
use Rattle.std.proofs.Common.{sym, ap, ◌∙◌}
use Rattle.float.specs.Total.{total_key}
use Rattle.glyphs.specs.Spots.{squared_distance}
use Rattle.lattice.specs.Keys.{key_differs, key_same, key_last}
use Rattle.lattice.specs.Lattice.{by_anchor}
use Rattle.lattice.proofs.nearest.precedes.Goals as goal

pub returns-then-da-db : goal.returns-then-da-db
unfolding by_anchor
returns-then-da-db c =
    let a = c.args in
    sym
    (key_differs (squared_distance a.a a.anchor) (squared_distance a.b a.anchor) _ _ _
    (c.total_key-da.ensures ∙ ap total_key c.squared_distance.ensures)
    (c.total_key-db.ensures ∙ ap total_key c.squared_distance-2.ensures)
    c.if-da-db.true)

pub returns-then-ya-yb : goal.returns-then-ya-yb
unfolding by_anchor
returns-then-ya-yb c =
    let a = c.args in
    sym
    (key_same (squared_distance a.a a.anchor) (squared_distance a.b a.anchor) _ _ _
    (c.total_key-da.ensures ∙ ap total_key c.squared_distance.ensures)
    (c.total_key-db.ensures ∙ ap total_key c.squared_distance-2.ensures)
    c.if-da-db.false
    ∙ key_differs a.a.y a.b.y _ _ _ c.total_key-ya.ensures c.total_key-yb.ensures c.if-ya-yb.true)

pub returns : goal.returns
unfolding by_anchor
returns c =
    let a = c.args in
    c.total_less.ensures
    ∙ sym
    (key_same (squared_distance a.a a.anchor) (squared_distance a.b a.anchor) _ _ _
    (c.total_key-da.ensures ∙ ap total_key c.squared_distance.ensures)
    (c.total_key-db.ensures ∙ ap total_key c.squared_distance-2.ensures)
    c.if-da-db.false
    ∙ key_same a.a.y a.b.y _ _ _ c.total_key-ya.ensures c.total_key-yb.ensures c.if-ya-yb.false
    ∙ key_last a.a.x a.b.x)
