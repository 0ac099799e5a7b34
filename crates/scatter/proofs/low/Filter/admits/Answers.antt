-- `admits` meets its contract: a hint, the clearance, all spots, then the obstacles.
-- Rests on the law of the tests in the code's order.
use mathlib.Core.Path.{sym}
use borrow.Author.Rules.{rules}
use Rattle.glyphs.specs.Spots.{spots_of}
use Rattle.scatter.specs.Passes.{admits_by, no_spacing}
use native.Mathlib.Omega.{arith}
use Rattle.scatter.proofs.low.Filter.admits.Goals as goal

pub returns-then-is_hinted : goal.returns-then-is_hinted
returns-then-is_hinted c =
    let a = c.args in
    let f = a.self.now in
    sym (no_spacing f.site f.anchor f.cells f.own_cells a.honor (spots_of a.placed.now) a.p (c.is_hinted.ensures c.if-is_hinted.true))

pub returns-then-not-honor : goal.returns-then-not-honor
returns-then-not-honor c =
    let a = c.args in
    let f = a.self.now in
    rw (admits_by f.site f.anchor f.cells f.own_cells a.honor (spots_of a.placed.now) a.p) (grind arith)

pub returns-else-not-honor : goal.returns-else-not-honor
returns-else-not-honor c =
    let a = c.args in
    let f = a.self.now in
    rw (admits_by f.site f.anchor f.cells f.own_cells a.honor (spots_of a.placed.now) a.p) (search rules)

pub returns-else-keeps_all : goal.returns-else-keeps_all
returns-else-keeps_all c =
    let a = c.args in
    let f = a.self.now in
    rw (admits_by f.site f.anchor f.cells f.own_cells a.honor (spots_of a.placed.now) a.p) (grind arith)
