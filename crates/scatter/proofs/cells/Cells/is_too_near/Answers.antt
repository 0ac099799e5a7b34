-- `is_too_near` meets its contract: one spot that fails is enough.
-- Rests on the law of one that fails.
use Prim.Native.Nat.{◌<◌}
use native.Mathlib.Omega.{arith}
use lib.ListN.{length}
use borrow.Author.Tests.{not-true}
use Rattle.glyphs.specs.Spots.{spots_of, spots_at_lem, length_spots}
use Rattle.scatter.specs.Cells.{keeps, one_fails}
use Rattle.scatter.proofs.cells.Cells.is_too_near.Goals as goal

pub returns-then-k-spots : goal.returns-then-k-spots
returns-then-k-spots c h =
    let a = c.args in
    let s = a.spots.now in
    let q = c.spot in
    let e = c.keeps in
    let l : a.k < length (spots_of s) = simp length_spots (omega arith) in
    one_fails (keeps a.self.now a.p) (spots_of s) a.k q.result l
    (rw (spots_at_lem s a.k q.result (omega arith), ← q.ensures, ← e.ensures) (not-true e.result h))
