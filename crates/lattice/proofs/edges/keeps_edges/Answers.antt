-- `keeps_edges` meets its contract. The invariant: the answer is that of the edges which are left.
-- Rests on the laws of a test of each element in turn.
use Rattle.std.proofs.Common.{◌≡◌, ℕ, ◌+◌, ◌<◌, Bool, true, false, List, length, get_or, drop, sym, ◌∙◌}
use Rattle.laws.specs.Any.{all, all_step, all_end}
use Rattle.lattice.specs.Edges.{keeps, keeps_edges}
use Rattle.lattice.proofs.edges.keeps_edges.Goals as goal

stops : {A : Type 0} (p : A → Bool) (l : List A) (i : ℕ) (d : A) → i < length l → p (get_or l i d) ≡ false → all p (drop i l) ≡ false
stops p l i d h e = all_step p l i d h ∙ rw e

goes_on : {A : Type 0} (p : A → Bool) (l : List A) (i : ℕ) (d : A) → i < length l → p (get_or l i d) ≡ true → all p (drop i l) ≡ all p (drop (i + 1) l)
goes_on p l i d h e = all_step p l i d h ∙ rw e

pub returns-then-not-keeps_edge : goal.returns-then-not-keeps_edge
unfolding keeps_edges
returns-then-not-keeps_edge c =
    let a = c.args in
    sym
    (c.loop-edge.invariant
    ∙ stops (keeps a.p.x a.p.y a.margin.least) a.edges.now c.loop-edge.edge-index _ c.loop-edge-test.true (sym c.keeps_edge.ensures ∙ c.if-not-keeps_edge.true))

pub loop-edge-preserved : goal.loop-edge-preserved
unfolding keeps_edges
loop-edge-preserved c =
    let a = c.args in
    c.loop-edge.invariant
    ∙ goes_on (keeps a.p.x a.p.y a.margin.least) a.edges.now c.loop-edge.edge-index _ c.loop-edge-test.true
    (sym c.keeps_edge.ensures ∙ c.if-not-keeps_edge.false)

pub returns : goal.returns
unfolding keeps_edges
returns c =
    let a = c.args in
    sym (c.loop-edge.invariant ∙ all_end (keeps a.p.x a.p.y a.margin.least) a.edges.now c.loop-edge.edge-index c.loop-edge-test.false)
