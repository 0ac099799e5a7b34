-- `keeps_all` meets its contract. The invariant: the answer is that of the blocks left and of the rest.
-- Rests on the laws of a test of each element in turn, and of a list cut into blocks.
use Rattle.std.proofs.Common.{◌≡◌, ℕ, ◌+◌, ◌/◌, ◌<◌, Bool, true, false, ◌&&◌, List, length, get_or, drop, sym, ap, ◌∙◌}
use Rattle.laws.specs.Any.{all, all_step, all_end}
use Rattle.scatter.specs.Cells.{keeps_block, keeps_cut}
use Rattle.scatter.proofs.cells.Cells.keeps_all.Goals as goal

module _ {A : Type 0} (p : A → Bool) (l : List A) (i : ℕ) (d : A) (more : i < length l) (rest : Bool) where
  stops : p (get_or l i d) ≡ false → all p (drop i l) && rest ≡ false
  stops e = rw (all_step p l i d more, e)

  goes_on : p (get_or l i d) ≡ true → all p (drop i l) && rest ≡ all p (drop (i + 1) l) && rest
  goes_on e = rw (all_step p l i d more, e)

pub loop-block-init : goal.loop-block-init
loop-block-init c =
    let a = c.args in
    let cut = c.as_chunks.ensures in
    rw (cut.front, cut.back) (keeps_cut a.self.now a.p (length a.spots.now / 16) a.spots.now)

pub returns-then-not-keeps_eight : goal.returns-then-not-keeps_eight
returns-then-not-keeps_eight c =
    let l = c.loop-block in
    let keeps = keeps_block c.args.self.now c.args.p in
    let cut = c.as_chunks.result in
    sym (l.invariant
    ∙ stops keeps cut.0.now l.block-index _ c.loop-block-test.true (keeps cut.1.now) (sym c.keeps_eight.ensures ∙ c.if-not-keeps_eight.true))

pub loop-block-preserved : goal.loop-block-preserved
loop-block-preserved c =
    let l = c.loop-block in
    let keeps = keeps_block c.args.self.now c.args.p in
    let cut = c.as_chunks.result in
    l.invariant
    ∙ goes_on keeps cut.0.now l.block-index _ c.loop-block-test.true (keeps cut.1.now) (sym c.keeps_eight.ensures ∙ c.if-not-keeps_eight.false)

pub returns : goal.returns
unfolding all
returns c =
    let l = c.loop-block in
    let keeps = keeps_block c.args.self.now c.args.p in
    let cut = c.as_chunks.result in
    c.keeps_each.ensures
    ∙ sym (l.invariant ∙ ap (λ (b : Bool). b && keeps cut.1.now) (all_end keeps cut.0.now l.block-index c.loop-block-test.false))
