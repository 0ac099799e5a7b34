-- `apart_from_all` meets its contract. The invariant of the loops: the answer is that of the blocks left and of the last, and of
-- `ok` and the last left.
-- Rests on the laws of `all` over blocks, over one element and over none.
use Rattle.std.proofs.Common.{◌/◌, ◌<◌, ◌≤◌, [], length, sym, ◌∙◌, arith}
use Rattle.std.proofs.Math.Bool.{and-true, and_assoc}
use Rattle.laws.specs.Any.{all_step, all_end}
use Rattle.glyphs.specs.Spots.{apart, spots_of, all_of, all_parts, spots_at_lem, length_spots}
use Rattle.glyphs.proofs.spots.apart_from_all.Goals as goal

pub loop-block-init : goal.loop-block-init
loop-block-init c =
    let a = c.args in
    rw (c.as_chunks.ensures.front, c.split_at.ensures.front, c.split_at.ensures.back)
    (all_parts (apart a.p a.least) (c.saturating_sub.result / 8) a.spots.now (omega arith))

pub returns-then-not-apart_from_eight : goal.returns-then-not-apart_from_eight
returns-then-not-apart_from_eight c =
    let l = c.loop-block in
    rw (l.invariant, all_step _ _ l.block-index [] c.loop-block-test.true, ← c.apart_from_eight.ensures, c.if-not-apart_from_eight.true)

pub loop-block-preserved : goal.loop-block-preserved
loop-block-preserved c =
    let l = c.loop-block in
    rw (l.invariant, all_step _ _ l.block-index [] c.loop-block-test.true, ← c.apart_from_eight.ensures, c.if-not-apart_from_eight.false)

pub loop-i-init : goal.loop-i-init
loop-i-init c =
    let l = c.loop-block in
    let far = all_of (apart c.args.p c.args.least) in
    l.invariant ∙ rw (all_end far c.as_chunks.result.0.now l.block-index c.loop-block-test.false)

pub loop-i-preserved : goal.loop-i-preserved
loop-i-preserved c =
    let l = c.loop-i in
    let s = c.split_at.result.1.now in
    let q = c.spot in
    let h : l.i < length (spots_of s) = simp length_spots (omega arith) in
    l.invariant
    ∙ rw (all_step _ _ _ q.result h, spots_at_lem s l.i q.result (omega arith), ← q.ensures, ← c.apart-ok.ensures)
    (sym (and_assoc l.ok _ _))

pub returns : goal.returns
returns c =
    let l = c.loop-i in
    let h : length (spots_of c.split_at.result.1.now) ≤ l.i = simp length_spots (omega arith) in
    rw (l.invariant, all_end _ _ _ h, and-true)
