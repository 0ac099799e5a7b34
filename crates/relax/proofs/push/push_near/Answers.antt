-- `push_near` meets its contract. The invariant: what is to come are the pushes of the pairs left and of the last mark.
-- Rests on the law of a fold over a list cut into blocks.
use Rattle.std.proofs.Common.{◌≡◌, ◌<◌, ◌/◌, length, get_or, [], sym, ap, ◌∙◌, arith}
use mathlib.Core.List.{foldl}
use Rattle.laws.specs.Folds.{fold_step, fold_end}
use Rattle.glyphs.specs.Spots.{spots_of}
use Rattle.relax.specs.declared.push.Force.{Force}
use Rattle.relax.specs.Field.{push_of}
use Rattle.relax.specs.Others.{block_pushes, pushes_cut, pair_pushes, last_push, no_push}
use Rattle.relax.proofs.push.push_near.Goals as goal

pub loop-pair-init : goal.loop-pair-init
loop-pair-init c =
    let a = c.args in
    let cut = c.as_chunks.ensures in
    rw (cut.front, cut.back) (pushes_cut a.influence a.p 2 a.start (length a.spots.now / 4) a.spots.now)

pub loop-pair-preserved : goal.loop-pair-preserved
loop-pair-preserved c =
    let l = c.loop-pair in
    let a = c.args in
    let cut = c.as_chunks.result in
    let long : length (get_or cut.0.now l.pair-index []) ≡ 4 = omega arith in
    rw (c.push_two-f.ensures, c.spot.ensures, c.spot-in-loop-pair.ensures, ← pair_pushes a.influence a.p l.f _ long)
    (l.invariant
    ∙ ap (λ (f : Force). foldl (push_of a.influence a.p) f (spots_of cut.1.now))
    (fold_step (block_pushes a.influence a.p) l.f cut.0.now l.pair-index _ c.loop-pair-test.true))

pub returns-then-last-lt2 : goal.returns-then-last-lt2
returns-then-last-lt2 c =
    let l = c.loop-pair in
    let a = c.args in
    let cut = c.as_chunks.result in
    sym (l.invariant
    ∙ ap (λ (f : Force). foldl (push_of a.influence a.p) f (spots_of cut.1.now))
    (fold_end (block_pushes a.influence a.p) l.f cut.0.now l.pair-index c.loop-pair-test.false)
    ∙ no_push a.influence a.p l.f cut.1.now c.if-last-lt2.true)

pub returns : goal.returns
returns c =
    let l = c.loop-pair in
    let a = c.args in
    let cut = c.as_chunks.result in
    let few : length cut.1.now < 4 = omega arith in
    sym (l.invariant
    ∙ ap (λ (f : Force). foldl (push_of a.influence a.p) f (spots_of cut.1.now))
    (fold_end (block_pushes a.influence a.p) l.f cut.0.now l.pair-index c.loop-pair-test.false)
    ∙ last_push a.influence a.p l.f cut.1.now (omega arith) few
    ∙ rw (← c.spot-2.ensures, c.push.ensures))
