-- `push_all` meets its contract. The invariant: what is to come are the pushes of the blocks left and of the rest.
-- Rests on the law of a fold over a list cut into blocks.
use Rattle.std.proofs.Common.{◌/◌, length, sym, ap, ◌∙◌}
use mathlib.Core.List.{foldl}
use Rattle.laws.specs.Folds.{fold_step, fold_end}
use Rattle.glyphs.specs.Spots.{spots_of}
use Rattle.relax.specs.declared.push.Force.{Force}
use Rattle.relax.specs.Field.{push_of}
use Rattle.relax.specs.Others.{block_pushes, pushes_cut}
use Rattle.relax.proofs.push.push_all.Goals as goal

pub loop-block-init : goal.loop-block-init
loop-block-init c =
    let a = c.args in
    let cut = c.as_chunks.ensures in
    rw (cut.front, cut.back) (pushes_cut a.influence a.p 8 a.start (length a.spots.now / 16) a.spots.now)

pub loop-block-preserved : goal.loop-block-preserved
loop-block-preserved c =
    let l = c.loop-block in
    let a = c.args in
    let cut = c.as_chunks.result in
    rw c.push_eight-f.ensures
    (l.invariant
    ∙ ap (λ (f : Force). foldl (push_of a.influence a.p) f (spots_of cut.1.now))
    (fold_step (block_pushes a.influence a.p) l.f cut.0.now l.block-index _ c.loop-block-test.true))

pub returns : goal.returns
returns c =
    let l = c.loop-block in
    let a = c.args in
    let cut = c.as_chunks.result in
    c.push_near.ensures
    ∙ sym (l.invariant
    ∙ ap (λ (f : Force). foldl (push_of a.influence a.p) f (spots_of cut.1.now))
    (fold_end (block_pushes a.influence a.p) l.f cut.0.now l.block-index c.loop-block-test.false))
