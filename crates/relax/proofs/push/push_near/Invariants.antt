-- `push_near` meets its contract. The invariant: what is to come are the pushes of the pairs left and of the last mark.
-- Rests on the law of a fold over a list cut into blocks.
use Rattle.std.proofs.Common.{◌≡◌, drop}
use mathlib.Core.List.{foldl}
use Rattle.glyphs.specs.Spots.{spots_of}
use Rattle.relax.specs.Field.{push_of}
use Rattle.relax.specs.Others.{block_pushes}
use Rattle.relax.proofs.push.push_near.Given as goal

abbrev pub invariant-loop-pair : goal.invariant-loop-pair
invariant-loop-pair l =
    let f = push_of l.influence l.p in
    foldl f l.initial.f (spots_of l.spots) ≡ foldl f (foldl (block_pushes l.influence l.p) l.f (drop l.pair-index l.pairs)) (spots_of l.last)
