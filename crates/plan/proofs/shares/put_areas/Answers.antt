-- `put_areas` writes the areas. Invariant: those of the pieces left are still to be put.
-- Rests on one turn of a walk over pieces.
use mathlib.Core.Path.{refl, sym}
use Prim.Native.Nat.{◌<◌}
use native.Mathlib.Omega.{arith}
use borrow.Author.Rules.{rules}
use lib.ListN.{length}
use Rattle.plan.specs.Walk.{length_pieces}
use Rattle.plan.proofs.shares.put_areas.Goals as goal

pub loop-k-init : goal.loop-k-init
loop-k-init c =
    let z = c.zip-k-items.ensures in
    let e = c.into_iter-k-iterator.ensures.into_iter_gives in
    let n = length_pieces c.args.pieces.rings.now c.args.pieces.sizes.now c.args.pieces.points.now in
    (refl, rw (e, z.first) (sym n), rw (e, z.first, z.second) (omega arith), rw (e, z.first, z.second))

pub offset_bounds-out-k : goal.offset_bounds-out-k
offset_bounds-out-k c =
    let s = c.in-Some.ensures.steps in
    let i = c.loop-k.invariant in
    let n = length_pieces c.args.pieces.rings.now c.args.pieces.sizes.now c.args.pieces.points.now in
    let fits : c.in-Some.k < length c.loop-k.out = omega (arith, s.0, i.0, i.1, n, c.requires) in
    search rules

pub bounds-out-k : goal.bounds-out-k
bounds-out-k c =
    let s = c.in-Some.ensures.steps in
    let i = c.loop-k.invariant in
    let n = length_pieces c.args.pieces.rings.now c.args.pieces.sizes.now c.args.pieces.points.now in
    omega (arith, s.0, i.0, i.1, n, c.requires)
