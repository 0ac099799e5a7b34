-- `first_accepted` meets its contract. The invariant: the answer is that of the tries which are left, from `step` on.
-- Rests on the laws of one try.
use Rattle.std.proofs.Common.{◌≡◌, suc, ◌-◌}
use Rattle.glyphs.specs.Spots.{spots_of}
use Rattle.regions.specs.Pieces.{rings_of}
use Rattle.relax.specs.Moves.{first_accepted}
use Rattle.relax.proofs.moves.first_accepted.Given as goal

abbrev pub invariant-loop : goal.invariant-loop
invariant-loop l =
    let field = l.field in
    let spots = spots_of l.mark.spots.now in
    first_accepted field.distances (rings_of field.piece) field.obstacles.now l.mark.i spots l.mark.honoring l.towards (suc l.backtracks) l.first
    ≡ first_accepted field.distances (rings_of field.piece) field.obstacles.now l.mark.i spots l.mark.honoring l.towards
    (suc (l.backtracks - l.counter))
    l.step
