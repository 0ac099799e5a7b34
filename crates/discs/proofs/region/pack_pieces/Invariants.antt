-- `pack_pieces` meets its contract. The invariant: the pieces left, from the stream as it is now, and the spots so far make up the whole.
-- Rests on the laws of a turn.
use Rattle.std.proofs.Common.{◌≡◌, length}
use Rattle.std.specs.Iterator.Adapters.{zip_first, zip_second}
use Rattle.std.specs.Slice.Iter.{iter_rest}
use Rattle.discs.specs.Slices.{pieces_left}
use Rattle.discs.specs.Bundles.{SameLent}
use Rattle.discs.proofs.Turns.{Going}
use Rattle.discs.proofs.region.pack_pieces.Given as goal

abbrev pub invariant-loop-piece : goal.invariant-loop-piece
invariant-loop-piece l =
    let pieces = zip_first (zip_first l.piece-iterator) in
    let quotas = zip_second (zip_first l.piece-iterator) in
    let points = zip_second l.piece-iterator in
    let region = l.region in
    let p = l.how.packing in
    Going p.numbers p.options l.how.ctx p.obstacles.now (pieces_left region.pieces) region.deepest.now region.quotas.now l.initial.rng
    l.initial.spots (pieces_left pieces) (iter_rest points) (iter_rest quotas) l.placed l.rng l.spots
    × SameLent l.initial.lent l.lent
    × (length l.spots ≡ length l.initial.spots)
