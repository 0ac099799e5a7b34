-- `pack_low_discrepancy` meets its contract: the sequence's spots, the first tried at the deepest point where one mark is wanted.
-- Rests on the contracts of the packer and of the anchor.
use Rattle.std.proofs.Common.{rules}
use Rattle.regions.specs.Pieces.{rings_of}
use Rattle.discs.proofs.Packed.{packs_written, low_none, low_at}
use Rattle.discs.proofs.piece.pack_low_discrepancy.Goals as goal

pub returns-in_default : goal.returns-in_default
returns-in_default c =
    let a = c.args in
    packs_written a.how.ctx.mode a.share.quota _ _ c.pack_low_discrepancy_piece.result _ a.spots.now
    (low_none (rings_of a.share.piece) a.share.quota a.how.ctx a.how.packing.obstacles.now a.share.deepest c.in_default.not-Found)
    c.pack_low_discrepancy_piece.ensures.0 c.pack_low_discrepancy_piece.ensures.1 (search rules) c.requires.spots

pub returns : goal.returns
returns c =
    let a = c.args in
    let f = c.in-Found in
    packs_written a.how.ctx.mode a.share.quota _ _ c.pack_low_discrepancy_piece-2.result _ a.spots.now
    (low_at (rings_of a.share.piece) a.share.quota a.how.ctx a.how.packing.obstacles.now a.share.deepest f.x f.y f.field-2 _ f.is c.lone_anchor-anchor.ensures)
    c.pack_low_discrepancy_piece-2.ensures.0 c.pack_low_discrepancy_piece-2.ensures.1 (search rules) c.requires.spots
