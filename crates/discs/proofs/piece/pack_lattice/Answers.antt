-- `pack_lattice` meets its contract: none, the lattice's spots written, or their number.
-- Rests on the contracts of the lattice packer and its trial.
use Rattle.std.proofs.Common.{rules}
use Rattle.regions.specs.Pieces.{rings_of}
use Rattle.discs.proofs.Packed.{packs_none, packs_written, packs_trial, lattice_none, lattice_at, trial_few}
use Rattle.discs.proofs.piece.pack_lattice.Goals as goal

pub returns-in_default : goal.returns-in_default
returns-in_default c =
    let a = c.args in
    packs_none a.how.ctx.mode a.share.quota _ a.spots.now
    (lattice_none (rings_of a.share.piece) a.share.quota a.how.ctx a.how.packing.obstacles.now a.share.deepest a.rectangular c.in_default.not-Found)

pub returns-then-ctx : goal.returns-then-ctx
returns-then-ctx c =
    let a = c.args in
    let f = c.in-Found in
    packs_written a.how.ctx.mode a.share.quota _ _ c.pack_uniform_piece.result _ a.spots.now
    (lattice_at (rings_of a.share.piece) a.share.quota a.how.ctx a.how.packing.obstacles.now a.share.deepest a.rectangular f.x f.y f.field-2 f.is)
    c.pack_uniform_piece.ensures.0 c.pack_uniform_piece.ensures.1 (search rules) c.requires.spots

pub returns : goal.returns
returns c =
    let r = c.probe_uniform_piece in
    let t = c.if-ctx.false in
    let a = c.args in
    let f = c.in-Found in
    let piece = rings_of a.share.piece in
    packs_trial a.how.ctx.mode a.share.quota _ _ r.result _ a.spots.now t
    (lattice_at piece a.share.quota a.how.ctx a.how.packing.obstacles.now a.share.deepest a.rectangular f.x f.y f.field-2 f.is)
    r.ensures (trial_few piece a.share.quota a.how.ctx a.how.packing.obstacles.now a.share.deepest a.rectangular t (a.how.strict t))
