-- `pack_piece` meets its contract: nothing where no mark is wanted, else the packing of the arrangement.
-- Rests on the contracts of the four packings.
use Rattle.std.proofs.Common.{refl, rules}
use Rattle.glyphs.specs.declared.options.GlyphArrangement.TheVariants.{Uniform, Rectangular, LowDiscrepancy, Random}
use Rattle.discs.specs.Bundles.{lent_same}
use Rattle.discs.specs.Pieces.{pack_piece_from}
use Rattle.discs.proofs.Packed.{packs_none, packs_written, packed_none, packed_by}
use Rattle.discs.proofs.piece.pack_piece.Goals as goal

pub returns-then-unwanted : goal.returns-then-unwanted
returns-then-unwanted c =
    let a = c.args in
    let e = packed_none a.how a.share a.rng c.if-unwanted.true in
    record { placed = rw e (packs_none a.how.ctx.mode a.share.quota _ a.spots.now refl); rng = rw e; same = lent_same a.lent.now }

pub returns-in-Uniform : goal.returns-in-Uniform
unfolding pack_piece_from
returns-in-Uniform c =
    let a = c.args in
    let e = packed_by a.how a.share a.rng Uniform c.if-unwanted.false (search rules) in
    record { placed = rw e c.pack_lattice-m.ensures; rng = rw e; same = search rules }

pub returns-in-Rectangular : goal.returns-in-Rectangular
unfolding pack_piece_from
returns-in-Rectangular c =
    let a = c.args in
    let e = packed_by a.how a.share a.rng Rectangular c.if-unwanted.false (search rules) in
    record { placed = rw e c.pack_lattice-m-in-Rectangular.ensures; rng = rw e; same = search rules }

pub returns-in-LowDiscrepancy : goal.returns-in-LowDiscrepancy
unfolding pack_piece_from
returns-in-LowDiscrepancy c =
    let a = c.args in
    let e = packed_by a.how a.share a.rng LowDiscrepancy c.if-unwanted.false (search rules) in
    record { placed = rw e c.pack_low_discrepancy-m.ensures; rng = rw e; same = search rules }

pub returns-in-Random : goal.returns-in-Random
unfolding pack_piece_from
returns-in-Random c =
    let a = c.args in
    let e = packed_by a.how a.share a.rng Random c.if-unwanted.false c.in-Random.is in
    let thrown = c.pack_random_piece in
    record {
      placed =
          rw e
          (packs_written a.how.ctx.mode a.share.quota _ _ thrown.result.count _ a.spots.now refl thrown.ensures.0 thrown.ensures.2 (search rules)
          c.requires.spots);
      rng = rw e thrown.ensures.1;
      same = search rules;
    }
