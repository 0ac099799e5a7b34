-- `region_at` meets its contract.
-- Rests on the parts that the code cuts, and on the contract of `Layout::pieces`.
use Rattle.std.proofs.Common.{ap}
use Rattle.discs.specs.Pieces.{deepests_of}
use Rattle.discs.specs.Floor.{handed_at}
use Rattle.discs.proofs.Zones.{part_is}
use Rattle.discs.proofs.zone.region_at.Goals as goal

pub returns-clause-key : goal.returns-clause-key
unfolding handed_at
returns-clause-key c = part_is c.args.zone.row.key c.args.zone.row.len c.args.zones.bytes.now

pub returns-clause-pieces : goal.returns-clause-pieces
unfolding handed_at
returns-clause-pieces c = c.pieces.ensures.pieces

pub returns-clause-quotas : goal.returns-clause-quotas
unfolding handed_at
returns-clause-quotas c = part_is c.args.zone.at.piece c.args.zone.row.pieces c.args.zones.quotas.now

pub returns-clause-deepest : goal.returns-clause-deepest
unfolding handed_at
returns-clause-deepest c = ap deepests_of (part_is c.args.zone.at.piece c.args.zone.row.pieces c.args.zones.deepest.now)
