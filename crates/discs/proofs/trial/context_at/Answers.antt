-- `context_at` meets its contract.
-- Rests on what the gaps' functions ensure.
use Rattle.std.proofs.Common.{rules}
use Rattle.discs.proofs.trial.context_at.Goals as goal

pub gap_of-requires : goal.gap_of-requires
gap_of-requires c = search rules

pub returns : goal.returns
returns c = cc
