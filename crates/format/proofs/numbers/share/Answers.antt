-- `share` divides once.
-- Assumes nothing.
use borrow.Author.Rules.{rules}
use lib.Ieee.{div}
use Rattle.format.specs.Numbers.{share}
use Rattle.format.proofs.numbers.share.Goals as goal

pub returns : goal.returns
unfolding share div
returns c = search rules
