-- `rect_square` meets its contract: two calls and the sum of their squares.
-- Rests on the contract of `beyond`.
use Rattle.regions.specs.Pillars.{rect_square}
use Rattle.regions.proofs.pillars.rect_square.Goals as goal

pub returns : goal.returns
unfolding rect_square
returns c = cc
