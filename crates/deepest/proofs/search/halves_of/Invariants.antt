-- `halves_of` meets its contract. The invariant: the entries written, and those which follow from `h`, are the table.
-- Rests on the kit's laws of `take` and `set`.
use Rattle.std.proofs.Common.{◌≡◌, ◌-◌, ◌++◌, length, take}
use Rattle.deepest.specs.Order.{halves_from}
use Rattle.deepest.proofs.search.halves_of.Given as goal

abbrev pub invariant-loop-half : goal.invariant-loop-half
invariant-loop-half l = (length l.half-items ≡ 22) × (halves_from l.h0 22 ≡ take l.half-index l.half-items ++ halves_from l.h (22 - l.half-index))
