-- `float::each_root`: what is known after the floats up to the index: that they are normal, that the guesses at them are
-- their roots, and that the roots of them are found.
-- Rests on the meaning of `Normal` and of the root.
use Rattle.std.proofs.Common.{◌≡◌, ℕ, ◌<◌, true, length, take, map, slice_index_or}
use lib.Ieee.{nan}
use Rattle.float.specs.Order.{sqrt}
use Rattle.float.specs.Laws.Pattern.{Normal}
use Rattle.float.proofs.roots.each_root.Given as goal

abbrev pub invariant-loop-i : goal.invariant-loop-i
invariant-loop-i g l = l.normal ≡ true → (k : ℕ) → k < l.i → Normal (slice_index_or l.xs k nan)

abbrev pub invariant-loop-i-then-normal : goal.invariant-loop-i-then-normal
invariant-loop-i-then-normal g l = length l.found ≡ g.row.N

abbrev pub invariant-loop-i-then-normal-2 : goal.invariant-loop-i-then-normal-2
invariant-loop-i-then-normal-2 g l = (length l.found ≡ g.row.N) × (l.sure ≡ true → take l.i l.found ≡ map sqrt (take l.i l.xs))

abbrev pub invariant-loop-i-2 : goal.invariant-loop-i-2
invariant-loop-i-2 g l = (length l.found ≡ g.row.N) × (take l.i l.found ≡ map sqrt (take l.i l.xs))
