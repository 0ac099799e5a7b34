-- `put_shares` writes the shares. Invariant: the first i quotas are the shares.
-- Rests on nothing but the definition of lists.
use Rattle.std.proofs.Common.{◌≡◌, ℕ, ◌<◌, slice_index_or}
use Rattle.plan.proofs.shares.put_shares.Given as goal

abbrev pub invariant-loop-i : goal.invariant-loop-i
invariant-loop-i l = (k : ℕ) → k < l.i → slice_index_or l.quotas k 0 ≡ slice_index_or l.shares k 0
