-- `apportion` writes the quotas. Invariant: the quotas of the first i pieces stand in front.
-- Rests on what `quota_of` ensures and the law that the quotas one by one are `apportion`.
use Rattle.std.proofs.Common.{◌≡◌, length}
use Rattle.laws.specs.Lists.{tabulate, written}
use Rattle.glyphs.specs.Quotas.{quota_of}
use Rattle.glyphs.proofs.quotas.apportion.Given as goal

abbrev pub invariant-loop-i : goal.invariant-loop-i
invariant-loop-i l =
    let s = l.shares in
    (length l.quotas ≡ length l.initial.quotas) × (l.quotas ≡ written (tabulate (quota_of s.n s.total l.left s.weights.now) l.i) l.initial.quotas)
