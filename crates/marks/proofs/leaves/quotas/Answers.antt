-- `quotas` refuses what cannot be shared out and too few places, and else writes the quotas.
-- Rests on what `any_below` and the layer's `apportion` ensure.
use mathlib.Core.Bool.{true}
use mathlib.Core.Path.{◌≡◌}
use mathlib.Core.List.{List}
use Prim.Native.Nat.{ℕ}
use lib.ListN.{length}
use lib.Ieee.{Float}
use borrow.Author.Tests.{lt-ltb, le-ltb}
use Rattle.std.specs.Prelude.{◌||◌, ltb, Err}
use Rattle.marks.specs.Leaves.{any_below, quotas_answer, quotas_after}
use Rattle.marks.specs.declared.leaves.Refusal.{Refusal}
use Rattle.marks.specs.declared.leaves.Refusal.TheVariants.{Shares, Places}
use Rattle.marks.proofs.leaves.quotas.Goals as goal
use Rattle.marks.proofs.leaves.quotas.Goals.{then-too_many-via-then-too_many, then-too_many-via-else-too_many+then-weights-gt16}
use Rattle.marks.proofs.leaves.quotas.Goals.{then-too_many-via-else-too_many+else-weights-gt16+then-any_below}

-- refused, the places stay as they are
kept :
    (count : ℕ) (weights : List Float) (places : List ℕ) (refusal : Refusal) → quotas_answer count weights (length places) ≡ Err refusal
    → places ≡ quotas_after count weights places
unfolding quotas_after
kept count weights places refusal e = rw e

unshared : (c : goal.Joined-then-too_many) → (ltb 2000 c.args.count || ltb 16 (length c.args.weights.now) || any_below c.args.weights.now) ≡ true
unshared c =
    elim c.then-too_many.branch [
      | then-too_many-via-then-too_many w ↦ rw (lt-ltb _ _ w.if-too_many.true)
      | then-too_many-via-else-too_many+then-weights-gt16 w ↦ rw (le-ltb _ _ w.if-too_many.false, lt-ltb _ _ w.if-weights-gt16.true)
      | then-too_many-via-else-too_many+else-weights-gt16+then-any_below w ↦
          rw (le-ltb _ _ w.if-too_many.false, le-ltb _ _ w.if-weights-gt16.false, ← w.any_below.ensures, w.if-any_below.true)
    ]

pub returns-then-too_many-clause-answer : goal.returns-then-too_many-clause-answer
unfolding quotas_answer
returns-then-too_many-clause-answer c = rw (unshared c)

pub returns-then-too_many-clause-lent : goal.returns-then-too_many-clause-lent
unfolding quotas_answer
returns-then-too_many-clause-lent c =
    let a = c.args in
    let e : quotas_answer a.count a.weights.now (length a.quotas.now) ≡ Err Shares = rw (unshared c) in
    kept a.count a.weights.now a.quotas.now Shares e

pub returns-then-quotas-weights-clause-answer : goal.returns-then-quotas-weights-clause-answer
unfolding quotas_answer
returns-then-quotas-weights-clause-answer c =
    rw (le-ltb _ _ c.if-too_many.false, le-ltb _ _ c.if-weights-gt16.false, ← c.any_below.ensures, c.if-any_below.false, lt-ltb _ _ c.if-quotas-weights.true)

pub returns-then-quotas-weights-clause-lent : goal.returns-then-quotas-weights-clause-lent
unfolding quotas_answer
returns-then-quotas-weights-clause-lent c =
    let a = c.args in
    let e : quotas_answer a.count a.weights.now (length a.quotas.now) ≡ Err Places =
    rw (le-ltb _ _ c.if-too_many.false, le-ltb _ _ c.if-weights-gt16.false, ← c.any_below.ensures, c.if-any_below.false, lt-ltb _ _ c.if-quotas-weights.true) in
    kept a.count a.weights.now a.quotas.now Places e

pub returns-clause-answer : goal.returns-clause-answer
unfolding quotas_answer
returns-clause-answer c =
    rw (le-ltb _ _ c.if-too_many.false, le-ltb _ _ c.if-weights-gt16.false, ← c.any_below.ensures, c.if-any_below.false, le-ltb _ _ c.if-quotas-weights.false)

pub returns-clause-lent : goal.returns-clause-lent
unfolding quotas_answer quotas_after
returns-clause-lent c =
    rw (
      le-ltb _ _ c.if-too_many.false,
      le-ltb _ _ c.if-weights-gt16.false,
      ← c.any_below.ensures,
      c.if-any_below.false,
      le-ltb _ _ c.if-quotas-weights.false,
    ) c.apportion.ensures
