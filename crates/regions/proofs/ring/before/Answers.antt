-- `before` meets its contract: the index before one of a ring.
-- Rests on nothing but the definition.
use Prim.Native.Nat.{ℕ, zero, suc, ◌-◌}
use mathlib.Core.Path.{◌≡◌, refl}
use native.Mathlib.Omega.{arith}
use borrow.Author.Rules.{rules}
use Rattle.regions.specs.Ring.{prev}
use Rattle.regions.proofs.ring.before.Goals as goal

below : (n i : ℕ) → (i ≡ 0 → ⊥) → i - 1 ≡ prev n i
unfolding prev
below n zero h = absurd (h refl)
below n (suc i) h = omega arith

pub returns-then-i-eq0 : goal.returns-then-i-eq0
unfolding prev
returns-then-i-eq0 c = (rw c.if-i-eq0.true, search rules)

pub returns : goal.returns
unfolding prev
returns c = (below _ _ c.if-i-eq0.false, search rules)
