-- How the table of refusals is read: the checks in order, and the first fault wins. A fault is its number, and 0 is none. Definitions only.
use Prim.Native.Nat.{ℕ, zero, suc}
use Rattle.std.specs.Prelude.{Bool, cond, List, [], ◌∷◌, ◌++◌}

infixr 30 ◌or_else◌
infix 40 ◌unless◌
-- refused with the number, unless the test holds
unfoldable pub ◌unless◌ : ℕ → Bool → ℕ
number unless test = cond test 0 number

-- the first fault wins
unfoldable pub ◌or_else◌ : ℕ → ℕ → ℕ
zero or_else y = y
suc x or_else y = suc x

-- ---- n things one after the other; `next` leads from the place of one to that of the one after it

module _ {S : Type 0} where
  -- the first fault among them
  unfoldable pub faults : (S → ℕ) → (S → S) → ℕ → S → ℕ
  unfolding ◌or_else◌
  faults fault next zero at = 0
  faults fault next (suc n) at = fault at or_else faults fault next n (next at)

  -- the place after them
  unfoldable pub past : (S → S) → ℕ → S → S
  past next zero at = at
  past next (suc n) at = past next n (next at)

  -- what they are, in order
  unfoldable pub each : {A : Type 0} → (S → A) → (S → S) → ℕ → S → List A
  each view next zero at = []
  each view next (suc n) at = view at ∷ each view next n (next at)

  -- what they hold, end to end
  unfoldable pub flat : {A : Type 0} → (S → List A) → (S → S) → ℕ → S → List A
  flat view next zero at = []
  flat view next (suc n) at = view at ++ flat view next n (next at)
