-- A choice is equal to what it picks. `search picks` finds the test among what is known, so that an answer names no path.
-- Rests on the kit's `rules`.
use Rattle.std.specs.Prelude.{◌≡◌, Bool, true, false, cond, ℕ, ◌<◌, ◌≤◌, ltb, leb, eqb}
use Rattle.std.proofs.Common.{rules, lt-ltb, le-ltb, le-leb, eq-eqb, ne_eqb}
use Rattle.std.proofs.lemmas.Bool.{lt-leb}

-- the test is a flag of the code's own
pub pick_true : {A : Type 0} {r : A} (x y : A) (b : Bool) → b ≡ true → r ≡ x → r ≡ cond b x y
pick_true x y b h e = rw h e

pub pick_false : {A : Type 0} {r : A} (x y : A) (b : Bool) → b ≡ false → r ≡ y → r ≡ cond b x y
pick_false x y b h e = rw h e

-- the test is what a call answered
pub told_true : {A : Type 0} {r : A} (x y : A) (b q : Bool) → q ≡ b → q ≡ true → r ≡ x → r ≡ cond b x y
told_true x y b q f h e = rw (← f, h) e

pub told_false : {A : Type 0} {r : A} (x y : A) (b q : Bool) → q ≡ b → q ≡ false → r ≡ y → r ≡ cond b x y
told_false x y b q f h e = rw (← f, h) e

-- the test is on numbers
pub pick_lt : {A : Type 0} {r : A} (x y : A) (m n : ℕ) → m < n → r ≡ x → r ≡ cond (ltb m n) x y
pick_lt x y m n h e = rw (lt-ltb m n h) e

pub pick_not_lt : {A : Type 0} {r : A} (x y : A) (m n : ℕ) → n ≤ m → r ≡ y → r ≡ cond (ltb m n) x y
pick_not_lt x y m n h e = rw (le-ltb m n h) e

pub pick_le : {A : Type 0} {r : A} (x y : A) (m n : ℕ) → m ≤ n → r ≡ x → r ≡ cond (leb m n) x y
pick_le x y m n h e = rw (le-leb m n h) e

pub pick_not_le : {A : Type 0} {r : A} (x y : A) (m n : ℕ) → n < m → r ≡ y → r ≡ cond (leb m n) x y
pick_not_le x y m n h e = rw (lt-leb m n h) e

pub pick_eq : {A : Type 0} {r : A} (x y : A) (m n : ℕ) → m ≡ n → r ≡ x → r ≡ cond (eqb m n) x y
pick_eq x y m n h e = rw (eq-eqb m n h) e

pub pick_ne : {A : Type 0} {r : A} (x y : A) (m n : ℕ) → (m ≡ n → ⊥) → r ≡ y → r ≡ cond (eqb m n) x y
pick_ne x y m n h e = rw (ne_eqb m n h) e

pub ruleset picks = (pick_true, pick_false, told_true, told_false, pick_lt, pick_not_lt, pick_le, pick_not_le, pick_eq, pick_ne, rules)
