-- Signed whole numbers: p - n for a pair of natural numbers, written in any way. `omega arith` opens all of it, so it normalises and solves them.
-- Rests on nothing.
use Rattle.std.specs.Prelude.{◌≡◌, refl, Bool, true, false, ℕ, zero, suc, ◌+◌, ◌-◌, ◌*◌, ◌≤◌, ◌<◌}
use Rattle.std.proofs.Common.{ap, ◌∙◌, mul_comm, add-mul, arith}
use Rattle.std.proofs.Math.Nat.{mul-sub}

pub record Exact : Type 0 where
  pub p : ℕ
  pub n : ℕ

infixl 6 ◌⊕◌
infixl 6 ◌⊖◌
infixl 7 ◌⊗◌
infix 4 ◌≼◌
infix 4 ◌≺◌
infix 4 ◌≈◌
abbrev pub ◌⊕◌ : Exact → Exact → Exact
a ⊕ b = record { p = a.p + b.p; n = a.n + b.n }

abbrev pub ◌⊖◌ : Exact → Exact → Exact
a ⊖ b = record { p = a.p + b.n; n = a.n + b.p }

abbrev pub ◌⊗◌ : Exact → Exact → Exact
a ⊗ b = record { p = a.p * b.p + a.n * b.n; n = a.p * b.n + a.n * b.p }

abbrev pub opp : Exact → Exact
opp a = record { p = a.n; n = a.p }

abbrev pub nat : ℕ → Exact
nat m = record { p = m; n = 0 }

-- m with a sign, true for minus
abbrev pub signed : Bool → ℕ → Exact
signed false m = record { p = m; n = 0 }
signed true m = record { p = 0; n = m }

abbrev pub ◌≼◌ : Exact → Exact → Type 0
a ≼ b = a.p + b.n ≤ b.p + a.n

abbrev pub ◌≺◌ : Exact → Exact → Type 0
a ≺ b = a.p + b.n < b.p + a.n

abbrev pub ◌≈◌ : Exact → Exact → Type 0
a ≈ b = a.p + b.n ≡ b.p + a.n

-- |a|
abbrev pub abs : Exact → ℕ
abs a = (a.p - a.n) + (a.n - a.p)

-- |a - b|
abbrev pub apart : Exact → Exact → ℕ
apart a b = abs (a ⊖ b)

-- the two parts of a signed number are at most its size
pub signed_le : (s : Bool) (m : ℕ) → ((signed s m).p ≤ m) × ((signed s m).n ≤ m)
signed_le false m = omega arith
signed_le true m = omega arith

-- |a| is m where a is m with a sign
pub abs_of : (a : Exact) (s : Bool) (m : ℕ) → a ≈ signed s m → abs a ≡ m
abs_of a false m h = omega arith
abs_of a true m h = omega arith

-- equal numbers are equal in size
pub same_size : (s t : Bool) (m n : ℕ) → signed s m ≈ signed t n → m ≡ n
same_size false false m n h = omega arith
same_size false true m n h = omega arith
same_size true false m n h = omega arith
same_size true true m n h = omega arith

-- a number that is not negative is its size
pub plain : (s : Bool) (m : ℕ) → nat 0 ≼ signed s m → signed s m ≈ nat m
plain false m h = omega arith
plain true m h = omega arith

-- a number times u
pub scaled : (a : Exact) (s : Bool) (m u : ℕ) → a ≈ signed s m → a ⊗ nat u ≈ signed s (m * u)
scaled a false m u h = omega (arith, ap (λ (z : ℕ). z * u) h)
scaled a true m u h = omega (arith, ap (λ (z : ℕ). z * u) h)

-- |a|² is a². `omega` takes a difference inside a product for an unknown, so the difference is named and the cases are split by hand
square_of_lem : (p n i j : ℕ) → p - n ≡ i → n - p ≡ j → (i + j) * (i + j) + (p * n + n * p) ≡ p * p + n * n
square_of_lem p n zero j a b = let e : n ≡ p + j = omega arith in rw e (omega arith)
square_of_lem p n (suc i) j a b = let e : p ≡ n + suc i = omega arith in let f : j ≡ 0 = omega arith in rw (e, f) (omega arith)

pub abs_square : (a : Exact) → nat (abs a * abs a) ≈ a ⊗ a
abs_square a = let e = square_of_lem a.p a.n (a.p - a.n) (a.n - a.p) refl refl in omega arith

-- |a| * k is |a * k|
pub abs_scale : (a : Exact) (k : ℕ) → abs a * k ≡ (a.p * k - a.n * k) + (a.n * k - a.p * k)
abs_scale a k = add-mul (a.p - a.n) (a.n - a.p) k ∙ omega (arith, mul_comm (a.p - a.n) k ∙ mul-sub k a.p a.n, mul_comm (a.n - a.p) k ∙ mul-sub k a.n a.p)
