-- Integers read as exact numbers: their order, and the three ways in which two of them stand.
-- Rests on nothing.
use Rattle.std.specs.Prelude.{◌≡◌, zero, suc, ℤ, pos, negsuc, T}
use Rattle.std.proofs.Common.{sym, ap, inl, inr, eq-or-lt_of_le, arith, leb→le}
use Rattle.std.proofs.Math.IntN.{suc_ℤ}
use Rattle.std.specs.Int.Signed.{le_z}
use Rattle.laws.specs.Orders.{lt_or_le}
use Rattle.rounding.specs.Signed.{Exact, nat, ◌⊕◌, ◌≈◌, ◌≼◌}

abbrev pub int : ℤ → Exact
int (pos n) = nat n
int (negsuc n) = record { p = 0; n = suc n }

pub int_le : (a b : ℤ) → T (le_z a b) → int a ≼ int b
int_le (pos m) (pos n) h = omega (arith, leb→le m n h)
int_le (pos m) (negsuc n) h = absurd h
int_le (negsuc m) (pos n) h = omega arith
int_le (negsuc m) (negsuc n) h = omega (arith, leb→le n m h)

pub int_suc : (a : ℤ) → int (suc_ℤ a) ≈ int a ⊕ nat 1
int_suc (pos n) = omega arith
int_suc (negsuc zero) = omega arith
int_suc (negsuc (suc n)) = omega arith

-- the order of two integers
pub data Order (a b : ℤ) : Type 0 where
  same : a ≡ b → Order a b
  below : int a ⊕ nat 1 ≼ int b → Order a b
  above : int b ⊕ nat 1 ≼ int a → Order a b

pub order : (a b : ℤ) → Order a b
order (pos m) (pos n) = elim (lt_or_le m n) [
  | inl l ↦ below (omega (arith, l))
  | inr l ↦ elim (eq-or-lt_of_le l) [ inl e ↦ same (ap pos (sym e)) | inr g ↦ above (omega (arith, g)) ]
]
order (pos m) (negsuc n) = above (omega arith)
order (negsuc m) (pos n) = below (omega arith)
order (negsuc m) (negsuc n) = elim (lt_or_le m n) [
  | inl l ↦ above (omega (arith, l))
  | inr l ↦ elim (eq-or-lt_of_le l) [ inl e ↦ same (ap negsuc (sym e)) | inr g ↦ below (omega (arith, g)) ]
]
