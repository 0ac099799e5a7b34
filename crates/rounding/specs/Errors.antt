-- The error of one add, subtract, multiply and divide, with sign and order, where the result is finite; and bounds under which it is.
-- Rests on `Operations` (one rounding each) and `Rounded` (what that does).
use Rattle.std.specs.Prelude.{◌≡◌, Bool, ℕ, ◌*◌, ◌≤◌, T, Float}
use Rattle.std.proofs.Common.{sym, subst}
use Rattle.std.specs.Float.Ieee.{unlike}
use Rattle.std.specs.Float.Ieee.Scale.{finite}
use Rattle.rounding.specs.Signed.{Exact, signed, ◌≼◌, abs, abs_of}
use Rattle.rounding.specs.Relative.{Near, Close}
use Rattle.rounding.specs.Value.{U, U_pos, E, H, sgn, mag, val, Num, Digits}
use Rattle.rounding.specs.Rounded.{B, round_bounded}
use Rattle.rounding.specs.Operations.{IsRound}

-- ---- v units, rounded: a sum, a difference, a whole number
pub record Rounding (z : Float) (v : Exact) : Type 0 where
  pub num : Num z
  pub near : Near E 1 0 (mag z) (abs v)
  pub close : Close E (abs v) (val z) v
  pub least : (s : Bool) (g : ℕ) → Digits g → signed s g ≼ v → signed s g ≼ val z
  pub most : (s : Bool) (g : ℕ) → Digits g → v ≼ signed s g → val z ≼ signed s g

pub size_bound : (z : Float) (v : Exact) (i : IsRound z v) → abs v ≤ U * B → T (finite z)
size_bound z v i h = subst (λ (x : Float). T (finite x)) (sym i.is) (round_bounded i.sign i.size U U_pos (rw (abs_of v i.sign i.size i.value) at h))

-- ---- the product
pub record Product (x y z : Float) : Type 0 where
  pub num : Num z
  pub sign : sgn z ≡ unlike (sgn x) (sgn y)
  pub near : Near E 1 (U * H) (mag z * U) (mag x * mag y)
  pub least : (g : ℕ) → Digits g → g * U ≤ mag x * mag y → g ≤ mag z
  pub most : (g : ℕ) → Digits g → mag x * mag y ≤ g * U → mag z ≤ g

-- ---- the quotient
pub record Quotient (x y z : Float) : Type 0 where
  pub num : Num z
  pub sign : sgn z ≡ unlike (sgn x) (sgn y)
  pub near : Near E 1 (mag y * H) (mag z * mag y) (mag x * U)
  pub least : (g : ℕ) → Digits g → g * mag y ≤ mag x * U → g ≤ mag z
  pub most : (g : ℕ) → Digits g → mag x * U ≤ g * mag y → mag z ≤ g
