-- Where nothing is lost: sums and differences of multiples of 2 ^ j units whose counts stay below 2 ^ 53, and products and halves of such.
-- Rests on `Errors`: a result of 53 digits does not change. j is 1,064 for 1 / 1,024 and 1,058 for 1 / 65,536.
use Rattle.std.specs.Prelude.{◌≡◌, Bool, ℕ, ◌*◌, ◌^◌, ◌≤◌, Float}
use Rattle.std.proofs.Common.{arith}
use Rattle.rounding.specs.Signed.{Exact, signed, ◌≈◌}
use Rattle.rounding.specs.Value.{mag, val, Num, Digits}
use Rattle.rounding.specs.Errors.{Rounding}

-- x is c times 2 ^ j units in size
pub record Multiple (x : Float) (j c : ℕ) : Type 0 where
  pub num : Num x
  pub is : mag x ≡ c * 2 ^ j

-- v has at most 53 digits: it is what it is rounded to
pub exact : {z : Float} {v : Exact} (s : Bool) (g : ℕ) → Rounding z v → Digits g → v ≈ signed s g → val z ≈ v
exact s g r d e = omega (arith, e, r.least s g d (omega (arith, e)), r.most s g d (omega (arith, e)))

-- z is v itself, and a multiple again
pub record Sum (z : Float) (v : Exact) (j k : ℕ) : Type 0 where
  pub value : val z ≈ v
  pub count : ℕ
  pub few : count ≤ k
  pub multiple : Multiple z j count
