-- A turn of the radical inverse's loop: the fuel that is left is enough for the digits that are left.
-- Rests on the quotient being smaller.
use Rattle.std.proofs.Common.{◌≡◌, ℕ, zero, suc, ◌/◌, ◌%◌, ◌<◌, ◌≤◌, refl, le_of_suc-le-suc, arith, ne_eqb}
use native.Mathlib.Nat.{div-lt_self}
use lib.Ieee.{Float}
use Rattle.float.specs.Ops.{◌+ᶠ◌, ◌*ᶠ◌, ◌/ᶠ◌}
use Rattle.float.specs.Whole.{as_f64}
use Rattle.glyphs.specs.Halton.{digits}

smaller : (n base : ℕ) → 2 ≤ base → suc n / base ≤ n
smaller n base h = le_of_suc-le-suc (div-lt_self (omega arith) h)

-- any fuel that the index does not exceed gives the same
fuel_enough :
    (f g base index : ℕ) (value weight : Float) → 2 ≤ base → index ≤ f → index ≤ g
    → digits f base index value weight ≡ digits g base index value weight
unfolding digits
fuel_enough zero zero base index value weight h k l = refl
fuel_enough zero (suc g) base zero value weight h k l = refl
fuel_enough zero (suc g) base (suc n) value weight h k l = absurd (omega arith)
fuel_enough (suc f) zero base zero value weight h k l = refl
fuel_enough (suc f) zero base (suc n) value weight h k l = absurd (omega arith)
fuel_enough (suc f) (suc g) base zero value weight h k l = refl
fuel_enough (suc f) (suc g) base (suc n) value weight h k l =
    rw (ne_eqb (suc n) 0 (λ (e : suc n ≡ 0). omega arith))
    (fuel_enough f g base (suc n / base) (value +ᶠ as_f64 (suc n % base) *ᶠ weight) (weight /ᶠ as_f64 base) h
    (omega (arith, smaller n base h))
    (omega (arith, smaller n base h)))

pub turn :
    (base index : ℕ) (value weight : Float) → 2 ≤ base → 0 < index
    → digits index base index value weight
    ≡ digits (index / base) base (index / base) (value +ᶠ as_f64 (index % base) *ᶠ weight) (weight /ᶠ as_f64 base)
unfolding digits
turn base zero value weight h k = absurd (omega arith)
turn base (suc n) value weight h k =
    rw (ne_eqb (suc n) 0 (λ (e : suc n ≡ 0). omega arith))
    (fuel_enough n (suc n / base) base (suc n / base) (value +ᶠ as_f64 (suc n % base) *ᶠ weight)
    (weight /ᶠ as_f64 base) h (smaller n base h) (omega arith))

pub done : (base index : ℕ) (value weight : Float) → index ≤ 0 → digits index base index value weight ≡ value
unfolding digits
done base zero value weight h = refl
done base (suc n) value weight h = absurd (omega arith)
