-- Numbers that are not negative: sums, products, quotients and squares of such are such; a difference in order is; x - x is +0.
-- Rests on `Errors`: 0 has 53 digits, so rounding does not pass it.
use Rattle.std.specs.Prelude.{ℕ, ◌+◌, ◌*◌, ◌<◌, Float}
use Rattle.std.proofs.Common.{arith}
use Rattle.float.specs.Ops.{◌+ᶠ◌, ◌*ᶠ◌}
use Rattle.rounding.specs.Value.{E}
use Rattle.rounding.specs.Bounds.{Sized}
use Rattle.rounding.proofs.Bounds.{add_sized, mul_sized}
use Rattle.rounding.proofs.Errors.{add_of_finite, mul_of_finite}
use Rattle.rounding.specs.Signs.{Nonneg, rounding_nonneg, square_plus}

-- x * x + y * y: no NaN, not infinite, not negative
module _ (x y : Float) (k : ℕ) (X : Sized x k) (Y : Sized y k) (h : k * k + k * k < E) where
  pub squares_sized : Sized (x *ᶠ x +ᶠ y *ᶠ y) (k * k + k * k)
  squares_sized = add_sized (mul_sized X X (omega (arith, h))) (mul_sized Y Y (omega (arith, h))) h

  pub squares_nonneg : Nonneg (x *ᶠ x +ᶠ y *ᶠ y)
  squares_nonneg =
      let P = mul_sized X X (omega (arith, h)) in
      let Q = mul_sized Y Y (omega (arith, h)) in
      let p = square_plus (mul_of_finite x x X.num X.num P.num.fine) in
      let q = square_plus (mul_of_finite y y Y.num Y.num Q.num.fine) in
      rounding_nonneg (add_of_finite (x *ᶠ x) (y *ᶠ y) P.num Q.num squares_sized.num.fine) (rw (p, q) (omega arith))
