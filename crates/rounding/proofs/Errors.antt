-- The error of one add, subtract, multiply and divide, with sign and order, where the result is finite; and bounds under which it is.
-- Rests on `Operations` (one rounding each) and `Rounded` (what that does).
use Rattle.std.specs.Prelude.{◌≡◌, Bool, true, false, ℕ, ◌+◌, ◌*◌, ◌≤◌, ◌<◌, T, Float}
use Rattle.std.proofs.Common.{sym, subst, mul-le-mul_right, mul-pos, arith}
use Rattle.std.specs.Float.Ieee.{unlike}
use Rattle.std.specs.Float.Ieee.Scale.{finite}
use Rattle.float.specs.Ops.{◌+ᶠ◌, ◌-ᶠ◌, ◌*ᶠ◌, ◌/ᶠ◌}
use Rattle.rounding.specs.Signed.{Exact, signed, ◌⊕◌, ◌⊖◌, ◌≈◌, ◌≼◌, abs, abs_of, signed_le}
use Rattle.rounding.specs.Relative.{Near, cancel, Close, close_signed}
use Rattle.rounding.specs.Value.{U, U_pos, E, H, sgn, mag, val, Num, Digits, digits_zero}
use Rattle.rounding.specs.Rounded.{B, Rounded, RoundedUnits, round_bounded}
use Rattle.rounding.proofs.Rounded.{rounded, rounded_units}
use Rattle.rounding.specs.Operations.{IsRound, add_is, sub_is, mul_is, div_is}
use Rattle.rounding.specs.Errors.{Product, Quotient, Rounding, size_bound}

module _ (v : Exact) (m w : ℕ) (least : (g : ℕ) → Digits g → g ≤ w → g ≤ m) (most : (g : ℕ) → Digits g → w ≤ g → m ≤ g) where
  at_least : (t s : Bool) (g : ℕ) → v ≈ signed t w → Digits g → signed s g ≼ v → signed s g ≼ signed t m
  at_least false false g e d h = omega (arith, least g d (omega arith))
  at_least false true g e d h = omega arith
  at_least true false g e d h = omega (arith, most 0 digits_zero (omega arith))
  at_least true true g e d h = omega (arith, most g d (omega arith))

  at_most : (t s : Bool) (g : ℕ) → v ≈ signed t w → Digits g → v ≼ signed s g → signed t m ≼ signed s g
  at_most false false g e d h = omega (arith, most g d (omega arith))
  at_most false true g e d h = omega (arith, most 0 digits_zero (omega arith))
  at_most true false g e d h = omega arith
  at_most true true g e d h = omega (arith, least g d (omega arith))

close_at : (v : Exact) (t : Bool) (m w : ℕ) → v ≈ signed t w → Near E 1 0 m w → Close E w (signed t m) v
close_at v t m w h r = let c = close_signed E 0 m w t r in record { above = omega (arith, c.above, h); below = omega (arith, c.below, h) }

pub rounding : (z : Float) (v : Exact) → IsRound z v → T (finite z) → Rounding z v
rounding z v i f =
    let s = i.sign in
    let w = i.size in
    let r : RoundedUnits z s w = subst (λ (x : Float). RoundedUnits x s w) (sym i.is) (rounded_units s w (subst (λ (x : Float). T (finite x)) i.is f)) in
    let a : abs v ≡ w = abs_of v s w i.value in
    let t : sgn z ≡ s = r.sign in
    record {
      num = r.num;
      near = rw a r.near;
      close = rw (a, t) (close_at v s (mag z) w i.value r.near);
      least = rw t (λ (b : Bool) (g : ℕ). at_least v (mag z) w r.least r.most s b g i.value);
      most = rw t (λ (b : Bool) (g : ℕ). at_most v (mag z) w r.least r.most s b g i.value);
    }

module _ (x y : Float) (p : Num x) (q : Num y) where
  pub add_of_finite : T (finite (x +ᶠ y)) → Rounding (x +ᶠ y) (val x ⊕ val y)
  add_of_finite f = rounding (x +ᶠ y) (val x ⊕ val y) (add_is x y p q) f

  pub sub_of_finite : T (finite (x -ᶠ y)) → Rounding (x -ᶠ y) (val x ⊖ val y)
  sub_of_finite f = rounding (x -ᶠ y) (val x ⊖ val y) (sub_is x y p q) f

  pub add_finite : mag x + mag y ≤ U * B → T (finite (x +ᶠ y))
  add_finite h = size_bound (x +ᶠ y) (val x ⊕ val y) (add_is x y p q) (omega (arith, h, signed_le (sgn x) (mag x), signed_le (sgn y) (mag y)))

  pub sub_finite : mag x + mag y ≤ U * B → T (finite (x -ᶠ y))
  sub_finite h = size_bound (x -ᶠ y) (val x ⊖ val y) (sub_is x y p q) (omega (arith, h, signed_le (sgn x) (mag x), signed_le (sgn y) (mag y)))

  pub add_law : mag x + mag y ≤ U * B → Rounding (x +ᶠ y) (val x ⊕ val y)
  add_law h = add_of_finite (add_finite h)

  pub sub_law : mag x + mag y ≤ U * B → Rounding (x -ᶠ y) (val x ⊖ val y)
  sub_law h = sub_of_finite (sub_finite h)

by_unit : (g a u : ℕ) → 0 < u → Near E 1 (u * u * H) (g * (u * u)) (a * u) → Near E 1 (u * H) (g * u) a
by_unit g a u u0 w = cancel E 1 (u * H) (g * u) a u u0 (record { above = omega (arith, w.above); below = omega (arith, w.below) })

module _ (x y : Float) (p : Num x) (q : Num y) where
  pub mul_of_finite : T (finite (x *ᶠ y)) → Product x y (x *ᶠ y)
  mul_of_finite f =
      let is = mul_is x y p q in
      let s = unlike (sgn x) (sgn y) in
      let n = mag x * mag y in
      let r : Rounded (x *ᶠ y) s (n * U) (U * U) =
      subst (λ (z : Float). Rounded z s (n * U) (U * U)) (sym is) (rounded s n (U * U) (mul-pos U_pos U_pos) (subst (λ (z : Float). T (finite z)) is f)) in
      record {
        num = r.num;
        sign = r.sign;
        near = by_unit (mag (x *ᶠ y)) n U U_pos r.near;
        least = λ g d h. r.least g d (omega (arith, mul-le-mul_right U h));
        most = λ g d h. r.most g d (omega (arith, mul-le-mul_right U h));
      }

  pub mul_finite : mag x * mag y ≤ U * U * B → T (finite (x *ᶠ y))
  mul_finite h =
      subst (λ (z : Float). T (finite z)) (sym (mul_is x y p q)) (round_bounded (unlike (sgn x) (sgn y)) (mag x * mag y) (U * U) (mul-pos U_pos U_pos) h)

  pub mul_law : mag x * mag y ≤ U * U * B → Product x y (x *ᶠ y)
  mul_law h = mul_of_finite (mul_finite h)

  pub div_of_finite : 0 < mag y → T (finite (x /ᶠ y)) → Quotient x y (x /ᶠ y)
  div_of_finite y0 f =
      let is = div_is x y p q y0 in
      let s = unlike (sgn x) (sgn y) in
      let r : Rounded (x /ᶠ y) s (mag x * U) (mag y) =
      subst (λ (z : Float). Rounded z s (mag x * U) (mag y)) (sym is) (rounded s (mag x) (mag y) y0 (subst (λ (z : Float). T (finite z)) is f)) in
      record { num = r.num; sign = r.sign; near = r.near; least = r.least; most = r.most }

  pub div_finite : 0 < mag y → mag x ≤ mag y * B → T (finite (x /ᶠ y))
  div_finite y0 h = subst (λ (z : Float). T (finite z)) (sym (div_is x y p q y0)) (round_bounded (unlike (sgn x) (sgn y)) (mag x) (mag y) y0 h)

  pub div_law : 0 < mag y → mag x ≤ mag y * B → Quotient x y (x /ᶠ y)
  div_law y0 h = div_of_finite y0 (div_finite y0 h)
