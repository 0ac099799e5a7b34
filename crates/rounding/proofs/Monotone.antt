-- Rounding keeps the order: of two exact sums, products, quotients or integers the smaller one comes out no larger.
-- Rests on `Rounded` (`round` keeps the order of sizes) and `Operations`.
use Rattle.std.proofs.Common.{subst, mul-le-mul_right, mul-pos, arith}
use Rattle.std.specs.Prelude.{Bool, true, false, ℕ, ◌+◌, ◌*◌, ◌≤◌, ◌<◌, T, Float}
use Rattle.std.specs.Float.{binary64}
use Rattle.std.specs.Float.Ieee.{round, unlike}
use Rattle.std.specs.Float.Ieee.Scale.{finite}
use Rattle.float.specs.Ops.{◌+ᶠ◌, ◌-ᶠ◌, ◌*ᶠ◌, ◌/ᶠ◌}
use Rattle.rounding.specs.Signed.{Exact, signed, ◌⊕◌, ◌⊖◌, ◌≼◌}
use Rattle.rounding.specs.Value.{U, U_pos, sgn, mag, val, Num, digits_zero}
use Rattle.rounding.specs.Rounded.{round_mag}
use Rattle.rounding.proofs.Rounded.{rounded_units}
use Rattle.rounding.specs.Operations.{IsRound, add_is, sub_is, mul_is, div_is}

-- v and w units with signs, rounded
round_le : (s t : Bool) (v w : ℕ) → T (finite (round binary64 s v U)) → T (finite (round binary64 t w U)) → signed s v ≼ signed t w
    → signed s (mag (round binary64 s v U)) ≼ signed t (mag (round binary64 t w U))
round_le false false v w f g h = omega (arith, round_mag false false v U w U U_pos U_pos (mul-le-mul_right U (plain h)) g)
  where
    plain : v + 0 ≤ w + 0 → v ≤ w
    plain h = omega arith
round_le false true v w f g h =
    omega (arith, (rounded_units false v f).most 0 digits_zero (omega (arith, h)), (rounded_units true w g).most 0 digits_zero (omega (arith, h)))
round_le true false v w f g h = omega arith
round_le true true v w f g h = omega (arith, round_mag true true w U v U U_pos U_pos (mul-le-mul_right U (plain h)) f)
  where
    plain : 0 + w ≤ 0 + v → w ≤ v
    plain h = omega arith

-- and so a sum, a difference, an integer
pub round_order : (x y : Float) (v w : Exact) → IsRound x v → IsRound y w → T (finite x) → T (finite y) → v ≼ w → val x ≼ val y
round_order x y v w i j f g h =
    let s = i.sign in
    let t = j.sign in
    let a = round binary64 s i.size U in
    let b = round binary64 t j.size U in
    let fa : T (finite a) = subst (λ (z : Float). T (finite z)) i.is f in
    let fb : T (finite b) = subst (λ (z : Float). T (finite z)) j.is g in
    let k = round_le s t i.size j.size fa fb (omega (arith, h, i.value, j.value)) in
    rw (i.is, j.is) (rw ((rounded_units s i.size fa).sign, (rounded_units t j.size fb).sign) k)

module _ (x y x' y' : Float) (p : Num x) (q : Num y) (p' : Num x') (q' : Num y') where
  pub add_mono : T (finite (x +ᶠ y)) → T (finite (x' +ᶠ y')) → val x ⊕ val y ≼ val x' ⊕ val y' → val (x +ᶠ y) ≼ val (x' +ᶠ y')
  add_mono f g h = round_order (x +ᶠ y) (x' +ᶠ y') (val x ⊕ val y) (val x' ⊕ val y') (add_is x y p q) (add_is x' y' p' q') f g h

  pub sub_mono : T (finite (x -ᶠ y)) → T (finite (x' -ᶠ y')) → val x ⊖ val y ≼ val x' ⊖ val y' → val (x -ᶠ y) ≼ val (x' -ᶠ y')
  sub_mono f g h = round_order (x -ᶠ y) (x' -ᶠ y') (val x ⊖ val y) (val x' ⊖ val y') (sub_is x y p q) (sub_is x' y' p' q') f g h

  pub mul_mono : T (finite (x' *ᶠ y')) → mag x * mag y ≤ mag x' * mag y' → mag (x *ᶠ y) ≤ mag (x' *ᶠ y')
  mul_mono f h =
      let u0 : 0 < U * U = mul-pos U_pos U_pos in
      let is = mul_is x' y' p' q' in
      rw (mul_is x y p q, is)
      (round_mag (unlike (sgn x) (sgn y)) (unlike (sgn x') (sgn y')) (mag x * mag y) (U * U)
      (mag x' * mag y') (U * U) u0 u0 (mul-le-mul_right (U * U) h) (subst (λ (z : Float). T (finite z)) is f))

  pub div_mono : 0 < mag y → 0 < mag y' → T (finite (x' /ᶠ y')) → mag x * mag y' ≤ mag x' * mag y → mag (x /ᶠ y) ≤ mag (x' /ᶠ y')
  div_mono y0 y0' f h =
      let is = div_is x' y' p' q' y0' in
      rw (div_is x y p q y0, is)
      (round_mag (unlike (sgn x) (sgn y)) (unlike (sgn x') (sgn y')) (mag x) (mag y) (mag x') (mag y') y0 y0' h (subst (λ (z : Float). T (finite z)) is f))
