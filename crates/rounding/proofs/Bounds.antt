-- Sizes: `Sized x k` is a finite number of size k at most, k a whole number. Sums, differences, products and quotients of
-- such are such, so they are neither NaN nor infinite.
-- Rests on `Errors`: a whole number below 2 ^ 53 is not passed by rounding.
use Rattle.std.proofs.Common.{lt_of_lt_of_le, mul-pos, le_trans, le_of_lt, mul-le-mul, mul-le-mul_left, mul-le-mul_right, arith}
use Rattle.std.specs.Prelude.{true, false, ℕ, zero, suc, ◌+◌, ◌*◌, ◌≤◌, ◌<◌, Float}
use Rattle.float.specs.Ops.{◌+ᶠ◌, ◌-ᶠ◌, ◌*ᶠ◌, ◌/ᶠ◌}
use Rattle.rounding.specs.Signed.{signed_le}
use Rattle.rounding.specs.Value.{U, U_pos, E, sgn, mag, digits_whole}
use Rattle.rounding.specs.Rounded.{B}
use Rattle.rounding.proofs.Errors.{add_law, sub_law, mul_law, div_law}
use Rattle.rounding.specs.Bounds.{Sized, inside}

-- up to 2 ^ 53 a bound is also one on finiteness
room : (k u : ℕ) → k < E → k * u ≤ u * B
room k u h = omega (arith, mul-le-mul_right u (le_of_lt h))

module _ {x y : Float} {a b : ℕ} (p : Sized x a) (q : Sized y b) where
  pub add_sized : a + b < E → Sized (x +ᶠ y) (a + b)
  add_sized h =
      let d = digits_whole (a + b) h in
      let s = add_law x y p.num q.num (omega (arith, p.size, q.size, room (a + b) U h)) in
      let l = signed_le (sgn x) (mag x) in
      let k = signed_le (sgn y) (mag y) in
      record {
        num = s.num;
        size = inside (sgn (x +ᶠ y)) (mag (x +ᶠ y)) ((a + b) * U)
            (s.least true ((a + b) * U) d (omega (arith, p.size, q.size))) (s.most false ((a + b) * U) d (omega (arith, p.size, q.size)));
      }

  pub sub_sized : a + b < E → Sized (x -ᶠ y) (a + b)
  sub_sized h =
      let d = digits_whole (a + b) h in
      let s = sub_law x y p.num q.num (omega (arith, p.size, q.size, room (a + b) U h)) in
      let l = signed_le (sgn x) (mag x) in
      let k = signed_le (sgn y) (mag y) in
      record {
        num = s.num;
        size = inside (sgn (x -ᶠ y)) (mag (x -ᶠ y)) ((a + b) * U)
            (s.least true ((a + b) * U) d (omega (arith, p.size, q.size))) (s.most false ((a + b) * U) d (omega (arith, p.size, q.size)));
      }

  pub mul_sized : a * b < E → Sized (x *ᶠ y) (a * b)
  mul_sized h =
      let m : mag x * mag y ≤ a * b * U * U = le_trans (mul-le-mul p.size q.size) (omega arith) in
      let s = mul_law x y p.num q.num (omega (arith, m, mul-le-mul_right (U * U) (le_of_lt h))) in
      record { num = s.num; size = s.most (a * b * U) (digits_whole (a * b) h) m }

  -- y is 1 / c at least
  pub div_sized : (c : ℕ) → U ≤ mag y * c → a * c < E → Sized (x /ᶠ y) (a * c)
  div_sized c l h =
      let y0 : 0 < mag y = above (mag y) c U U_pos l in
      let m : mag x * U ≤ a * c * U * mag y = omega (arith, mul-le-mul_right U p.size, mul-le-mul_left (a * U) l) in
      let f : mag x ≤ mag y * B = omega (arith, p.size, mul-le-mul_left a l, mul-le-mul_right (mag y) (le_of_lt h)) in
      let s = div_law x y p.num q.num y0 f in
      record { num = s.num; size = s.most (a * c * U) (digits_whole (a * c) h) m }
    where
      above : (m c u : ℕ) → 0 < u → u ≤ m * c → 0 < m
      above zero c u u0 h = absurd (omega (arith, u0, h))
      above (suc m) c u u0 h = omega arith

-- y is b at least
pub div_sized_by : {x y : Float} {c : ℕ} (a b : ℕ) → Sized x (a * b) → Sized y c → 0 < b → b * U ≤ mag y → a < E → Sized (x /ᶠ y) a
div_sized_by {x} {y} a b p q b0 l h =
    let m : mag x * U ≤ a * U * mag y = omega (arith, mul-le-mul_right U p.size, mul-le-mul_left (a * U) l) in
    let f : mag x ≤ mag y * B = omega (arith, p.size, mul-le-mul_left a l, mul-le-mul_right (mag y) (le_of_lt h)) in
    let s = div_law x y p.num q.num (lt_of_lt_of_le (mul-pos b0 U_pos) l) f in
    record { num = s.num; size = s.most (a * U) (digits_whole a h) m }
