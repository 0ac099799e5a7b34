-- The row height of a hexagonal lattice, s * sqrt(3) / 2 as the source rounds it: twice it is √3 times the spacing but for 2
-- ^ -31, and it is no more than the spacing.
-- Rests on `Errors`; the root of 3 is computed.
use Rattle.std.specs.Prelude.{◌≡◌, refl, false, ℕ, ◌+◌, ◌*◌, ◌≤◌, ◌<◌, T, Float}
use Rattle.std.proofs.Common.{sym, ap, ap₂, ◌∙◌, subst, le_trans, le_of_eq, mul-le-mul_right, mul-le-mul_left, mul-pos, arith, lit<, lit≤}
use Rattle.std.proofs.Math.Nat.{le_of_mul-le-mul_right}
use Rattle.std.specs.Float.Ieee.{unlike, of_bits, fits}
use Rattle.float.specs.Ops.{◌*ᶠ◌, 2ᶠ}
use Rattle.float.specs.Order.{sqrt}
use Rattle.float.specs.Root.{root_of}
use Rattle.rounding.specs.Relative.{Under}
use Rattle.rounding.specs.Value.{U, U_pos, E, H, sgn, mag, Num, digits, digits_twice}
use Rattle.rounding.proofs.Errors.{mul_of_finite, div_law}
use Rattle.rounding.specs.Bounds.{Sized}
use Rattle.rounding.proofs.Bounds.{mul_sized}
use Rattle.rounding.specs.Distance.{Length, length_plus, tiny_is, tiny_big, half, half_is}
use Rattle.rounding.specs.Row.{3ᶠ, Row, hex_row, k3, root_three, two_mag, two_num, two_plus}

three_mag : mag (sqrt 3ᶠ) * H ≡ k3 * U
unfolding root_of of_bits mag U
three_mag = refl

-- the digits against √3, by squares
pub three_square : 3 * (H * H) ≤ k3 * k3 + E
three_square = lit≤ tt

-- ---- numbers only: S times the digits k of √3 over h, T what that rounds to, R half of T rounded; h stands for H, h * 2 for E, g for 2 ^ -31
first : (h u S K T k : ℕ) → 0 < u → K * h ≡ k * u → Under (h * 2) 1 (u * h) (S * K) (T * u) → S * k * (h * 2) ≤ h * (T * (h * 2 + 1) + h)
first h u S K T k u0 e p = le_of_mul-le-mul_right {k = u} (omega (arith, mul-le-mul_right h p, ap (λ (z : ℕ). z * (S * h)) e)) u0

second : (h u T R : ℕ) → 0 < u → Under (h * 2) 1 (2 * u * h) (T * u) (R * (2 * u)) → T * (h * 2) ≤ 2 * R * (h * 2 + 1) + 2 * h
second h u T R u0 p = le_of_mul-le-mul_right {k = u} (omega (arith, p)) u0

both :
    (h S k T R g : ℕ) → 0 < h → S * k * (h * 2) ≤ h * (T * (h * 2 + 1) + h) → T * (h * 2) ≤ 2 * R * (h * 2 + 1) + 2 * h
    → 6 * R + 4 * h ≤ g * (h * 2) → S * k ≤ h * (2 * R + g)
both h S k T R g h0 p q r =
    le_of_mul-le-mul_right {k = h * h * 4}
    (omega (
      arith,
      mul-le-mul_right (h * 2) p,
      mul-le-mul_left (h * (h * 2 + 1)) q,
      mul-le-mul_right (h * h * 2) r,
      mul-le-mul_left (h * R) h0,
      mul-le-mul_left (h * h) h0,
    ))
    (mul-pos (mul-pos h0 h0) (lit< {n = 4} tt))

-- ---- the floats
three : Sized (sqrt 3ᶠ) 2
three =
    record {
      num = subst Num (sym root_three) (unfold of_bits fits in record { fit = tt; fine = tt });
      size = le_of_mul-le-mul_right {k = H}
          (le_trans (le_of_eq three_mag) (omega arith)) (lit< tt);
    }

three_plus : sgn (sqrt 3ᶠ) ≡ false
unfolding root_of of_bits sgn
three_plus = refl

pub row_law : (s : Float) → Length s → Row s (hex_row s)
row_law s d =
    let t = s *ᶠ sqrt 3ᶠ in
    let h = hex_row s in
    let S = d.sized in
    let T' = mul_sized S three (lit< tt) in
    let p = mul_of_finite s (sqrt 3ᶠ) S.num three.num T'.num.fine in
    let q = div_law t 2ᶠ T'.num two_num (rw two_mag (omega (arith, U_pos))) (rw two_mag (omega (arith, T'.size))) in
    let twice : mag t ≤ 2 * mag s = p.most (2 * mag s) (digits_twice (digits s S.num)) (omega (arith, mul-le-mul_left (mag s) three.size)) in
    let low : mag h ≤ mag s = q.most (mag s) (digits s S.num) (rw two_mag (omega (arith, mul-le-mul_right U twice))) in
    let small : mag h ≤ 65536 * U = le_trans low S.size in
    let a = first H U (mag s) (mag (sqrt 3ᶠ)) (mag t) k3 U_pos three_mag p.near.below in
    let b = second H U (mag t) (mag h) U_pos (rw two_mag at q.near.below) in
    let tall = both H (mag s) k3 (mag t) (mag h) half (lit< tt) a b (room (mag h) small) in
    record {
      step = record {
        sized = record { num = q.num; size = small };
        plus = q.sign ∙ ap₂ unlike (p.sign ∙ ap₂ unlike (length_plus d) three_plus) two_plus;
        least = high (mag s) (mag h) d.least tall;
      };
      low = low;
      tall = tall;
    }
  where
    room : (m : ℕ) → m ≤ 65536 * U → 6 * m + 4 * H ≤ half * (H * 2)
    room m h = omega (arith, h, tiny_is, tiny_big, half_is)

    high : (S R : ℕ) → U ≤ S * 1048576 → S * k3 ≤ H * (2 * R + half) → U ≤ R * 4194304
    high S R h t = omega (arith, h, t, tiny_is, half_is)
