-- The numbers of a job: a coordinate counted in 1 / 1,024 or 1 / 65,536 is 1,024 at most; the spacing 2 * r * (1 + gap) is
-- from 2 ^ -20 to 36,864, as `Spacing`, `Lattice` and `Cells` ask, and the inset r * (1 + gap) is 17 times a bound of r.
-- Rests on `Bounds`. A radius above 0 is 2 ^ -21 to 1,084, and a gap 0 to 16.
use Rattle.std.specs.Prelude.{◌≡◌, refl, false, ℕ, ◌*◌, ◌≤◌, ◌<◌, ℤ, nat_abs, Float}
use Rattle.std.proofs.Common.{le_trans, mul-le-mul_right, mul-le-mul_left, arith, lit<, lit≤}
use Rattle.std.specs.Float.{binary64}
use Rattle.std.specs.Float.Ieee.{of_int, of_bits, fits}
use Rattle.float.specs.Ops.{◌+ᶠ◌, ◌*ᶠ◌, ◌/ᶠ◌, 1ᶠ, 2ᶠ}
use Rattle.rounding.specs.Signed.{signed, plain, ◌≼◌}
use Rattle.rounding.specs.Value.{U, sgn, mag, val, digits, digits_whole, digits_twice}
use Rattle.rounding.proofs.Errors.{add_of_finite, mul_of_finite}
use Rattle.rounding.specs.Bounds.{Sized, wider}
use Rattle.rounding.proofs.Bounds.{add_sized, mul_sized, div_sized_by}
use Rattle.rounding.specs.Signs.{Nonneg, product_nonneg}
use Rattle.rounding.proofs.Whole.{int_sized}
use Rattle.rounding.specs.Distance.{Length}
use Rattle.rounding.specs.Row.{two_sized, two_mag, two_plus}
use Rattle.rounding.specs.Lengths.{Factor}

-- a number counted in 1 / d: d is 1,024 in version 1 and 65,536 in version 2
pub coordinate_sized :
    (d : ℕ) (unit : Float) → Sized unit d → 0 < d → d * U ≤ mag unit → d ≤ 65536 → (z : ℤ) → nat_abs z ≤ 1024 * d
    → Sized (of_int binary64 z /ᶠ unit) 1024
coordinate_sized d unit u d0 l h z k = div_sized_by 1024 d (int_sized z (1024 * d) k (omega (arith, h))) u d0 l (lit< tt)

one_sized : Sized 1ᶠ 1
unfolding of_bits fits mag U
one_sized = record { num = record { fit = tt; fine = tt }; size = lit≤ tt }

one_val : val 1ᶠ ≡ signed false (1 * U)
unfolding of_bits sgn mag U
one_val = refl

pub factor : (gap : Float) → Sized gap 16 → Nonneg gap → Factor (1ᶠ +ᶠ gap)
factor gap g o =
    let f = 1ᶠ +ᶠ gap in
    let s = add_sized one_sized g (lit< tt) in
    let r = add_of_finite 1ᶠ gap one_sized.num g.num s.num.fine in
    let l : signed false (1 * U) ≼ val f = r.least false (1 * U) (digits_whole 1 (lit< tt)) (rw one_val (omega (arith, o))) in
    let n : Nonneg f = omega (arith, l) in
    record { sized = s; nonneg = n; least = omega (arith, l, plain (sgn f) (mag f) n) }

-- r is k at most
module _ (k : ℕ) (few : k ≤ 1084) (r gap : Float) (R : Sized r k) (o : Nonneg r) (G : Sized gap 16) (o' : Nonneg gap) where
  -- r * (1.0 + boundary_gap)
  pub inset_sized : Sized (r *ᶠ (1ᶠ +ᶠ gap)) (k * 17)
  inset_sized = mul_sized R (factor gap G o').sized (omega (arith, few))

  -- 2.0 * r * (1.0 + gap)
  double : Sized (2ᶠ *ᶠ r) (2 * k)
  double = mul_sized two_sized R (omega (arith, few))

  pub spacing_sized : Sized (2ᶠ *ᶠ r *ᶠ (1ᶠ +ᶠ gap)) 36864
  spacing_sized = wider (omega (arith, few)) (mul_sized double (factor gap G o').sized (omega (arith, few)))

  pub spacing_length : U ≤ mag r * 2097152 → Length (2ᶠ *ᶠ r *ᶠ (1ᶠ +ᶠ gap))
  spacing_length l =
      let f = 1ᶠ +ᶠ gap in
      let d = 2ᶠ *ᶠ r in
      let s = d *ᶠ f in
      let F = factor gap G o' in
      let p = mul_of_finite 2ᶠ r two_sized.num R.num double.num.fine in
      let q = mul_of_finite d f double.num F.sized.num spacing_sized.num.fine in
      let g = digits_twice (digits r R.num) in
      let a : 2 * mag r ≤ mag d = p.least (2 * mag r) g (rw two_mag (omega arith)) in
      let b : 2 * mag r ≤ mag s = q.least (2 * mag r) g (le_trans (mul-le-mul_right U a) (mul-le-mul_left (mag d) F.least)) in
      record {
        sized = wider (lit≤ tt) spacing_sized;
        nonneg = product_nonneg d f s q (product_nonneg 2ᶠ r d p (rw two_plus (omega arith)) o) F.nonneg;
        least = omega (arith, l, b);
      }
