-- A job's gaps are 0 to 16, and the inset at a radius of 2 ^ -21 to k, where k is 1,084 at most, is above 0.
-- Rests on the rounding laws of lengths.
use Rattle.std.proofs.Common.{sym, ap, ◌∙◌, le_trans, le_of_eq, mul_assoc, mul-le-mul_left, mul-le-mul_right, arith, pow-add}
use Rattle.std.specs.Prelude.{ℕ, zero, suc, ◌*◌, ◌^◌, ◌≤◌, ◌<◌, T, Float}
use Rattle.float.specs.Ops.{◌+ᶠ◌, ◌*ᶠ◌, ◌<ᶠ◌, 0ᶠ, 1ᶠ}
use Rattle.float.specs.Order.{max}
use Rattle.rounding.specs.Value.{U, U_pos, U-is, mag, digits}
use Rattle.rounding.specs.Comparison.{≺→lt}
use Rattle.rounding.proofs.Errors.{mul_of_finite}
use Rattle.rounding.specs.Bounds.{Sized}
use Rattle.rounding.specs.Signs.{Nonneg, positive, product_nonneg, zero_num, zero_val}
use Rattle.rounding.specs.Selection.{max_zero_same}
use Rattle.rounding.proofs.Lengths.{factor, inset_sized}
use Rattle.format.specs.Numbers.{share}
use Rattle.format.specs.Exact.{share_exact}
use Rattle.job.specs.Known.{Shares}
use Rattle.claims.specs.Chosen.{share_nonneg}
use Rattle.claims.specs.Radii.{Usable}

-- ---- gaps: 0 to 16
pub record Gap (g : Float) : Type 0 where
  pub sized : Sized g 16
  pub nonneg : Nonneg g

share_gap : (n : ℕ) → n ≤ 16384 → Gap (share n)
share_gap n h =
    let m = share_exact n (omega arith) in
    record {
      sized = record {
        num = m.num;
        size =
            le_trans (le_of_eq m.is)
            (le_trans (mul-le-mul_right (2 ^ 1064) h) (le_of_eq (mul_assoc 16 1024 (2 ^ 1064) ∙ ap (λ (z : ℕ). 16 * z) (sym (pow-add 2 10 1064) ∙ sym U-is))));
      };
      nonneg = share_nonneg n (omega arith);
    }

pub not_below : (g : Float) → Gap g → Gap (max g 0ᶠ)
not_below g h = rw (max_zero_same g h.sized.num h.nonneg) h

pub gap_of_lem : (x : Float) → Shares 0 16384 x → Gap x
gap_of_lem x s = rw s.is (share_gap s.number s.to)

-- ---- the inset
above_zero : (m u : ℕ) → 0 < u → u ≤ m * 2097152 → 0 < m
above_zero zero u u0 h = absurd (omega (arith, u0, h))
above_zero (suc m) u u0 h = omega arith

module _ (k : ℕ) (few : k ≤ 1084) (r gap : Float) (R : Usable r k) (G : Gap gap) where
  -- r * (1.0 + boundary_gap)
  pub inset_above : T (0ᶠ <ᶠ r *ᶠ (1ᶠ +ᶠ gap))
  inset_above =
      let f = 1ᶠ +ᶠ gap in
      let z = r *ᶠ f in
      let sized = inset_sized k few r gap R.sized R.nonneg G.sized G.nonneg in
      let F = factor gap G.sized G.nonneg in
      let p = mul_of_finite r f R.sized.num F.sized.num sized.num.fine in
      let big : mag r ≤ mag z = p.least (mag r) (digits r R.sized.num) (mul-le-mul_left (mag r) F.least) in
      let m : 0 < mag z = omega (arith, big, above_zero (mag r) U U_pos R.least) in
      ≺→lt 0ᶠ z zero_num sized.num (rw (zero_val, positive z m (product_nonneg r f z p R.nonneg F.nonneg)) (omega (arith, m)))
