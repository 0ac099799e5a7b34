-- How far along an edge the nearest point lies, as computed: from 0 to 1, or NaN.
-- Rests on the laws of clamping.
use Rattle.std.specs.Prelude.{◌≡◌, Bool, true, false, cond, T, ◌⊎◌, Float}
use Rattle.std.proofs.Common.{inl, inr, arith, lit≤}
use Rattle.std.specs.Float.{nan, binary64}
use Rattle.std.specs.Float.Ieee.{lt, le, of_bits, fits}
use Rattle.std.specs.Float.Ieee.Fits.{div-fits}
use Rattle.float.specs.Ops.{◌/ᶠ◌, ◌≤ᶠ◌, ◌>ᶠ◌, 0ᶠ, 1ᶠ}
use Rattle.float.specs.Order.{clamp}
use Rattle.float.specs.Laws.Nan.{Number, nan_or, lt_nan}
use Rattle.float.specs.Laws.Order.{clamp_fits, clamp_ge, clamp_le}
use Rattle.rounding.specs.Value.{U, mag}
use Rattle.rounding.specs.Comparison.{le→≼}
use Rattle.rounding.specs.Bounds.{Sized, wider, ranged}
use Rattle.rounding.specs.Signs.{Nonneg, zero_num, zero_val, zero_sized}
use Rattle.regions.specs.Clearance.{along}

pub record Part (t : Float) : Type 0 where
  pub sized : Sized t 1
  pub nonneg : Nonneg t

zero_part : Part 0ᶠ
zero_part = record { sized = wider (omega arith) zero_sized; nonneg = rw zero_val (omega arith) }

one_sized : Sized 1ᶠ 1
unfolding of_bits fits mag U
one_sized = record { num = record { fit = tt; fine = tt }; size = lit≤ tt }

zero_one : T (0ᶠ ≤ᶠ 1ᶠ)
unfolding of_bits le
zero_one = tt

clamped : (x : Float) → T (fits binary64 x) → Number x → Part (clamp x 0ᶠ 1ᶠ)
clamped x f n =
    let low = clamp_ge x 0ᶠ 1ᶠ n zero_one in
    let s = ranged (clamp_fits x 0ᶠ 1ᶠ f zero_num.fit one_sized.num.fit) (wider (omega arith) zero_sized) one_sized low (clamp_le x 0ᶠ 1ᶠ n zero_one) in
    record { sized = s; nonneg = rw zero_val at (le→≼ 0ᶠ (clamp x 0ᶠ 1ᶠ) zero_num s.num low) }

clamp_nan : clamp nan 0ᶠ 1ᶠ ≡ nan
unfolding clamp lt
clamp_nan = rw (lt_nan 1ᶠ).0

pub along_part : (dot len2 : Float) → (along dot len2 ≡ nan) ⊎ Part (along dot len2)
unfolding along
along_part dot len2 = go (len2 >ᶠ 0ᶠ)
  where
    go : (t : Bool) → (cond t (clamp (dot /ᶠ len2) 0ᶠ 1ᶠ) 0ᶠ ≡ nan) ⊎ Part (cond t (clamp (dot /ᶠ len2) 0ᶠ 1ᶠ) 0ᶠ)
    go true = elim (nan_or (dot /ᶠ len2)) [ inl e ↦ inl (rw e clamp_nan) | inr n ↦ inr (clamped (dot /ᶠ len2) (div-fits binary64 dot len2) n) ]
    go false = inr zero_part
