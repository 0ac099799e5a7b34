-- The row height of a hexagonal lattice, s * sqrt(3) / 2 as the source rounds it: twice it is √3 times the spacing but for 2
-- ^ -31, and it is no more than the spacing.
-- Rests on `Errors`; the root of 3 is computed.
use Rattle.std.specs.Prelude.{◌≡◌, refl, false, ℕ, zero, suc, ◌+◌, ◌*◌, ◌≤◌, ◌<◌, Float}
use Rattle.std.proofs.Common.{le_of_eq, arith}
use Rattle.std.specs.Float.Ieee.{of_bits, fits}
use Rattle.float.specs.Ops.{◌*ᶠ◌, ◌/ᶠ◌, literal, 2ᶠ}
use Rattle.float.specs.Order.{sqrt}
use Rattle.float.specs.Root.{root_of}
use Rattle.rounding.specs.Value.{U, U_pos, H, sgn, mag, Num}
use Rattle.rounding.specs.Bounds.{Sized}
use Rattle.rounding.specs.Distance.{Length, length_plus, half}

-- 3.0
abbrev pub 3ᶠ : Float
3ᶠ = literal 0x4008_0000_0000_0000

-- s * 3.0_f64.sqrt() / 2.0
abbrev pub hex_row : Float → Float
hex_row s = s *ᶠ sqrt 3ᶠ /ᶠ 2ᶠ

pub root_three : sqrt 3ᶠ ≡ literal 0x3ffb_b67a_e858_4caa
unfolding root_of of_bits
root_three = refl

-- its 53 digits
abbrev pub k3 : ℕ
k3 = 0x1b_b67a_e858_4caa

pub two_num : Num 2ᶠ
unfolding of_bits fits
two_num = record { fit = tt; fine = tt }

pub two_mag : mag 2ᶠ ≡ 2 * U
unfolding of_bits mag U
two_mag = refl

pub two_sized : Sized 2ᶠ 2
two_sized = record { num = two_num; size = le_of_eq two_mag }

pub two_plus : sgn 2ᶠ ≡ false
unfolding of_bits sgn
two_plus = refl

-- what a step of the lattice is: a number above 0, up to 65,536
pub record Step (h : Float) : Type 0 where
  pub sized : Sized h 65536
  pub plus : sgn h ≡ false
  pub least : U ≤ mag h * 4194304

pub step_above : {h : Float} → Step h → 0 < mag h
step_above {h} st = go (mag h) st.least
  where
    go : (m : ℕ) → U ≤ m * 4194304 → 0 < m
    go zero l = absurd (omega (arith, l, U_pos))
    go (suc m) l = omega arith

pub length_step : {s : Float} → Length s → Step s
length_step {s} d = record { sized = d.sized; plus = length_plus d; least = omega (arith, d.least) }

pub record Row (s h : Float) : Type 0 where
  pub step : Step h
  pub low : mag h ≤ mag s
  pub tall : mag s * k3 ≤ H * (2 * mag h + half)
