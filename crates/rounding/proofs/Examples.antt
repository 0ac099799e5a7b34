-- The hypotheses of the lemmas can be met: an instance of each, at the ends of its bounds where that says more.
-- Rests on computation.
use Rattle.std.proofs.Math.Path.{◌≡◌}
use Rattle.std.specs.Prelude.{refl, false, ℕ, ◌*◌, negsuc, T, Float}
use Rattle.std.proofs.Math.Logic.{inl}
use Rattle.std.proofs.Math.Bool.{true}
use native.Mathlib.Omega.{arith}
use Rattle.std.proofs.Math.IntN.{pos}
use Rattle.std.proofs.Math.Dec.{lit≤}
use Rattle.std.proofs.Common.{lit<}
use Rattle.std.specs.Float.{binary64}
use Rattle.std.specs.Float.Ieee.{of_int, fits, of_bits, neg, add, sub, mul, div, le, to_signed}
use Rattle.float.specs.Ops.{◌+ᶠ◌, ◌*ᶠ◌, ◌/ᶠ◌, literal, 0ᶠ, ½ᶠ, 1ᶠ, 2ᶠ}
use Rattle.float.specs.Order.{sqrt}
use Rattle.float.specs.Root.{root_of}
use Rattle.float.specs.Whole.{floor, ceil}
use Rattle.rounding.specs.Signed.{◌⊕◌}
use Rattle.rounding.specs.Value.{U, sgn, mag, val}
use Rattle.rounding.specs.Bounds.{Sized, wider, neg_sized}
use Rattle.rounding.specs.Signs.{zero_sized, zero_val}
use Rattle.rounding.specs.Exactness.{Sum}
use Rattle.rounding.proofs.Exactness.{add_exact}
use Rattle.rounding.specs.Root.{NearRoot}
use Rattle.rounding.specs.Sqrt.{sqrt_law}
use Rattle.rounding.proofs.Sqrt.{sqrt_near}
use Rattle.rounding.specs.Distance.{Length, Spaced}
use Rattle.rounding.proofs.Lengths.{coordinate_sized, spacing_length}
use Rattle.rounding.specs.Spacing.{computed}
use Rattle.rounding.proofs.SpacingApart.{spacing}
use Rattle.rounding.specs.Cells.{cell_of, TwoApart}
use Rattle.rounding.proofs.CellsGap.{cells_across}
use Rattle.rounding.specs.Row.{hex_row, length_step, two_num}
use Rattle.rounding.specs.Steps.{Reach, across, along, offset}
use Rattle.rounding.specs.Lattice.{odd}
use Rattle.rounding.proofs.Lattice.{hexagonal, rectangular}
use Rattle.rounding.proofs.Walk.{across_walk}

-- ---- numbers
-- 65536.0 and 2 ^ -20
abbrev most : Float
most = literal 0x40f0_0000_0000_0000

abbrev least : Float
least = literal 0x3eb0_0000_0000_0000

most_sized : Sized most 65536
most_sized = record { num = unfold of_bits fits in record { fit = tt; fine = tt }; size = unfold of_bits mag U in lit≤ tt }

origin_sized : Sized 0ᶠ 65536
origin_sized = wider (lit≤ tt) zero_sized

half_sized : Sized ½ᶠ 65536
half_sized = record { num = unfold of_bits fits in record { fit = tt; fine = tt }; size = unfold of_bits mag U in lit≤ tt }

-- a spacing at either end
longest : Length most
longest = record { sized = most_sized; nonneg = unfold of_bits sgn in omega arith; least = unfold of_bits mag U in lit≤ tt }

shortest : Length least
shortest = record {
  sized = record { num = unfold of_bits fits in record { fit = tt; fine = tt }; size = unfold of_bits mag U in lit≤ tt };
  nonneg = unfold of_bits sgn in omega arith;
  least = unfold of_bits mag U in lit≤ tt;
}

unit : Length 1ᶠ
unit = record {
  sized = record { num = unfold of_bits fits in record { fit = tt; fine = tt }; size = unfold of_bits mag U in lit≤ tt };
  nonneg = unfold of_bits sgn in omega arith;
  least = unfold of_bits mag U in lit≤ tt;
}

-- ---- the numbers of a job
abbrev thousand : Float
thousand = literal 0x4090_0000_0000_0000

thousand_sized : Sized thousand 1024
thousand_sized = record { num = unfold of_bits fits in record { fit = tt; fine = tt }; size = unfold of_bits mag U in lit≤ tt }

-- 16.0 and 2 ^ -21
abbrev sixteen : Float
sixteen = literal 0x4030_0000_0000_0000

sixteen_sized : Sized sixteen 16
sixteen_sized = record { num = unfold of_bits fits in record { fit = tt; fine = tt }; size = unfold of_bits mag U in lit≤ tt }

abbrev smallest : Float
smallest = literal 0x3ea0_0000_0000_0000

smallest_sized : Sized smallest 1024
smallest_sized = record { num = unfold of_bits fits in record { fit = tt; fine = tt }; size = unfold of_bits mag U in lit≤ tt }

-- -1,024, in 1 / 1,024 and in 1 / 65,536
coordinates : Sized (of_int binary64 (negsuc 1048575) /ᶠ thousand) 1024 × Sized (of_int binary64 (negsuc 67108863) /ᶠ most) 1024
coordinates = (
  coordinate_sized 1024 thousand thousand_sized (lit< tt) (unfold of_bits mag U in lit≤ tt) (lit≤ tt) (negsuc 1048575) (lit≤ tt),
  coordinate_sized 65536 most most_sized (lit< tt) (unfold of_bits mag U in lit≤ tt) (lit≤ tt) (negsuc 67108863) (lit≤ tt),
)

-- the greatest radius with the greatest gap, and the least radius with none
lengths : Length (2ᶠ *ᶠ thousand *ᶠ (1ᶠ +ᶠ sixteen)) × Length (2ᶠ *ᶠ smallest *ᶠ (1ᶠ +ᶠ 0ᶠ))
lengths = (
  spacing_length 1024 (lit≤ tt) thousand sixteen thousand_sized (unfold of_bits sgn in omega arith) sixteen_sized
      (unfold of_bits sgn in omega arith) (unfold of_bits mag U in lit≤ tt),
  spacing_length 1024 (lit≤ tt) smallest 0ᶠ smallest_sized (unfold of_bits sgn in omega arith)
      (wider (lit≤ tt) zero_sized) (rw zero_val (omega arith)) (unfold of_bits mag U in lit≤ tt),
)

-- ---- spacing from squares: (-65536, 65536) and (65536, 65536), the spacing 65536
apart : Spaced most (neg most) most most most
apart = spacing most (neg most) most most most most_sized (neg_sized most_sized) most_sized most_sized most_sized test
  where
    test : T (le (most *ᶠ most) (computed (neg most) most most most))
    test = unfold le mul add sub neg of_bits in tt

-- ---- cells: 0.5 and 2.5 lie in the cells 0 and 2 of size 1
abbrev far : Float
far = literal 0x4004_0000_0000_0000

far_sized : Sized far 65536
far_sized = record { num = unfold of_bits fits in record { fit = tt; fine = tt }; size = unfold of_bits mag U in lit≤ tt }

two_cells : Spaced 1ᶠ ½ᶠ 0ᶠ far 0ᶠ
two_cells = cells_across 1ᶠ ½ᶠ 0ᶠ far 0ᶠ unit half_sized origin_sized far_sized origin_sized 0ᶠ origin_sized two
  where
    two : TwoApart (cell_of ½ᶠ 0ᶠ 1ᶠ) (cell_of far 0ᶠ 1ᶠ)
    two = unfold TwoApart floor sub div to_signed of_bits in inl (lit≤ tt)

-- ---- lattices: rows -1 and 1 are shifted, rows -2, 0 and 2 are not
rows : (odd (negsuc 1) ≡ false) × (odd (negsuc 0) ≡ true) × (odd (pos 0) ≡ false) × (odd (pos 1) ≡ true) × (odd (pos 2) ≡ false)
unfolding odd
rows = (refl, refl, refl, refl, refl)

-- the anchor far out, the least spacing, and the cells (2 ^ 31 + 1, -(2 ^ 32 - 1)) and (0, 0)
farthest :
    Spaced least (across most (offset (odd (negsuc 4294967294)) least) (pos 2147483649) least)
    (along most (negsuc 4294967294) (hex_row least)) (across most (offset (odd (pos 0)) least) (pos 0) least) (along most (pos 0) (hex_row least))
farthest =
    hexagonal least most most shortest most_sized most_sized (pos 2147483649) (negsuc 4294967294) (pos 0) (pos 0)
    (unfold of_bits mag U in lit≤ tt) (unfold root_of div mul of_bits mag U in lit≤ tt) (omega arith) (omega arith) (λ e f. differ e)
  where
    differ : pos 2147483649 ≡ pos 0 → ⊥
    differ e = let z : ◌≡◌ {A = ℕ} 0 1 = cc in omega arith

-- neighbours in one row at the greatest spacing
beside :
    Spaced most (across 0ᶠ (offset false most) (pos 1) most) (along 0ᶠ (pos 0) most)
    (across 0ᶠ (offset false most) (pos 0) most) (along 0ᶠ (pos 0) most)
beside =
    rectangular most 0ᶠ 0ᶠ longest origin_sized origin_sized (pos 1) (pos 0) (pos 0) (pos 0)
    (omega (arith, most_sized.size)) (omega arith) (omega arith) (omega arith) (λ e f. differ e)
  where
    differ : pos 1 ≡ pos 0 → ⊥
    differ e = let z : ◌≡◌ {A = ℕ} 0 1 = cc in omega arith

-- ---- a walk: the cell 0 of the row at an anchor of 0, in a box from -1 to 1
walked : Reach (pos 0) 1ᶠ
walked =
    across_walk 1ᶠ (length_step unit) (unfold of_bits mag U in lit≤ tt) true 0ᶠ (neg 1ᶠ) 1ᶠ origin_sized (neg_sized one_sized) one_sized (pos 0)
    (unfold floor sub add neg div to_signed of_bits in tt) (unfold floor ceil sub add neg div to_signed of_bits in tt)
  where
    one_sized : Sized 1ᶠ 1024
    one_sized = record { num = unit.sized.num; size = unfold of_bits mag U in lit≤ tt }

-- ---- a root: the nearest to √2 is near it
root_two : NearRoot 0 (mag 2ᶠ * U) (mag (sqrt 2ᶠ))
root_two = sqrt_near 2ᶠ (sqrt 2ᶠ) (sqrt_law 2ᶠ two_num (unfold of_bits sgn in omega arith))

-- ---- nothing is lost between 1 / 65,536 and -1,024: they are 1 and 67,108,864 times 2 ^ 1058 units
abbrev finest : Float
finest = literal 0x3ef0_0000_0000_0000

abbrev corner : Float
corner = neg (literal 0x4090_0000_0000_0000)

exact_sum : Sum (finest +ᶠ corner) (val finest ⊕ val corner) 1058 67108865
unfolding of_bits neg fits mag U
exact_sum =
    add_exact {a = 1} {b = 67108864} (record { num = record { fit = tt; fine = tt }; is = refl })
    (record { num = record { fit = tt; fine = tt }; is = refl }) (lit< tt) (lit≤ tt)
