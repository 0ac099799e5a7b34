-- CELLS: two points whose computed cell numbers, floor((x - min) / cell), differ by two or more along an axis are at least the cell's size less 2 ^ -30 apart.
-- Rests on `Casts` (floor) and `Errors`. Coordinates are 65,536 at most and a cell 2 ^ -20 to 65,536: a spacing is 2 ^ -20 to 34,816, so no number saturates.
use Rattle.std.specs.Prelude.{◌≡◌, ◌⊎◌, ℤ, Float}
use Rattle.std.proofs.Common.{inl, inr, arith}
use Rattle.std.proofs.Math.IntN.{suc_ℤ}
use Rattle.float.specs.Ops.{◌-ᶠ◌, ◌/ᶠ◌}
use Rattle.float.specs.Whole.{floor, as_i64}
use Rattle.rounding.specs.Signed.{nat, ◌⊕◌, ◌≼◌}
use Rattle.rounding.specs.Integers.{int, int_suc, Order, same, below, above, order}

abbrev pub ratio : Float → Float → Float → Float
ratio x min cell = (x -ᶠ min) /ᶠ cell

-- the number of the cell that x lies in
abbrev pub cell_of : Float → Float → Float → ℤ
cell_of x min cell = as_i64 (floor (ratio x min cell))

-- the numbers of two cells are two or more apart
unfoldable pub TwoApart : ℤ → ℤ → Type 0
TwoApart a b = (int a ⊕ nat 2 ≼ int b) ⊎ (int b ⊕ nat 2 ≼ int a)

-- and so they are where neither is next to the other
pub two_apart : (a b : ℤ) → (a ≡ b → ⊥) → (b ≡ suc_ℤ a → ⊥) → (a ≡ suc_ℤ b → ⊥) → TwoApart a b
unfolding TwoApart
two_apart a b n s t = go (order a b) (order b (suc_ℤ a)) (order a (suc_ℤ b))
  where
    go : Order a b → Order b (suc_ℤ a) → Order a (suc_ℤ b) → (int a ⊕ nat 2 ≼ int b) ⊎ (int b ⊕ nat 2 ≼ int a)
    go (same e) p q = absurd (n e)
    go (below h) (same e) q = absurd (s e)
    go (below h) (below g) q = absurd (omega (arith, h, g, int_suc a))
    go (below h) (above g) q = inl (omega (arith, g, int_suc a))
    go (above h) p (same e) = absurd (t e)
    go (above h) p (below g) = absurd (omega (arith, h, g, int_suc b))
    go (above h) p (above g) = inr (omega (arith, g, int_suc b))
