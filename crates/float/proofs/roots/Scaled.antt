-- The root of m * 2 ^ 52 * 2 ^ g, and its pattern, from the whole number r nearest to √(M * 2 ^ 52), where M is m or 2 * m as g is even or odd.
-- Rests on `Laws/Floor.antt`, `Laws/Fits.antt` and `Fields.antt`.
use Rattle.std.proofs.Common.{◌≡◌, ℕ, ◌+◌, ◌-◌, ◌*◌, ◌/◌, ◌%◌, ◌^◌, ◌<◌, ◌≤◌, sym, ap, ◌∙◌, subst}
use Rattle.std.proofs.Common.{le_trans, le_of_eq, lt_of_le_of_lt, mul-le-mul_right, mod-eq_of_lt, zero-lt-suc, mul_assoc, mul-le-mul_left}
use Rattle.std.proofs.Common.{mul-lt-mul_of_pos_right, mul_right_comm, le-mul_of_pos_right, arith, pow_pos, pow_mono, pow-add}
use lib.Pow.{pow-lt}
use lib.Ieee.{binary64, of_bits, to_bits}
use lib.Ieee.Bits.{of_bits-to_bits}
use Rattle.float.specs.Root.{nearest_root, Near}
use Rattle.float.specs.Laws.Fits.{nearest_root_fits}
use Rattle.float.specs.Laws.Floor.{nearest_at, near_le, near_ge}
use Rattle.float.proofs.roots.Fields.{units_pattern}

lo : (M : ℕ) → 2 ^ 52 ≤ M → 2 ^ 52 * 2 ^ 52 ≤ M * 2 ^ 52
lo M h = mul-le-mul_right (2 ^ 52) h

hi : (M : ℕ) → M < 2 ^ 54 → M * 2 ^ 52 < 2 ^ 53 * 2 ^ 53
hi M h = mul-lt-mul_of_pos_right h (pow_pos 52)

pub at_most : (M r : ℕ) → M < 2 ^ 54 → Near (M * 2 ^ 52) r → r ≤ 2 ^ 53
at_most M r h n = near_le (M * 2 ^ 52) r (2 ^ 53) (hi M h) n

scaled :
    (N M k r : ℕ) → M * 2 ^ 52 * (2 ^ k * 2 ^ k) ≡ N → 2 ^ 52 ≤ M → M < 2 ^ 54 → k < 1534 → Near (M * 2 ^ 52) r
    → k * 2 ^ 52 + r ≡ to_bits binary64 (nearest_root binary64 N)
scaled N M k r e l h small n =
    let top = at_most M r h n in
    let fine : r * 2 ^ k < 2 ^ 2098 =
    lt_of_le_of_lt (mul-le-mul_right (2 ^ k) top) (lt_of_le_of_lt (le_of_eq (sym (pow-add 2 53 k))) (pow-lt {i = 53 + k} {j = 2098} (omega arith))) in
    sym
    (ap (λ (x : ℕ). to_bits binary64 (nearest_root binary64 x)) (sym e)
    ∙ ap (to_bits binary64) (nearest_at binary64 (M * 2 ^ 52) k r (lo M l) (hi M h) n)
    ∙ units_pattern r k (near_ge (M * 2 ^ 52) r (2 ^ 52) (lo M l) n) top fine)

-- ---- m moved up by the last bit of g, as the program does it
module _ (m g : ℕ) (least : 2 ^ 52 ≤ m) (most : m < 2 ^ 53) where
  up_to : m * 2 ^ (g % 2) < 2 ^ 54
  up_to = lt_of_le_of_lt (mul-le-mul_left m (pow_mono {i = g % 2} {j = 1} (omega arith))) (mul-lt-mul_of_pos_right most (zero-lt-suc 1))

  kept : m * 2 ^ (g % 2) % 2 ^ 64 ≡ m * 2 ^ (g % 2)
  kept = let u = up_to in mod-eq_of_lt (omega arith)

  pub moved_le : 2 ^ 52 ≤ m * 2 ^ (g % 2) % 2 ^ 64
  moved_le = subst (λ (x : ℕ). 2 ^ 52 ≤ x) (sym kept) (le_trans least (le-mul_of_pos_right m (pow_pos (g % 2))))

  pub moved_lt : m * 2 ^ (g % 2) % 2 ^ 64 < 2 ^ 54
  moved_lt = subst (λ (x : ℕ). x < 2 ^ 54) (sym kept) up_to

  power : 2 ^ g ≡ 2 ^ (g % 2) * (2 ^ (g / 2) * 2 ^ (g / 2))
  power =
      let e : g ≡ g % 2 + (g / 2 + g / 2) = omega arith in
      ap (λ (x : ℕ). 2 ^ x) e ∙ pow-add 2 (g % 2) (g / 2 + g / 2) ∙ ap (λ (x : ℕ). 2 ^ (g % 2) * x) (pow-add 2 (g / 2) (g / 2))

  scaled_any :
      (r : ℕ) → g < 3068 → Near (m * 2 ^ (g % 2) % 2 ^ 64 * 2 ^ 52) r
      → g / 2 * 2 ^ 52 + r ≡ to_bits binary64 (nearest_root binary64 (m * 2 ^ 52 * 2 ^ g))
  scaled_any r small n =
      let u = 2 ^ (g / 2) * 2 ^ (g / 2) in
      let q : m * 2 ^ (g % 2) % 2 ^ 64 * 2 ^ 52 * u ≡ m * 2 ^ 52 * 2 ^ g =
      ap (λ (x : ℕ). x * 2 ^ 52 * u) kept ∙ ap (λ (x : ℕ). x * u) (mul_right_comm m (2 ^ (g % 2)) (2 ^ 52)) ∙ mul_assoc (m * 2 ^ 52) (2 ^ (g % 2)) u
      ∙ ap (λ (x : ℕ). m * 2 ^ 52 * x) (sym power) in
      scaled (m * 2 ^ 52 * 2 ^ g) (m * 2 ^ (g % 2) % 2 ^ 64) (g / 2) r q moved_le moved_lt (omega arith) n

  -- the root from the pattern that the program makes of its digits
  pub from_digits :
      (r : ℕ) → g < 3068 → Near (m * 2 ^ (g % 2) % 2 ^ 64 * 2 ^ 52) r
      → of_bits binary64 (g / 2 * 2 ^ 52 + r) ≡ nearest_root binary64 (m * 2 ^ 52 * 2 ^ g)
  from_digits r small n =
      ap (of_bits binary64) (scaled_any r small n)
      ∙ of_bits-to_bits binary64 (nearest_root binary64 (m * 2 ^ 52 * 2 ^ g)) (nearest_root_fits binary64 (m * 2 ^ 52 * 2 ^ g))

  -- and from a pattern that has them
  pub from_pattern :
      (b : ℕ) → g / 2 * 2 ^ 52 ≤ b → g < 3068 → Near (m * 2 ^ (g % 2) % 2 ^ 64 * 2 ^ 52) (b - g / 2 * 2 ^ 52)
      → of_bits binary64 b ≡ nearest_root binary64 (m * 2 ^ 52 * 2 ^ g)
  from_pattern b l small n =
      let e : b ≡ g / 2 * 2 ^ 52 + (b - g / 2 * 2 ^ 52) = omega arith in
      ap (of_bits binary64) e ∙ from_digits (b - g / 2 * 2 ^ 52) small n
