-- The square root of a finite number that is not negative: how near, in order, and a number of 53 digits stays on its side.
-- Rests on `Root`, the same for whole numbers of units squared, and the order of roots.
use Rattle.std.specs.Prelude.{◌≡◌, ℕ, zero, suc, ◌*◌, ◌≤◌, ◌<◌, Float}
use Rattle.std.proofs.Common.{sym, subst, le_trans, le_of_eq, mul-le-mul_right, zero-mul, arith}
use Rattle.std.proofs.Math.Dec.{lit≤}
use Rattle.float.specs.Order.{sqrt}
use Rattle.rounding.specs.Value.{U, E, mag, Digits, digits_whole}
use Rattle.rounding.specs.Signs.{Nonneg}
use Rattle.rounding.specs.Bounds.{Sized}
use Rattle.rounding.specs.Root.{root, NearRoot, root_least, root_most}
use Rattle.rounding.proofs.RootNear.{near_root_full}
use Rattle.rounding.specs.Sqrt.{Rooted, root_zero, sqrt_law}

-- ---- what follows
module _ (x z : Float) (r : Rooted x z) where
  -- nothing is lost below a unit: the root of the least unit is 2 ^ 537 units
  pub sqrt_near : NearRoot 0 (mag x * U) (mag z)
  sqrt_near = subst (λ (k : ℕ). NearRoot 0 (mag x * U) k) (sym r.size) (go (mag x))
    where
      big : E * E ≤ U
      big = unfold U in lit≤ tt

      nothing : (a : ℕ) → a * a ≤ 0 → a ≤ 0
      nothing zero h = omega arith
      nothing (suc a) h = absurd (omega (arith, h))

      go : (g : ℕ) → NearRoot 0 (g * U) (root (g * U))
      go zero =
          let k : root (0 * U) ≡ 0 = root_zero (0 * U) (zero-mul U) in
          record { least = λ a h. omega (arith, nothing a (le_trans h (le_of_eq (zero-mul U)))); most = λ b h. omega (arith, k) }
      go (suc g) = near_root_full (suc g * U) (le_trans big (omega arith))

  pub sqrt_least : (a : ℕ) → Digits a → a * a ≤ mag x * U → a ≤ mag z
  sqrt_least a d h = le_trans (root_least (mag x * U) a d h) (le_of_eq (sym r.size))

  pub sqrt_most : (b : ℕ) → Digits b → mag x * U ≤ b * b → mag z ≤ b
  sqrt_most b d h = le_trans (le_of_eq r.size) (root_most (mag x * U) b d h)

-- the root of k² at most is k at most
pub sqrt_sized : (x : Float) (k : ℕ) → Sized x (k * k) → Nonneg x → k < E → Sized (sqrt x) k
sqrt_sized x k s o h =
    let r = sqrt_law x s.num o in
    record { num = r.num; size = sqrt_most x (sqrt x) r (k * U) (digits_whole k h) (omega (arith, mul-le-mul_right U s.size)) }
