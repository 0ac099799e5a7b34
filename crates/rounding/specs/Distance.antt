-- The words of the spacing claim: the exact distance of two points, compared by squares with a spacing less 2 ^ -30.
-- Rests on `Value`; the laws are over whole numbers.
use Rattle.std.specs.Prelude.{◌≡◌, refl, false, ℕ, zero, suc, ◌+◌, ◌-◌, ◌*◌, ◌^◌, ◌≤◌, ◌<◌, Float}
use Rattle.std.proofs.Math.Nat.{le_trans}
use Rattle.std.proofs.Common.{le_of_lt, le_of_suc-le-suc, lt_of_not-le, mul-le-mul, mul-le-mul_right, arith, lit≤}
use Rattle.float.specs.Laws.Floor.{root_lt}
use Rattle.rounding.specs.Signed.{nat, apart, ◌⊕◌, ◌≼◌}
use Rattle.rounding.specs.Value.{U, U_pos, sgn, mag, val}
use Rattle.rounding.specs.Bounds.{Sized}
use Rattle.rounding.specs.Signs.{Nonneg, positive}

-- 2 ^ -30 in units, and how many of it are 1
abbrev pub fine : ℕ
fine = 1073741824

unfoldable pub tiny : ℕ
tiny = 2 ^ 1044

pub tiny_is : tiny * fine ≡ U
unfolding tiny U
tiny_is = refl

pub tiny_big : 1099511627776 ≤ tiny
unfolding tiny
tiny_big = lit≤ tt

-- half of it
unfoldable pub half : ℕ
half = 2 ^ 1043

pub half_is : half * 2 ≡ tiny
unfolding half tiny
half_is = refl

-- the exact distance of two numbers on a line, in units
unfoldable pub gap : Float → Float → ℕ
gap x x' = apart (val x) (val x')

-- the exact distance of two points, squared, in units squared
unfoldable pub distance² : Float → Float → Float → Float → ℕ
unfolding gap
distance² x y x' y' = gap x x' * gap x x' + gap y y' * gap y y'

-- the exact distance of (x, y) and (x', y') is s less 2 ^ -30 at least: by squares, and where s is not above 2 ^ -30 every pair passes
pub record Spaced (s x y x' y' : Float) : Type 0 where
  pub far : (mag s - tiny) * (mag s - tiny) ≤ distance² x y x' y'

-- a length from 2 ^ -20 to 65,536, as the spacing of every accepted job is (to 34,816)
pub record Length (s : Float) : Type 0 where
  pub sized : Sized s 65536
  pub nonneg : Nonneg s
  pub least : U ≤ mag s * 1048576

pub length_above : {s : Float} → Length s → 0 < mag s
length_above {s} d = above (mag s) U U_pos d.least
  where
    above : (m u : ℕ) → 0 < u → u ≤ m * 1048576 → 0 < m
    above zero u u0 h = absurd (omega (arith, u0, h))
    above (suc m) u u0 h = omega arith

pub length_plus : {s : Float} → Length s → sgn s ≡ false
length_plus {s} d = positive s (length_above d) d.nonneg

-- ---- distances on a line
pub gap_sym : (x x' : Float) → gap x x' ≡ gap x' x
unfolding gap
gap_sym x x' = omega arith

-- x' is d less e beyond x
pub gap_of_lem : (x x' : Float) (d e : ℕ) → val x ⊕ nat d ≼ val x' ⊕ nat e → d ≤ gap x x' + e
unfolding gap
gap_of_lem x x' d e h = omega (arith, h)

-- ---- whole numbers: a distance at least r, its two parts short by e and f, is still t where t + e + f is r at most
pub short_by : (t e f a b r X Y : ℕ) → r * r ≤ a * a + b * b → a ≤ X + e → b ≤ Y + f → t + e + f ≤ r → t * t ≤ X * X + Y * Y
short_by t e f a b r X Y h p q k =
    le_of_suc-le-suc (lt_of_not-le (λ (g : X * X + Y * Y < t * t).
    let x : X < t = root_lt (omega (arith, g)) in
    let y : Y < t = root_lt (omega (arith, g)) in
    absurd (omega (arith, g, h, mul-le-mul p p, mul-le-mul q q, mul-le-mul k k, mul-le-mul_right e (le_of_lt x), mul-le-mul_right f (le_of_lt y)))))

module _ (s x y x' y' : Float) where
  pub spaced_sym : Spaced s x y x' y' → Spaced s x' y' x y
  unfolding distance²
  spaced_sym h = record { far = rw (gap_sym x' x, gap_sym y' y) h.far }

  -- a smaller spacing
  pub spaced_less : (t : Float) → mag t ≤ mag s → Spaced s x y x' y' → Spaced t x y x' y'
  spaced_less t l h = record { far = le_trans (mul-le-mul (omega (arith, l)) (omega (arith, l))) h.far }

  -- far enough along one axis
  pub spaced_across : mag s ≤ gap x x' + tiny → Spaced s x y x' y'
  unfolding distance²
  spaced_across h = let l : mag s - tiny ≤ gap x x' = omega (arith, h) in record { far = le_trans (mul-le-mul l l) (omega arith) }

  pub spaced_along : mag s ≤ gap y y' + tiny → Spaced s x y x' y'
  unfolding distance²
  spaced_along h = let l : mag s - tiny ≤ gap y y' = omega (arith, h) in record { far = le_trans (mul-le-mul l l) (omega arith) }
