-- SPACING FROM SQUARES: where the computed squared distance of two points is at least the computed spacing squared, their
-- exact distance is at least the spacing less 2 ^ -30.
-- Rests on `Errors` and `Relative`. Coordinates and spacing are 65,536 at most: a job's are 1,024 and 34,816, and no candidate passes 36,000.
use Rattle.std.specs.Prelude.{◌≡◌, ◌⊎◌, Bool, true, false, ℕ, ◌+◌, ◌-◌, ◌*◌, ◌≤◌, ◌<◌, T, Float}
use Rattle.std.proofs.Common.{sym, subst, inl, inr, le_of_lt, mul-le-mul_right, sub-eq-zero_of_le, arith, lit<, lit≤}
use Rattle.laws.specs.Orders.{lt_or_le}
use Rattle.float.specs.Ops.{◌+ᶠ◌, ◌-ᶠ◌, ◌*ᶠ◌, ◌≥ᶠ◌}
use Rattle.rounding.specs.Signed.{signed, ◌⊕◌, ◌≼◌}
use Rattle.rounding.specs.Relative.{Under, Near, chain, square}
use Rattle.rounding.specs.Value.{U, E, H, sgn, mag, Num}
use Rattle.rounding.specs.Comparison.{le→≼}
use Rattle.rounding.specs.Errors.{Rounding}
use Rattle.rounding.proofs.Errors.{add_of_finite, sub_of_finite, mul_of_finite}
use Rattle.rounding.specs.Bounds.{Sized}
use Rattle.rounding.proofs.Bounds.{add_sized, sub_sized, mul_sized}
use Rattle.rounding.specs.Signs.{square_plus}
use Rattle.rounding.specs.Distance.{tiny, tiny_is, tiny_big, gap, distance², Spaced}
use Rattle.rounding.specs.Spacing.{computed}
use Rattle.rounding.proofs.Spacing.{last}

-- ---- numbers only. X and Y are exact differences, a and b computed ones; P and Q their computed squares, R the sum of
-- these, Z the computed square of S. h stands for H
module _ (X Y a b P Q R S Z u : ℕ) where
  chained :
      Under E 1 0 a X → Under E 1 0 b Y → Under E 1 (u * H) (P * u) (a * a) → Under E 1 (u * H) (Q * u) (b * b) → Under E 1 0 R (P + Q) → Z ≤ R
      → Under E 1 (u * H) (S * S) (Z * u)
      → Under E 9 (9 * (u * H)) (S * S) (X * X + Y * Y)
  chained p q r s t z w =
      let e0 : 0 < E = lit< tt in
      let f : Under E 5 (u * H + 2 * 0) (P * u) (X * X) =
      chain E e0 1 3 (u * H) 0 (P * u) (a * a) (X * X) (lit≤ tt) (lit≤ tt) r (square E e0 1 a X (lit≤ tt) p) in
      let g : Under E 5 (u * H + 2 * 0) (Q * u) (Y * Y) =
      chain E e0 1 3 (u * H) 0 (Q * u) (b * b) (Y * Y) (lit≤ tt) (lit≤ tt) s (square E e0 1 b Y (lit≤ tt) q) in
      let k : Under E 5 (2 * (u * H)) (P * u + Q * u) (X * X + Y * Y) = omega (arith, f, g) in
      let j : Under E 1 0 (Z * u) (P * u + Q * u) = omega (arith, mul-le-mul_right u t, mul-le-mul_right (u * E) z) in
      let i : Under E 7 (0 + 2 * (2 * (u * H))) (Z * u) (X * X + Y * Y) =
      chain E e0 1 5 0 (2 * (u * H)) (Z * u) (P * u + Q * u) (X * X + Y * Y) (lit≤ tt) (lit≤ tt) j k in
      omega (arith, chain E e0 1 7 (u * H) (0 + 2 * (2 * (u * H))) (S * S) (Z * u) (X * X + Y * Y) (lit≤ tt) (lit≤ tt) w i)

-- ---- the floats
record Squared (d z : Float) (k : ℕ) : Type 0 where
  sized : Sized z k
  plus : sgn z ≡ false
  near : Near E 1 (U * H) (mag z * U) (mag d * mag d)

squared : (d : Float) (k : ℕ) → Sized d k → k * k < E → Squared d (d *ᶠ d) (k * k)
squared d k s h =
    let z = mul_sized s s h in
    let r = mul_of_finite d d s.num s.num z.num.fine in
    record { sized = z; plus = square_plus r; near = r.near }

-- a difference, and how near
record Apart (x x' d : Float) (k : ℕ) : Type 0 where
  sized : Sized d k
  near : Near E 1 0 (mag d) (gap x x')

differ : (x x' : Float) (k : ℕ) → Sized x k → Sized x' k → k + k < E → Apart x x' (x -ᶠ x') (k + k)
unfolding gap
differ x x' k s t h =
    let d = sub_sized s t h in
    record { sized = d; near = (sub_of_finite x x' s.num t.num d.num.fine).near }

-- two numbers with no minus sign, added
added :
    (a b : Float) (k l : ℕ) → Sized a k → Sized b l → sgn a ≡ false → sgn b ≡ false → k + l < E
    → Num (a +ᶠ b) × Near E 1 0 (mag (a +ᶠ b)) (mag a + mag b)
added a b k l s t p q h =
    let z = add_sized s t h in
    let r : Rounding (a +ᶠ b) (signed false (mag a) ⊕ signed false (mag b)) = rw (p, q) at (add_of_finite a b s.num t.num z.num.fine) in
    (z.num, subst (λ (w : ℕ). Near E 1 0 (mag (a +ᶠ b)) w) (omega arith) r.near)

plus_le : (s t : Bool) (m n : ℕ) → s ≡ false → signed s m ≼ signed t n → m ≤ n
plus_le s true m n e h = omega (arith, rw e at h)
plus_le s false m n e h = omega (arith, rw e at h)

-- THE SPACING
pub spacing :
    (s x y x' y' : Float) → Sized s 65536 → Sized x 65536 → Sized y 65536 → Sized x' 65536 → Sized y' 65536 → T (computed x y x' y' ≥ᶠ s *ᶠ s)
    → Spaced s x y x' y'
unfolding distance²
spacing s x y x' y' S X Y X' Y' t =
    let dx = differ x x' 65536 X X' (lit< tt) in
    let dy = differ y y' 65536 Y Y' (lit< tt) in
    let P = squared (x -ᶠ x') 131072 dx.sized (lit< tt) in
    let Q = squared (y -ᶠ y') 131072 dy.sized (lit< tt) in
    let Z = squared s 65536 S (lit< tt) in
    let R = added _ _ 17179869184 17179869184 P.sized Q.sized P.plus Q.plus (lit< tt) in
    let le' =
    plus_le (sgn (s *ᶠ s)) (sgn (computed x y x' y')) (mag (s *ᶠ s))
    (mag (computed x y x' y')) Z.plus (le→≼ (s *ᶠ s) (computed x y x' y') Z.sized.num R.0 t) in
    let c =
    chained (gap x x') (gap y y') (mag (x -ᶠ x')) (mag (y -ᶠ y')) (mag ((x -ᶠ x') *ᶠ (x -ᶠ x')))
    (mag ((y -ᶠ y') *ᶠ (y -ᶠ y'))) (mag (computed x y x' y')) (mag s) (mag (s *ᶠ s)) U
    dx.near.above dy.near.above P.near.above Q.near.above R.1.above le' Z.near.below in
    record { far = by_cases (mag s) (gap x x' * gap x x' + gap y y' * gap y y') (lt_or_le (mag s) tiny) S.size c }
  where
    by_cases : (m D : ℕ) → (m < tiny) ⊎ (tiny ≤ m) → m ≤ 65536 * U → Under E 9 (9 * (U * H)) (m * m) D → (m - tiny) * (m - tiny) ≤ D
    by_cases m D (inl l) b c = rw (sub-eq-zero_of_le (le_of_lt l)) (omega arith)
    by_cases m D (inr l) b c =
        let is : m ≡ (m - tiny) + tiny = omega (arith, l) in
        last (m - tiny) tiny D U (subst (λ (w : ℕ). Under E 9 (9 * (U * H)) (w * w) D) is c)
        (sym tiny_is) tiny_big (subst (λ (w : ℕ). w ≤ 65536 * U) is b)
