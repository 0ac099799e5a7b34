-- SPACING FROM SQUARES: where the computed squared distance of two points is at least the computed spacing squared, their
-- exact distance is at least the spacing less 2 ^ -30.
-- Rests on `Errors` and `Relative`. Coordinates and spacing are 65,536 at most: a job's are 1,024 and 34,816, and no candidate passes 36,000.
use Rattle.std.specs.Prelude.{◌≡◌, ℕ, ◌+◌, ◌*◌, ◌≤◌, ◌<◌}
use Rattle.std.proofs.Common.{ap, le_of_lt, le_of_suc-le-suc, lt_of_not-le, mul-le-mul_right, mul-le-mul_left, mul-pos, arith, lit≤}
use Rattle.rounding.specs.Relative.{Under}
use Rattle.rounding.specs.Value.{E, H}
use Rattle.rounding.specs.Distance.{fine}

-- A, P, C stand for r², r d, d², and e for E: `omega` multiplies its numerals, and stops at 38 digits
clash :
    (e A P C d : ℕ) → (A + 2 * P + C) * e ≤ A * (e + 9) + 5 * fine * d * e → A ≤ 65536 * fine * P → 1099511627776 * d ≤ C → 0 < C
    → 1125899906842624 ≤ e → ⊥
clash e A P C d f a c c0 e0 =
    let x : 10 * fine * (d * e) ≤ C * e = omega (arith, mul-le-mul_right e c) in
    let y : 9 * A ≤ P * e = omega (arith, a, mul-le-mul_left P e0) in
    let z : 3 * C ≤ C * e = omega (arith, mul-le-mul_left C e0) in
    omega (arith, x, y, z, f, c0)

-- D is the square of the exact distance, d is 2 ^ -30, and the spacing is r + d. h stands for H
spread :
    (h r d D u : ℕ) → Under (h * 2) 9 (9 * (u * h)) ((r + d) * (r + d)) D → u ≡ d * fine → D ≤ r * r
    → (r * r + 2 * (r * d) + d * d) * (h * 2) ≤ r * r * (h * 2 + 9) + 5 * fine * d * (h * 2)
spread h r d D u f e l = omega (arith, f, ap (λ (z : ℕ). z * h) e, mul-le-mul_right (h * 2 + 9) l)

pub last : (r d D u : ℕ) → Under E 9 (9 * (u * H)) ((r + d) * (r + d)) D → u ≡ d * fine → 1099511627776 ≤ d → r + d ≤ 65536 * u → r * r ≤ D
last r d D u f e big small =
    le_of_suc-le-suc (lt_of_not-le (λ (g : D < r * r).
    let sm : r ≤ 65536 * fine * d = omega (arith, e, small) in
    clash E (r * r) (r * d) (d * d) d (spread H r d D u f e (le_of_lt g)) (scaled r d sm)
    (mul-le-mul_right d big) (mul-pos (omega (arith, big)) (omega (arith, big))) (lit≤ tt)))
  where
    scaled : (r d : ℕ) → r ≤ 65536 * fine * d → r * r ≤ 65536 * fine * (r * d)
    scaled r d h = omega (arith, mul-le-mul_left r h)
