-- CELLS: two points whose computed cell numbers, floor((x - min) / cell), differ by two or more along an axis are at least the cell's size less 2 ^ -30 apart.
-- Rests on `Casts` (floor) and `Errors`. Coordinates are 65,536 at most and a cell 2 ^ -20 to 65,536: a spacing is 2 ^ -20 to 34,816, so no number saturates.
use Rattle.std.specs.Prelude.{◌≡◌, refl, Bool, true, false, ℕ, ◌+◌, ◌*◌, ◌≤◌, ◌<◌, Float}
use Rattle.std.proofs.Common.{ap, ◌∙◌, subst, le_of_mul-le-mul_right, mul-le-mul_right, arith, lit<}
use Rattle.std.specs.Float.Ieee.{unlike}
use Rattle.float.specs.Ops.{◌-ᶠ◌}
use Rattle.rounding.specs.Signed.{Exact, signed, signed_le, nat, abs, ◌⊕◌, ◌⊖◌, ◌⊗◌, ◌≼◌, ◌≺◌}
use Rattle.rounding.specs.Relative.{Close, close_wider, close_signed}
use Rattle.rounding.specs.Value.{U, U_pos, E, H, sgn, mag, val}
use Rattle.rounding.proofs.Errors.{sub_of_finite, div_of_finite}
use Rattle.rounding.specs.Bounds.{Sized}
use Rattle.rounding.proofs.Bounds.{sub_sized, div_sized}
use Rattle.rounding.specs.Integers.{int}
use Rattle.rounding.specs.Casts.{IsFloor, floor_i64}
use Rattle.rounding.specs.Distance.{Length, length_above, length_plus, tiny, tiny_is, tiny_big}
use Rattle.rounding.specs.Cells.{cell_of, ratio}

-- ---- numbers only: places X and X', M the least of them; computed differences A and A'; computed quotients Q and Q' by C.
-- e stands for E, u for U, t for 2 ^ -30
quotients :
    (e u C k ap an bp bn qp qn rp rn : ℕ) → 0 < u → qp + u + rn ≤ rp + qn → ap * u * e + qn * C * e ≤ qp * C * e + an * u * e + u * k
    → rp * C * e + bn * u * e ≤ bp * u * e + rn * C * e + u * k
    → ap * e + C * e + bn * e ≤ bp * e + an * e + 2 * k
quotients e u C k ap an bp bn qp qn rp rn u0 q c d = le_of_mul-le-mul_right {k = u} (omega (arith, c, d, mul-le-mul_right (C * e) q)) u0

pure : (e u C k l t : ℕ) (X X' M A A' Q Q' : Exact) → 0 < u → 0 < e → Q ⊕ nat u ≼ Q'
    → Close e (u * k) (Q ⊗ nat C) (A ⊗ nat u) → Close e (u * k) (Q' ⊗ nat C) (A' ⊗ nat u) → Close e l A (X ⊖ M) → Close e l A' (X' ⊖ M)
    → 2 * k + 2 * l ≤ t * e → X ⊕ nat C ≼ X' ⊕ nat t
pure e u C k l t X X' M A A' Q Q' u0 e0 q c c' d d' r =
    let s = quotients e u C k A.p A.n A'.p A'.n Q.p Q.n Q'.p Q'.n u0 (omega (arith, q)) (omega (arith, c.below)) (omega (arith, c'.above)) in
    le_of_mul-le-mul_right {k = e} (omega (arith, s, d.below, d'.above, r)) e0

-- ---- the floats
unlike_plus : (s : Bool) → unlike s false ≡ s
unlike_plus true = refl
unlike_plus false = refl

-- sizes times c and u, with one sign
signed_close :
    (e k m c n u : ℕ) (s t : Bool) → s ≡ t → Close e k (signed s (m * c)) (signed s (n * u)) → Close e k (signed s m ⊗ nat c) (signed t n ⊗ nat u)
signed_close e k m c n u s t q h = subst (λ (b : Bool). Close e k (signed s m ⊗ nat c) (signed b n ⊗ nat u)) q (go s h)
  where
    go : (s : Bool) → Close e k (signed s (m * c)) (signed s (n * u)) → Close e k (signed s m ⊗ nat c) (signed s n ⊗ nat u)
    go false h = record { above = omega (arith, h.above); below = omega (arith, h.below) }
    go true h = record { above = omega (arith, h.above); below = omega (arith, h.below) }

-- where x lies in its cell
record In (x min cell : Float) : Type 0 where
  floor : IsFloor (cell_of x min cell) (ratio x min cell)
  quot : Close E (U * (131072 * U + 65536 * H)) (val (ratio x min cell) ⊗ nat (mag cell)) (val (x -ᶠ min) ⊗ nat U)
  diff : Close E (131072 * U) (val (x -ᶠ min)) (val x ⊖ val min)

located : (x min cell : Float) → Sized x 65536 → Sized min 65536 → Length cell → In x min cell
located x min cell X M c =
    let D = x -ᶠ min in
    let Q = ratio x min cell in
    let d = sub_sized X M (lit< tt) in
    let q = div_sized d c.sized 1048576 c.least (lit< tt) in
    let r = sub_of_finite x min X.num M.num d.num.fine in
    let w = div_of_finite D cell d.num c.sized.num (length_above c) q.num.fine in
    let sign : sgn Q ≡ sgn D = w.sign ∙ ap (λ (t : Bool). unlike (sgn D) t) (length_plus c) ∙ unlike_plus (sgn D) in
    record {
      floor = floor_i64 Q 137438953472 q.num q.size (lit< tt);
      quot =
          close_wider E (mag D * U + mag cell * H) (U * (131072 * U + 65536 * H)) (val Q ⊗ nat (mag cell)) (val D ⊗ nat U)
          (bound (mag D) (mag cell) U d.size c.sized.size)
          (signed_close E (mag D * U + mag cell * H) (mag Q) (mag cell) (mag D) U (sgn Q)
          (sgn D) sign (close_signed E (mag cell * H) (mag Q * mag cell) (mag D * U) (sgn Q) w.near));
      diff =
          close_wider E (abs (val x ⊖ val min)) (131072 * U) (val D) (val x ⊖ val min)
          (omega (arith, signed_le (sgn x) (mag x), signed_le (sgn min) (mag min), X.size, M.size)) r.close;
    }
  where
    bound : (d c u : ℕ) → d ≤ 131072 * u → c ≤ 65536 * u → d * u + c * H ≤ u * (131072 * u + 65536 * H)
    bound d c u a b = omega (arith, mul-le-mul_right u a, mul-le-mul_right H b)

-- what two quotients and two differences are off by is less than 2 ^ -30
room : 2 * (131072 * U + 65536 * H) + 2 * (131072 * U) ≤ tiny * E
room = omega (arith, tiny_is, tiny_big)

pub cells_apart : (x x' min cell : Float) → Sized x 65536 → Sized x' 65536 → Sized min 65536 → Length cell
    → int (cell_of x min cell) ⊕ nat 2 ≼ int (cell_of x' min cell) → val x ⊕ nat (mag cell) ≼ val x' ⊕ nat tiny
cells_apart x x' min cell X X' M c h =
    let P = located x min cell X M c in
    let P' = located x' min cell X' M c in
    pure E U (mag cell) (131072 * U + 65536 * H) (131072 * U) tiny (val x) (val x') (val min)
    (val (x -ᶠ min)) (val (x' -ᶠ min)) (val (ratio x min cell)) (val (ratio x' min cell)) U_pos (lit< tt)
    (step (int (cell_of x min cell)) (int (cell_of x' min cell)) (val (ratio x min cell)) (val (ratio x' min cell)) U h P.floor.high P'.floor.low)
    P.quot P'.quot P.diff P'.diff room
  where
    step : (a b Q Q' : Exact) (u : ℕ) → a ⊕ nat 2 ≼ b → Q ≺ a ⊗ nat u ⊕ nat u → b ⊗ nat u ≼ Q' → Q ⊕ nat u ≼ Q'
    step a b Q Q' u h p q = omega (arith, p, q, mul-le-mul_right u h)
