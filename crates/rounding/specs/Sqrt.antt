-- The square root of a finite number that is not negative: how near, in order, and a number of 53 digits stays on its side.
-- Rests on `Root`, the same for whole numbers of units squared, and the order of roots.
use Rattle.std.specs.Prelude.{◌≡◌, refl, Bool, true, false, ℕ, zero, suc, ◌*◌, ◌/◌, ◌^◌, ◌≤◌, ◌<◌, ℤ, T, Float}
use Rattle.std.proofs.Common.{sym, ap, ◌∙◌, subst, zero-le, le_trans, le_of_eq, le_of_lt, lt_of_le_of_lt, le_antisymm}
use Rattle.std.proofs.Common.{mul_assoc, mul_right_comm, mul-pos, mul-le-mul_right, mul-div_cancel, zero-mul, arith, lit<}
use Rattle.std.proofs.Math.Dec.{lit≤}
use Rattle.std.specs.Float.{nan, inf, fin, binary64}
use Rattle.std.specs.Float.Ieee.{up, down, le}
use Rattle.std.specs.Float.Ieee.Fits.{down_pos, up_pos}
use Rattle.std.specs.Float.Ieee.Exact.{HasValue, units_val}
use Rattle.std.specs.Float.Ieee.Scale.{overflow}
use Rattle.float.specs.Ops.{0ᶠ}
use Rattle.float.specs.Order.{sqrt}
use Rattle.float.specs.Root.{root_of, nearest_root}
use Rattle.float.specs.Laws.Fits.{root_of_fits}
use Rattle.float.specs.Laws.Zero.{origin, origin_is}
use Rattle.float.specs.Laws.Monotone.{root_of_mono}
use Rattle.rounding.specs.Signed.{signed, plain, nat, ◌≼◌}
use Rattle.rounding.specs.Value.{U, U_pos, sgn, mag, Num, digits_at, digits_zero, own, mag_of, sgn_of, fine_of, mag_under}
use Rattle.rounding.specs.Comparison.{le→≼, ≼→le}
use Rattle.rounding.specs.Signs.{Nonneg, zero_num, zero_val}
use Rattle.rounding.specs.Root.{root, rest, steps, root_most}

-- what the root is taken of
square : (s : Bool) (m : ℕ) (e : ℤ) → Num (fin s m e) → m * up e * (U * U) / down e ≡ mag (fin s m e) * U
square s m e p =
    let x = fin s m e in
    ap (λ (z : ℕ). z / down e) (sym (mul_assoc (m * up e) U U) ∙ ap (λ (z : ℕ). z * U) (own x p).1 ∙ mul_right_comm (mag x) (down e) U)
    ∙ mul-div_cancel (mag x * U) (down_pos e)

-- no root overflows
small : (g : ℕ) → g < overflow binary64 → root (g * U) < overflow binary64
unfolding U
small g h =
    lt_of_le_of_lt (root_most (g * U) (1 * 2 ^ 1586) (digits_at 1 1586 (lit< tt)) (le_trans (mul-le-mul_right U (le_of_lt h)) (lit≤ tt))) (lit< tt)

-- z is √x rounded
pub record Rooted (x z : Float) : Type 0 where
  pub num : Num z
  pub nonneg : Nonneg z
  pub size : mag z ≡ root (mag x * U)

-- the root of a whole number of units squared, as a float
root_value : (n : ℕ) → root n < overflow binary64 → HasValue (nearest_root binary64 n) false (root n) U
unfolding nearest_root U
root_value n h = units_val binary64 false (rest n) (steps n) h

pub root_zero : (n : ℕ) → n ≡ 0 → root n ≡ 0
root_zero n e = le_antisymm (root_most n 0 digits_zero (le_of_eq e)) zero-le

sqrt_plus : (m : ℕ) (e : ℤ) → Num (fin false (suc m) e) → Rooted (fin false (suc m) e) (sqrt (fin false (suc m) e))
unfolding root_of U
sqrt_plus m e p =
    let x = fin false (suc m) e in
    let z = sqrt x in
    let n = suc m * up e * (U * U) / down e in
    let is : n ≡ mag x * U = square false (suc m) e p in
    let v : HasValue z false (root n) U = root_value n (subst (λ (k : ℕ). root k < overflow binary64) (sym is) (small (mag x) (mag_under x p))) in
    record {
      num = record { fit = root_of_fits binary64 x p.fit; fine = fine_of z false (root n) U v };
      nonneg = subst (λ (s : Bool). nat 0 ≼ signed s (mag z)) (sym (sgn_of z false (root n) U v)) (omega arith);
      size = mag_of z false (root n) v ∙ ap root is;
    }

no_size : (s : Bool) (e : ℤ) → Num (fin s zero e) → mag (fin s zero e) ≡ 0
no_size s e p = none (mag (fin s zero e)) (down e) (down_pos e) (sym (own (fin s zero e) p).1 ∙ ap (λ (z : ℕ). z * U) (zero-mul (up e)) ∙ zero-mul U)
  where
    none : (m d : ℕ) → 0 < d → m * d ≡ 0 → m ≡ 0
    none zero d d0 h = refl
    none (suc m) d d0 h = absurd (omega (arith, d0, h))

sqrt_none : (s : Bool) (e : ℤ) → Num (fin s zero e) → Rooted (fin s zero e) (sqrt (fin s zero e))
unfolding root_of sgn
sqrt_none s e p =
    let x = fin s zero e in
    let z = no_size s e p in
    record {
      num = p;
      nonneg = subst (λ (k : ℕ). nat 0 ≼ signed s k) (sym z)
          (zero_signed s);
      size = z ∙ sym (root_zero (mag x * U) (ap (λ (k : ℕ). k * U) z ∙ zero-mul U));
    }
  where
    zero_signed : (s : Bool) → nat 0 ≼ signed s 0
    zero_signed true = omega arith
    zero_signed false = omega arith

pub sqrt_law : (x : Float) → Num x → Nonneg x → Rooted x (sqrt x)
unfolding sgn
sqrt_law nan p h = absurd p.fine
sqrt_law (inf s) p h = absurd p.fine
sqrt_law (fin s zero e) p h = sqrt_none s e p
sqrt_law (fin false (suc m) e) p h = sqrt_plus m e p
sqrt_law (fin true (suc m) e) p h = absurd (clash (mag (fin true (suc m) e)) (down e) (omega (arith, h)) (own (fin true (suc m) e) p).1)
  where
    clash : (g d : ℕ) → g ≤ 0 → suc m * up e * U ≡ g * d → ⊥
    clash zero d l q = omega (arith, q, mul-pos (mul-pos {m = suc m} (omega arith) (up_pos e)) U_pos)
    clash (suc g) d l q = omega (arith, l)

pub sqrt_mono : (x y : Float) → Num x → Num y → Nonneg x → Nonneg y → mag x ≤ mag y → mag (sqrt x) ≤ mag (sqrt y)
sqrt_mono x y p q o o' h =
    let a = plain (sgn x) (mag x) o in
    let b = plain (sgn y) (mag y) o' in
    let l : T (le origin x) = subst (λ (z : Float). T (le z x)) origin_is (≼→le 0ᶠ x zero_num p (rw zero_val o)) in
    let r = sqrt_law x p o in
    let s = sqrt_law y q o' in
    let c = plain (sgn (sqrt x)) (mag (sqrt x)) r.nonneg in
    let d = plain (sgn (sqrt y)) (mag (sqrt y)) s.nonneg in
    let m = le→≼ (sqrt x) (sqrt y) r.num s.num (root_of_mono binary64 x y l (≼→le x y p q (omega (arith, a, b, h)))) in
    omega (arith, c, d, m)
