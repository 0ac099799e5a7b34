-- `lt`, `le` and `eq` of finite f64s are the order of their exact values, both ways; and what lies between two finite values is finite.
-- Rests on `Value`: the two numbers over one denominator.
use Rattle.std.specs.Prelude.{◌≡◌, Bool, true, false, not, ℕ, ◌+◌, ◌*◌, ◌≤◌, ◌<◌, T, eqb, Float}
use Rattle.std.proofs.Common.{sym, ap, ◌∙◌, le_of_eq, le_of_mul-le-mul_right, mul-le-mul_right}
use Rattle.std.proofs.Common.{mul-pos, not-le_of_lt, arith, ltb→lt, nltb→le, eqb→eq}
use Rattle.std.proofs.Math.Logic.{inl, inr}
use Rattle.std.proofs.Math.Nat.{lt_of_not-le, eq_of_mul-eq-mul_right}
use Rattle.std.proofs.Math.Dec.{T_not}
use Rattle.std.specs.Float.{nan, inf, fin}
use Rattle.std.specs.Float.Ieee.{up, down, below, level, lt, eq, le}
use Rattle.std.specs.Float.Ieee.Fits.{down_pos, and_l, and_r, and_i, eq→eqb}
use Rattle.std.specs.Float.Ieee.Scale.{finite}
use Rattle.laws.specs.Truth.{or_split, nor_l, nor_r}
use Rattle.rounding.specs.Signed.{signed, ◌≈◌, ◌≼◌, ◌≺◌}
use Rattle.rounding.specs.Value.{U, U_pos, sgn, mag, val, Num, own}

-- ---- k / de and k / dd over the denominator de * dd
pub over_left : (k u M de dd : ℕ) → k * u ≡ M * de → k * dd * u ≡ M * (de * dd)
over_left k u M de dd e = omega (arith, ap (λ (z : ℕ). z * dd) e)

pub over_right : (k u M de dd : ℕ) → k * u ≡ M * dd → k * de * u ≡ M * (de * dd)
over_right k u M de dd e = omega (arith, ap (λ (z : ℕ). z * de) e)

-- ---- a / c is A units, b / c is B units
module _ (c : ℕ) (c0 : 0 < c) where
  pub units_le : (a b A B : ℕ) → a * U ≡ A * c → b * U ≡ B * c → a ≤ b → A ≤ B
  units_le a b A B p q h = le_of_mul-le-mul_right (omega (arith, mul-le-mul_right U h)) c0

  units_lt : (a b A B : ℕ) → a * U ≡ A * c → b * U ≡ B * c → a < b → A < B
  units_lt a b A B p q h = lt_of_not-le (λ (g : B ≤ A). not-le_of_lt h (le_of_mul-le-mul_right {k = U} (omega (arith, mul-le-mul_right c g)) U_pos))

  units_eq : (a b A B : ℕ) → a * U ≡ A * c → b * U ≡ B * c → T (eqb a b) → A ≡ B
  units_eq a b A B p q h =
      let e = eqb→eq a b h in
      let l : A ≤ B = units_le a b A B p q (le_of_eq e) in
      let g : B ≤ A = units_le b a B A q p (le_of_eq (sym e)) in
      omega arith

  back_eq : (a b A B : ℕ) → a * U ≡ A * c → b * U ≡ B * c → A ≡ B → T (eqb a b)
  back_eq a b A B p q e = eq→eqb (eq_of_mul-eq-mul_right U U_pos a b (p ∙ ap (λ (z : ℕ). z * c) e ∙ sym q))

  zero_at : (a A : ℕ) → a * U ≡ A * c → T (eqb a 0) → A ≡ 0
  zero_at a A p h = units_eq a 0 A 0 p (omega arith) h

  lt_yes : (s t : Bool) (a b A B : ℕ) → a * U ≡ A * c → b * U ≡ B * c → T (below s a t b) → signed s A ≺ signed t B
  lt_yes false false a b A B p q h = omega (arith, units_lt a b A B p q (ltb→lt a b h))
  lt_yes false true a b A B p q h = absurd h
  lt_yes true false a b A B p q h = omega (arith, units_lt 0 (a + b) 0 (A + B) (omega arith) (omega arith) (ltb→lt 0 (a + b) h))
  lt_yes true true a b A B p q h = omega (arith, units_lt b a B A q p (ltb→lt b a h))

  lt_no : (s t : Bool) (a b A B : ℕ) → a * U ≡ A * c → b * U ≡ B * c → T (not (below s a t b)) → signed t B ≼ signed s A
  lt_no false false a b A B p q h = omega (arith, units_le b a B A q p (nltb→le a b h))
  lt_no false true a b A B p q h = omega arith
  lt_no true false a b A B p q h = omega (arith, units_le (a + b) 0 (A + B) 0 (omega arith) (omega arith) (nltb→le 0 (a + b) h))
  lt_no true true a b A B p q h = omega (arith, units_le a b A B p q (nltb→le b a h))

  eq_yes : (s t : Bool) (a b A B : ℕ) → a * U ≡ A * c → b * U ≡ B * c → T (level s a t b) → signed s A ≈ signed t B
  eq_yes false false a b A B p q h = omega (arith, units_eq a b A B p q (and_l (eqb a b) true h))
  eq_yes true true a b A B p q h = omega (arith, units_eq a b A B p q (and_l (eqb a b) true h))
  eq_yes false true a b A B p q h = omega (arith, units_eq a b A B p q (and_l (eqb a b) (eqb a 0) h), zero_at a A p (and_r (eqb a b) (eqb a 0) h))
  eq_yes true false a b A B p q h = omega (arith, units_eq a b A B p q (and_l (eqb a b) (eqb a 0) h), zero_at a A p (and_r (eqb a b) (eqb a 0) h))

  -- a and b are alike in size, and in sign unless both are 0
  eq_back : (s t : Bool) (a b A B : ℕ) → a * U ≡ A * c → b * U ≡ B * c → signed s A ≈ signed t B → T (level s a t b)
  eq_back false false a b A B p q e = and_i (eqb a b) true (back_eq a b A B p q (omega arith)) tt
  eq_back true true a b A B p q e = and_i (eqb a b) true (back_eq a b A B p q (omega arith)) tt
  eq_back false true a b A B p q e = and_i (eqb a b) (eqb a 0) (back_eq a b A B p q (omega arith)) (back_eq a 0 A 0 p (omega arith) (omega arith))
  eq_back true false a b A B p q e = and_i (eqb a b) (eqb a 0) (back_eq a b A B p q (omega arith)) (back_eq a 0 A 0 p (omega arith) (omega arith))

-- ---- the tests, by the exact values
record Facts (x y : Float) : Type 0 where
  lt_true : T (lt x y) → val x ≺ val y
  lt_false : T (not (lt x y)) → val y ≼ val x
  eq_true : T (eq x y) → val x ≈ val y
  eq_from : val x ≈ val y → T (eq x y)

facts : (x y : Float) → Num x → Num y → Facts x y
unfolding lt eq sgn
facts nan y p q = absurd p.fine
facts (inf s) y p q = absurd p.fine
facts (fin s m e) nan p q = absurd q.fine
facts (fin s m e) (inf t) p q = absurd q.fine
facts (fin s m e) (fin t n d) p q =
    let x = fin s m e in
    let y = fin t n d in
    let c = down e * down d in
    let c0 : 0 < c = mul-pos (down_pos e) (down_pos d) in
    let a : m * up e * down d * U ≡ mag x * c = over_left (m * up e) U (mag x) (down e) (down d) (own x p).1 in
    let b : n * up d * down e * U ≡ mag y * c = over_right (n * up d) U (mag y) (down e) (down d) (own y q).1 in
    record {
      lt_true = lt_yes c c0 s t (m * up e * down d) (n * up d * down e) (mag x) (mag y) a b;
      lt_false = lt_no c c0 s t (m * up e * down d) (n * up d * down e) (mag x) (mag y) a b;
      eq_true = eq_yes c c0 s t (m * up e * down d) (n * up d * down e) (mag x) (mag y) a b;
      eq_from = eq_back c c0 s t (m * up e * down d) (n * up d * down e) (mag x) (mag y) a b;
    }

by_no : (b : Bool) → (T (not b) → ⊥) → T b
by_no true h = tt
by_no false h = absurd (h tt)

module _ (x y : Float) (p : Num x) (q : Num y) where
  pub lt→≺ : T (lt x y) → val x ≺ val y
  lt→≺ = (facts x y p q).lt_true

  pub ¬lt→≼ : T (not (lt x y)) → val y ≼ val x
  ¬lt→≼ = (facts x y p q).lt_false

  pub ≺→lt : val x ≺ val y → T (lt x y)
  ≺→lt h = by_no (lt x y) (λ (g : T (not (lt x y))). absurd (omega (arith, h, ¬lt→≼ g)))

  pub eq→≈ : T (eq x y) → val x ≈ val y
  eq→≈ = (facts x y p q).eq_true

  pub ≈→eq : val x ≈ val y → T (eq x y)
  ≈→eq = (facts x y p q).eq_from

  pub le→≼ : T (le x y) → val x ≼ val y
  unfolding le
  le→≼ h = elim (or_split (lt x y) (eq x y) h) [ inl l ↦ omega (arith, lt→≺ l) | inr e ↦ omega (arith, eq→≈ e) ]

  pub ¬le→≺ : T (not (le x y)) → val y ≺ val x
  unfolding le
  ¬le→≺ h =
      let l = ¬lt→≼ (nor_l (lt x y) (eq x y) h) in
      lt_of_not-le (λ (g : (val x).p + (val y).n ≤ (val y).p + (val x).n). T_not (eq x y) (nor_r (lt x y) (eq x y) h) (≈→eq (omega arith)))

  pub ≼→le : val x ≼ val y → T (le x y)
  ≼→le h = by_no (le x y) (λ (g : T (not (le x y))). absurd (omega (arith, h, ¬le→≺ g)))

-- ---- no NaN and no infinity between two finite values
pub between : (lo x hi : Float) → T (finite lo) → T (finite hi) → T (le lo x) → T (le x hi) → T (finite x)
unfolding le
between nan x hi a b h k = absurd a
between (inf s) x hi a b h k = absurd a
between (fin s m e) nan hi a b h k = absurd h
between (fin s m e) (fin t n d) hi a b h k = tt
between (fin s m e) (inf t) nan a b h k = absurd b
between (fin s m e) (inf t) (inf r) a b h k = absurd b
between (fin s m e) (inf true) (fin r n d) a b h k = absurd h
between (fin s m e) (inf false) (fin r n d) a b h k = absurd k
