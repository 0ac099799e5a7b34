-- Add, subtract, multiply and divide on finite f64s: each is one rounding of the exact result in units.
-- Rests on the kit's `round_same`: equal fractions round alike.
use Rattle.std.specs.Prelude.{◌≡◌, Bool, true, false, not, cond, ℕ, ◌+◌, ◌-◌, ◌*◌, ◌≤◌, ◌<◌, T, ltb, eqb, Float}
use Rattle.std.proofs.Common.{ap, ◌∙◌, subst, le_of_lt, mul-pos, mul_comm, arith, eqb→eq, ltb→lt, nltb→le}
use Rattle.std.proofs.Math.Nat.{mul-sub, eq_of_mul-eq-mul_right}
use Rattle.std.specs.Float.{nan, inf, fin, binary64}
use Rattle.std.specs.Float.Ieee.{up, down, round, sum, add, sub, mul, div, neg, unlike}
use Rattle.std.specs.Float.Ieee.Fits.{up_pos, down_pos}
use Rattle.std.specs.Float.Ieee.Scale.{round_same}
use Rattle.std.specs.Float.Ieee.Positive.{first_pos}
use Rattle.float.specs.Ops.{◌+ᶠ◌, ◌-ᶠ◌, ◌*ᶠ◌, ◌/ᶠ◌}
use Rattle.rounding.specs.Signed.{Exact, signed, ◌⊕◌, ◌⊖◌, ◌≈◌}
use Rattle.rounding.specs.Value.{U, U_pos, sgn, mag, val, Num, own, neg_num, neg_val}
use Rattle.rounding.specs.Comparison.{over_left, over_right, units_le}

-- z is v units, rounded
pub record IsRound (z : Float) (v : Exact) : Type 0 where
  pub sign : Bool
  pub size : ℕ
  pub is : z ≡ round binary64 sign size U
  pub value : v ≈ signed sign size

-- ---- a / c is A units, b / c is B units
module _ (a b c A B : ℕ) (c0 : 0 < c) (p : a * U ≡ A * c) (q : b * U ≡ B * c) where
  difference : (b - a) * U ≡ (B - A) * c
  difference = mul_comm (b - a) U ∙ mul-sub U b a ∙ omega (arith, p, q, mul-sub c B A)

at_units : (s : Bool) (j c J : ℕ) → 0 < c → j * U ≡ J * c → (v : Exact) → v ≈ signed s J → IsRound (round binary64 s j c) v
at_units s j c J c0 e v h = record { sign = s; size = J; is = round_same binary64 s j c J U c0 U_pos e; value = h }

sum_is : (s t : Bool) (a b c A B : ℕ) → 0 < c → a * U ≡ A * c → b * U ≡ B * c → IsRound (sum binary64 s a t b c) (signed s A ⊕ signed t B)
unfolding sum
sum_is false false a b c A B c0 p q = at_units false (a + b) c (A + B) c0 (omega arith) _ (omega arith)
sum_is true true a b c A B c0 p q = at_units true (a + b) c (A + B) c0 (omega arith) _ (omega arith)
sum_is false true a b c A B c0 p q = go (ltb a b) (ltb→lt a b) (nltb→le a b)
  where
    go :
        (x : Bool) → (T x → a < b) → (T (not x) → b ≤ a)
        → IsRound (cond x (round binary64 true (b - a) c) (round binary64 false (a - b) c)) (signed false A ⊕ signed true B)
    go true l g =
        let k : A ≤ B = units_le c c0 a b A B p q (le_of_lt (l tt)) in
        at_units true (b - a) c (B - A) c0 (difference a b c A B c0 p q) _ (omega arith)
    go false l g =
        let k : B ≤ A = units_le c c0 b a B A q p (g tt) in
        at_units false (a - b) c (A - B) c0 (difference b a c B A c0 q p) _ (omega arith)
sum_is true false a b c A B c0 p q = go (ltb a b) (ltb→lt a b) (nltb→le a b) (ltb b a) (nltb→le b a)
  where
    go :
        (x : Bool) → (T x → a < b) → (T (not x) → b ≤ a) → (y : Bool) → (T (not y) → a ≤ b)
        → IsRound (cond x (round binary64 false (b - a) c) (round binary64 y (a - b) c)) (signed true A ⊕ signed false B)
    go true l g y g' =
        let k : A ≤ B = units_le c c0 a b A B p q (le_of_lt (l tt)) in
        at_units false (b - a) c (B - A) c0 (difference a b c A B c0 p q) _ (omega arith)
    go false l g true g' =
        let k : B ≤ A = units_le c c0 b a B A q p (g tt) in
        at_units true (a - b) c (A - B) c0 (difference b a c B A c0 q p) _ (omega arith)
    go false l g false g' =
        let k : B ≤ A = units_le c c0 b a B A q p (g tt) in
        let k' : A ≤ B = units_le c c0 a b A B p q (g' tt) in
        at_units false (a - b) c (A - B) c0 (difference b a c B A c0 q p) _ (omega arith)

pub add_is : (x y : Float) → Num x → Num y → IsRound (x +ᶠ y) (val x ⊕ val y)
unfolding add sgn
add_is nan y p q = absurd p.fine
add_is (inf s) y p q = absurd p.fine
add_is (fin s m e) nan p q = absurd q.fine
add_is (fin s m e) (inf t) p q = absurd q.fine
add_is (fin s m e) (fin t n d) p q =
    let x = fin s m e in
    let y = fin t n d in
    sum_is s t (m * up e * down d) (n * up d * down e) (down e * down d) (mag x) (mag y) (mul-pos (down_pos e) (down_pos d))
    (over_left (m * up e) U (mag x) (down e) (down d) (own x p).1) (over_right (n * up d) U (mag y) (down e) (down d) (own y q).1)

pub sub_is : (x y : Float) → Num x → Num y → IsRound (x -ᶠ y) (val x ⊖ val y)
unfolding sub
sub_is x y p q = subst (λ (z : Exact). IsRound (add binary64 x (neg y)) (val x ⊕ z)) (neg_val y q) (add_is x (neg y) p (neg_num y q))

-- ---- the product
product : (a b u A B de dd : ℕ) → a * u ≡ A * de → b * u ≡ B * dd → a * b * (u * u) ≡ A * B * (de * dd)
product a b u A B de dd p q =
    let s : a * u * (b * u) ≡ A * de * (B * dd) = ap (λ (z : ℕ). z * (b * u)) p ∙ ap (λ (z : ℕ). A * de * z) q in
    omega arith

pub mul_is : (x y : Float) → Num x → Num y → x *ᶠ y ≡ round binary64 (unlike (sgn x) (sgn y)) (mag x * mag y) (U * U)
unfolding mul sgn
mul_is nan y p q = absurd p.fine
mul_is (inf s) y p q = absurd p.fine
mul_is (fin s m e) nan p q = absurd q.fine
mul_is (fin s m e) (inf t) p q = absurd q.fine
mul_is (fin s m e) (fin t n d) p q =
    let x = fin s m e in
    let y = fin t n d in
    round_same binary64 (unlike s t) (m * up e * (n * up d)) (down e * down d) (mag x * mag y) (U * U) (mul-pos (down_pos e) (down_pos d)) (mul-pos U_pos U_pos)
    (product (m * up e) (n * up d) U (mag x) (mag y) (down e) (down d) (own x p).1 (own y q).1)

-- ---- the quotient
quotient : (a b u A B de dd : ℕ) → 0 < u → a * u ≡ A * de → b * u ≡ B * dd → a * dd * B ≡ A * (b * de)
quotient a b u A B de dd u0 p q =
    eq_of_mul-eq-mul_right u u0 (a * dd * B) (A * (b * de))
    (omega (arith, ap (λ (z : ℕ). z * (dd * B)) p, ap (λ (z : ℕ). z * (A * de)) q))

pub div_is : (x y : Float) → Num x → Num y → 0 < mag y → x /ᶠ y ≡ round binary64 (unlike (sgn x) (sgn y)) (mag x) (mag y)
unfolding div sgn
div_is nan y p q y0 = absurd p.fine
div_is (inf s) y p q y0 = absurd p.fine
div_is (fin s m e) nan p q y0 = absurd q.fine
div_is (fin s m e) (inf t) p q y0 = absurd q.fine
div_is (fin s m e) (fin t n d) p q y0 = go (eqb n 0) (eqb→eq n 0)
  where
    n0 : 0 < n
    n0 = first_pos n (up d * U) (omega (arith, mul-pos y0 (down_pos d), (own (fin t n d) q).1))

    go : (b : Bool) → (T b → n ≡ 0)
        → cond b (cond (eqb m 0) nan (inf (unlike s t))) (round binary64 (unlike s t) (m * up e * down d) (n * up d * down e))
        ≡ round binary64 (unlike s t) (mag (fin s m e)) (mag (fin t n d))
    go true z = absurd (omega (arith, n0, z tt))
    go false z =
        let x = fin s m e in
        let y = fin t n d in
        round_same binary64 (unlike s t) (m * up e * down d) (n * up d * down e) (mag x) (mag y) (mul-pos (mul-pos n0 (up_pos d)) (down_pos e)) y0
        (quotient (m * up e) (n * up d) U (mag x) (mag y) (down e) (down d) U_pos (own x p).1 (own y q).1)
