-- Numbers that are not negative: sums, products, quotients and squares of such are such; a difference in order is; x - x is +0.
-- Rests on `Errors`: 0 has 53 digits, so rounding does not pass it.
use Rattle.std.specs.Prelude.{◌≡◌, refl, ◌⊎◌, Bool, true, false, not, ℕ, ◌*◌, ◌≤◌, ◌<◌, T, ltb, Float}
use Rattle.std.proofs.Common.{◌∙◌, inl, inr, lt_irrefl, mul-pos, arith, ltb→lt, lit<}
use Rattle.std.proofs.Math.Nat.{sub_self}
use Rattle.std.proofs.Math.Dec.{not_T}
use Rattle.std.specs.Float.{nan, inf, fin, binary64}
use Rattle.std.specs.Float.Ieee.{up, down, round, sum, add, sub, neg, unlike, of_bits, fits}
use Rattle.std.specs.Float.Ieee.Bits.{is_false}
use Rattle.std.specs.Float.Ieee.Fits.{down_pos}
use Rattle.std.specs.Float.Ieee.Scale.{finite, round_same}
use Rattle.float.specs.Ops.{◌+ᶠ◌, ◌-ᶠ◌, 0ᶠ}
use Rattle.rounding.specs.Signed.{Exact, signed, nat, ◌⊕◌, ◌≼◌}
use Rattle.rounding.specs.Value.{U, U_pos, sgn, mag, val, Num, digits_zero}
use Rattle.rounding.specs.Bounds.{Sized}
use Rattle.rounding.specs.Rounded.{round_case, round_bounded}
use Rattle.rounding.specs.Operations.{IsRound, add_is}
use Rattle.rounding.specs.Errors.{Rounding, Product, Quotient}

abbrev pub Nonneg : Float → Type 0
Nonneg x = nat 0 ≼ val x

pub zero_num : Num 0ᶠ
unfolding of_bits fits
zero_num = record { fit = tt; fine = tt }

pub zero_mag : mag 0ᶠ ≡ 0
unfolding of_bits mag U
zero_mag = refl

pub zero_val : val 0ᶠ ≡ nat 0
unfolding of_bits sgn mag U
zero_val = refl

pub zero_sized : Sized 0ᶠ 0
zero_sized = record { num = zero_num; size = rw zero_mag (omega arith) }

-- a number above 0 has no minus sign
pub positive : (x : Float) → 0 < mag x → Nonneg x → sgn x ≡ false
positive x = go (sgn x) (mag x)
  where
    go : (s : Bool) (m : ℕ) → 0 < m → nat 0 ≼ signed s m → s ≡ false
    go false m m0 h = refl
    go true m m0 h = absurd (omega (arith, m0, h))

-- a rounded sum or difference that is not negative
pub rounding_nonneg : {z : Float} {v : Exact} → Rounding z v → nat 0 ≼ v → Nonneg z
rounding_nonneg r h = r.least false 0 digits_zero h

-- the sign of a product or a quotient, where a 0 has any
unlike_nonneg :
    (s t b : Bool) (m n k : ℕ) → b ≡ unlike s t → nat 0 ≼ signed s m → nat 0 ≼ signed t n → (m ≡ 0 → k ≡ 0) → (n ≡ 0 → k ≡ 0)
    → nat 0 ≼ signed b k
unlike_nonneg false false b m n k e p q f g = rw e (omega arith)
unlike_nonneg true true b m n k e p q f g = rw e (omega arith)
unlike_nonneg false true b m n k e p q f g = rw e (omega (arith, g (omega (arith, q))))
unlike_nonneg true false b m n k e p q f g = rw e (omega (arith, f (omega (arith, p))))

like : (s : Bool) → unlike s s ≡ false
like true = refl
like false = refl

module _ (x y z : Float) where
  pub product_nonneg : Product x y z → Nonneg x → Nonneg y → Nonneg z
  product_nonneg r p q =
      unlike_nonneg (sgn x) (sgn y) (sgn z) (mag x) (mag y) (mag z) r.sign p q
      (λ (e : mag x ≡ 0). none (r.most 0 digits_zero (rw e (omega arith)))) (λ (e : mag y ≡ 0). none (r.most 0 digits_zero (rw e (omega arith))))
    where
      none : mag z ≤ 0 → mag z ≡ 0
      none h = omega arith

  pub quotient_nonneg : Quotient x y z → 0 < mag y → Nonneg x → Nonneg y → Nonneg z
  quotient_nonneg r y0 p q =
      unlike_nonneg (sgn x) (sgn y) (sgn z) (mag x) (mag y) (mag z) r.sign p q
      (λ (e : mag x ≡ 0). none (r.most 0 digits_zero (rw e (omega arith)))) (λ (e : mag y ≡ 0). absurd (omega (arith, e, y0)))
    where
      none : mag z ≤ 0 → mag z ≡ 0
      none h = omega arith

pub square_plus : {x z : Float} → Product x x z → sgn z ≡ false
square_plus {x} r = r.sign ∙ like (sgn x)

-- a sum that is not negative is finite or +∞
pub add_case : (x y : Float) → Num x → Num y → Nonneg x → Nonneg y → T (finite (x +ᶠ y)) ⊎ (x +ᶠ y ≡ inf false)
add_case x y p q o o' = go (add_is x y p q)
  where
    at : (z : Float) (s : Bool) (w : ℕ) → z ≡ round binary64 s w U → nat 0 ≼ signed s w → T (finite z) ⊎ (z ≡ inf false)
    at z false w e h = elim (round_case false w U) [ inl f ↦ inl (rw e f) | inr f ↦ inr (e ∙ f) ]
    at z true w e h = inl (rw e (round_bounded true w U U_pos (omega (arith, h))))

    go : IsRound (x +ᶠ y) (val x ⊕ val y) → T (finite (x +ᶠ y)) ⊎ (x +ᶠ y ≡ inf false)
    go r = at (x +ᶠ y) r.sign r.size r.is (omega (arith, r.value, o, o'))

-- ---- x - x
no_less : (a : ℕ) → ltb a a ≡ false
no_less a = is_false (ltb a a) (not_T (ltb a a) (λ (h : T (ltb a a)). lt_irrefl a (ltb→lt a a h)))

round_zero : (c : ℕ) → 0 < c → round binary64 false 0 c ≡ 0ᶠ
unfolding round of_bits
round_zero c c0 = round_same binary64 false 0 c 0 1 c0 (lit< tt) (omega arith)

sum_none : (s : Bool) (a c : ℕ) → 0 < c → sum binary64 s a (not s) a c ≡ 0ᶠ
unfolding sum
sum_none false a c c0 = rw (no_less a, sub_self a) (round_zero c c0)
sum_none true a c c0 = rw (no_less a, sub_self a) (round_zero c c0)

pub sub_none : (x : Float) → T (finite x) → x -ᶠ x ≡ 0ᶠ
unfolding sub add neg
sub_none nan f = absurd f
sub_none (inf s) f = absurd f
sub_none (fin s m e) f = sum_none s (m * up e * down e) (down e * down e) (mul-pos (down_pos e) (down_pos e))
