-- `min`, `max` and `clamp` give one of their arguments, a number where they can, within the bounds that their names promise; `abs` clears the sign.
-- Rests on `Laws/Compare.antt`.
use Rattle.std.specs.Prelude.{◌≡◌, Bool, true, false, cond, not, T, ◌⊎◌, Float}
use Rattle.std.proofs.Math.Path.{refl}
use Rattle.std.proofs.Common.{inl, inr, T_not}
use Rattle.std.specs.Float.{nan, inf, fin, binary64}
use Rattle.std.specs.Float.Ieee.{lt, le, neg, is_nan, fits}
use Rattle.std.specs.Float.Ieee.Bits.{is_false}
use Rattle.laws.specs.Truth.{yes, no}
use Rattle.float.specs.Order.{abs, max, clamp}
use Rattle.float.specs.Laws.Nan.{Number, lt_number, le_number}
use Rattle.float.specs.Laws.Compare.{lt_le, lt_not_le, not_lt_le, le_self}
use Rattle.float.specs.Laws.Zero.{Plain}

-- what holds of a choice holds of both sides where the test says so
pub picked : {A : Type 0} (P : A → Type 0) (b : Bool) (x y : A) → (b ≡ true → P x) → (b ≡ false → P y) → P (cond b x y)
picked P true x y f g = f refl
picked P false x y f g = g refl

-- ---- max: b where a is a NaN or below b, and a otherwise
module _ (a b : Float) where
  pub max_elim : (P : Float → Type 0) → (T (is_nan a) → P b) → (T (lt a b) → P b) → (Number a → T (not (lt a b)) → P a) → P (max a b)
  unfolding max
  max_elim P f g h = picked P (is_nan a) b (cond (lt a b) b a) (λ n. f (yes n)) (λ n. picked P (lt a b) b a (λ l. g (yes l)) (λ l. h (no n) (no l)))

  pub max_one : (max a b ≡ a) ⊎ (max a b ≡ b)
  max_one = max_elim (λ x. (x ≡ a) ⊎ (x ≡ b)) (λ n. inr refl) (λ l. inr refl) (λ n l. inl refl)

  pub max_fits : T (fits binary64 a) → T (fits binary64 b) → T (fits binary64 (max a b))
  max_fits p q = max_elim (λ x. T (fits binary64 x)) (λ n. q) (λ l. q) (λ n l. p)

  pub max_number_l : Number a → Number (max a b)
  max_number_l n = max_elim Number (λ i. absurd (T_not (is_nan a) n i)) (λ l. (lt_number a b l).1) (λ m l. n)

  pub max_number_r : Number b → Number (max a b)
  max_number_r n = max_elim Number (λ i. n) (λ l. n) (λ m l. m)

  pub max_ge_l : Number a → T (le a (max a b))
  max_ge_l n = max_elim (λ x. T (le a x)) (λ i. absurd (T_not (is_nan a) n i)) (λ l. lt_le a b l) (λ m l. le_self a n)

  pub max_ge_r : Number b → T (le b (max a b))
  max_ge_r n = max_elim (λ x. T (le b x)) (λ i. le_self b n) (λ l. le_self b n) (λ m l. not_lt_le b a n m l)

  pub max_least : (c : Float) → T (le a c) → T (le b c) → T (le (max a b) c)
  max_least c p q = max_elim (λ x. T (le x c)) (λ i. q) (λ l. q) (λ m l. p)

  -- if a < b { b } else { a }
  pub max_test : Number a → max a b ≡ cond (lt a b) b a
  unfolding max
  max_test n = rw (is_false (is_nan a) n) refl

-- ---- clamp
module _ (x low high : Float) where
  pub clamp_elim :
      (P : Float → Type 0) → (T (lt x low) → P low) → (T (lt high x) → P high) → (T (not (lt x low)) → T (not (lt high x)) → P x)
      → P (clamp x low high)
  unfolding clamp
  clamp_elim P f g h =
      picked P (lt x low) low (cond (lt high x) high x) (λ l. f (yes l)) (λ l. picked P (lt high x) high x (λ r. g (yes r)) (λ r. h (no l) (no r)))

  pub clamp_fits : T (fits binary64 x) → T (fits binary64 low) → T (fits binary64 high) → T (fits binary64 (clamp x low high))
  clamp_fits p q r = clamp_elim (λ z. T (fits binary64 z)) (λ l. q) (λ l. r) (λ l g. p)

  pub clamp_number : Number x → Number (clamp x low high)
  clamp_number n = clamp_elim Number (λ l. (lt_number x low l).1) (λ l. (lt_number high x l).0) (λ l g. n)

  pub clamp_ge : Number x → T (le low high) → T (le low (clamp x low high))
  clamp_ge n h =
      let b = le_number low high h in
      clamp_elim (λ z. T (le low z)) (λ l. le_self low b.0) (λ l. h) (λ l g. not_lt_le low x b.0 n l)

  pub clamp_le : Number x → T (le low high) → T (le (clamp x low high) high)
  clamp_le n h =
      let b = le_number low high h in
      clamp_elim (λ z. T (le z high)) (λ l. h) (λ l. le_self high b.1) (λ l g. not_lt_le x high n b.1 g)

  pub clamp_same : T (le low x) → T (le x high) → clamp x low high ≡ x
  clamp_same p q = clamp_elim (λ z. z ≡ x) (λ l. absurd (lt_not_le x low l p)) (λ l. absurd (lt_not_le high x l q)) (λ l g. refl)

-- ---- abs
pub abs_plain : (x : Float) → Number x → Plain (abs x)
unfolding abs is_nan
abs_plain nan n = absurd n
abs_plain (inf s) n = tt
abs_plain (fin s m e) n = tt

pub abs_number : (x : Float) → Number x → Number (abs x)
unfolding abs is_nan
abs_number nan n = n
abs_number (inf s) n = tt
abs_number (fin s m e) n = tt

pub abs_same : (x : Float) → Plain x → abs x ≡ x
unfolding abs
abs_same nan p = absurd p
abs_same (inf true) p = absurd p
abs_same (inf false) p = refl
abs_same (fin true m e) p = absurd p
abs_same (fin false m e) p = refl

pub abs_neg : (x : Float) → abs (neg x) ≡ abs x
unfolding abs neg
abs_neg nan = refl
abs_neg (inf s) = refl
abs_neg (fin s m e) = refl
