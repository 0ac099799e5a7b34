-- `min`, `max` and `clamp` give one of their arguments, a number where they can, within the bounds that their names promise; `abs` clears the sign.
-- Rests on `Laws/Compare.antt`.
use Rattle.std.specs.Prelude.{◌≡◌, cond, not, T, ◌⊎◌, Float}
use Rattle.std.proofs.Math.Path.{refl}
use Rattle.std.proofs.Common.{inl, inr, T_not}
use Rattle.std.specs.Float.{binary64}
use Rattle.std.specs.Float.Ieee.{lt, le, is_nan, fits}
use Rattle.std.specs.Float.Ieee.Bits.{is_false}
use Rattle.laws.specs.Truth.{yes, no}
use Rattle.float.specs.Order.{min}
use Rattle.float.specs.Laws.Nan.{Number, lt_number}
use Rattle.float.specs.Laws.Compare.{lt_le, not_lt_le, le_self}
use Rattle.float.specs.Laws.Order.{picked}

-- ---- min: b where a is a NaN or above b, and a otherwise
module _ (a b : Float) where
  pub min_elim : (P : Float → Type 0) → (T (is_nan a) → P b) → (T (lt b a) → P b) → (Number a → T (not (lt b a)) → P a) → P (min a b)
  unfolding min
  min_elim P f g h = picked P (is_nan a) b (cond (lt b a) b a) (λ n. f (yes n)) (λ n. picked P (lt b a) b a (λ l. g (yes l)) (λ l. h (no n) (no l)))

  pub min_one : (min a b ≡ a) ⊎ (min a b ≡ b)
  min_one = min_elim (λ x. (x ≡ a) ⊎ (x ≡ b)) (λ n. inr refl) (λ l. inr refl) (λ n l. inl refl)

  pub min_fits : T (fits binary64 a) → T (fits binary64 b) → T (fits binary64 (min a b))
  min_fits p q = min_elim (λ x. T (fits binary64 x)) (λ n. q) (λ l. q) (λ n l. p)

  pub min_number_l : Number a → Number (min a b)
  min_number_l n = min_elim Number (λ i. absurd (T_not (is_nan a) n i)) (λ l. (lt_number b a l).0) (λ m l. n)

  pub min_number_r : Number b → Number (min a b)
  min_number_r n = min_elim Number (λ i. n) (λ l. n) (λ m l. m)

  pub min_le_l : Number a → T (le (min a b) a)
  min_le_l n = min_elim (λ x. T (le x a)) (λ i. absurd (T_not (is_nan a) n i)) (λ l. lt_le b a l) (λ m l. le_self a n)

  pub min_le_r : Number b → T (le (min a b) b)
  min_le_r n = min_elim (λ x. T (le x b)) (λ i. le_self b n) (λ l. le_self b n) (λ m l. not_lt_le a b m n l)

  pub min_greatest : (c : Float) → T (le c a) → T (le c b) → T (le c (min a b))
  min_greatest c p q = min_elim (λ x. T (le c x)) (λ i. q) (λ l. q) (λ m l. p)

  -- if b < a { b } else { a }
  pub min_test : Number a → min a b ≡ cond (lt b a) b a
  unfolding min
  min_test n = rw (is_false (is_nan a) n) refl
