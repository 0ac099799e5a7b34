-- A pattern with its sign turned over is that of the value with its sign turned over.
-- Rests on `Pattern.antt`.
use Rattle.std.specs.Prelude.{◌≡◌, ℕ, ◌+◌, ◌%◌, ◌^◌, ◌≤◌, Bool, true, false, cond, not, T, to_bits, refl, Float}
use Rattle.std.proofs.Common.{arith}
use Rattle.std.specs.Float.{nan, inf, fin, binary64}
use Rattle.std.specs.Float.Ieee.{fits, is_nan, neg, nan_bits}
use Rattle.std.specs.Float.Ieee.Fits.{neg-fits}
use Rattle.float.specs.Order.{abs}
use Rattle.float.specs.Laws.Nan.{Number}
use Rattle.float.specs.Laws.Compare.{neg_number}
use Rattle.float.specs.Laws.Order.{abs_neg}
use Rattle.float.specs.Laws.Pattern.{negative, pattern_sign, pattern_most, own_pattern}

neg_sign : (x : Float) → Number x → negative (neg x) ≡ not (negative x)
unfolding neg is_nan
neg_sign nan n = absurd n
neg_sign (inf s) n = refl
neg_sign (fin s m e) n = refl

pub turned_pattern :
    (x : Float) (b : Bool) → T (fits binary64 x) → Number x → (to_bits binary64 x + cond b 0 (2 ^ 63)) % 2 ^ 64 ≡ to_bits binary64 (cond b x (neg x))
turned_pattern x false f n =
    rw (pattern_sign x, pattern_sign (neg x), abs_neg x, neg_sign x n) (turn (negative x) (to_bits binary64 (abs x)) (pattern_most x f n))
  where
    turn : (s : Bool) (t : ℕ) → t ≤ 0x7ff0_0000_0000_0000 → (cond s (2 ^ 63) 0 + t + 2 ^ 63) % 2 ^ 64 ≡ cond (not s) (2 ^ 63) 0 + t
    turn true t h = omega arith
    turn false t h = omega arith
turned_pattern x true f n = rw (pattern_sign x) (keep (negative x) (to_bits binary64 (abs x)) (pattern_most x f n))
  where
    keep : (s : Bool) (t : ℕ) → t ≤ 0x7ff0_0000_0000_0000 → (cond s (2 ^ 63) 0 + t + 0) % 2 ^ 64 ≡ cond s (2 ^ 63) 0 + t
    keep true t h = omega arith
    keep false t h = omega arith

pub turned_fits : (x : Float) (b : Bool) → T (fits binary64 x) → T (fits binary64 (cond b x (neg x)))
turned_fits x true f = f
turned_fits x false f = neg-fits binary64 x f

turned_number : (x : Float) (b : Bool) → Number x → Number (cond b x (neg x))
turned_number x true n = n
turned_number x false n = neg_number x n

-- it is no NaN's
pub turned_no_nan :
    (x : Float) (b : Bool) → T (fits binary64 x) → Number x → T (not (nan_bits binary64 ((to_bits binary64 x + cond b 0 (2 ^ 63)) % 2 ^ 64)))
turned_no_nan x b f n = rw (turned_pattern x b f n) (own_pattern (cond b x (neg x)) (turned_fits x b f) (turned_number x b n))
