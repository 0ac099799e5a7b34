-- The values that fit and are not below zero, a NaN among them: a product of a value with itself, and a sum of two of them.
-- Rests on the kit's account of rounding.
use Rattle.std.specs.Prelude.{◌≡◌, ℕ, zero, suc, ◌+◌, ◌-◌, ◌*◌, ◌^◌, ◌<◌, Bool, true, false, cond, not, T, pos, nat_lt, refl, Float}
use Rattle.std.proofs.Common.{sym, ap, subst, zero-lt-suc, mul-pos, arith, T_not}
use Rattle.std.proofs.Math.Dec.{not_T}
use Rattle.std.specs.Float.{nan, inf, fin, Format, binary64}
use Rattle.std.specs.Float.Ieee.{prec, emax, low, up, down, odd, units, round, sum, add, mul, lt, fits}
use Rattle.std.specs.Float.Ieee.Fits.{down_pos, round_is, add-fits, mul-fits}
use Rattle.std.specs.Float.Ieee.Nearest.{closest}
use Rattle.std.specs.Float.Ieee.Order.{drop}
use Rattle.std.specs.Float.Ieee.Scale.{round_same}
use Rattle.float.specs.Ops.{◌+ᶠ◌, ◌*ᶠ◌}
use Rattle.float.specs.Laws.Compare.{lt_not_le}
use Rattle.float.specs.Laws.Zero.{origin, zero_not_below, negative_below, Plain, plain_above}

pub record Square (x : Float) : Type 0 where
  pub fit : T (fits binary64 x)
  pub not_below : T (not (lt x origin))

pub plain_not_below : (x : Float) → Plain x → T (not (lt x origin))
plain_not_below x p = not_T (lt x origin) (λ (h : T (lt x origin)). lt_not_le x origin h (plain_above x p))

-- ---- what is rounded with no minus has none
pub units_plain : (f : Format) (q k : ℕ) → Plain (units f false q k)
unfolding units odd
units_plain f q k = go q (nat_lt (q * 2 ^ k) (2 ^ (low f + suc (emax f))))
  where
    go : (q : ℕ) (b : Bool) → Plain (cond b (odd (suc (prec f)) false q k (low f)) (inf false))
    go zero true = tt
    go (suc q) true = tt
    go q false = tt

pub round_plain : (f : Format) (a c : ℕ) → Plain (round f false a c)
round_plain f a c =
    let k = drop (prec f) (a * 2 ^ low f) c in
    subst Plain (sym (round_is f false a c)) (units_plain f (closest (a * 2 ^ low f) (c * 2 ^ k)) k)

rounded : (a c : ℕ) → T (not (lt (round binary64 false a c) origin))
rounded a c = plain_not_below (round binary64 false a c) (round_plain binary64 a c)

zero_is : (s : Bool) → round binary64 s 0 1 ≡ fin s 0 (pos 0)
unfolding round
zero_is true = refl
zero_is false = refl

zero_rounded : (s : Bool) (a c : ℕ) → 0 < c → a ≡ 0 → T (not (lt (round binary64 s a c) origin))
zero_rounded s a c C z =
    rw (round_same binary64 s a c 0 1 C (zero-lt-suc 0) (omega (arith, ap (λ (n : ℕ). n * c) z)), zero_is s)
    (not_T (lt (fin s 0 (pos 0)) origin) (zero_not_below s (pos 0)))

-- ---- x * x
times_not_below : (x : Float) → T (not (lt (x *ᶠ x) origin))
unfolding mul lt
times_not_below nan = tt
times_not_below (inf true) = tt
times_not_below (inf false) = tt
times_not_below (fin true m e) = rounded (m * up e * (m * up e)) (down e * down e)
times_not_below (fin false m e) = rounded (m * up e * (m * up e)) (down e * down e)

pub times_self : (x : Float) → Square (x *ᶠ x)
times_self x = record { fit = mul-fits binary64 x x; not_below = times_not_below x }

-- ---- x + y
-- of two signs, one is a zero's
zero_and :
    (a b c : ℕ) → 0 < c → a ≡ 0 → T (not (lt (cond (nat_lt a b) (round binary64 false (b - a) c) (round binary64 (nat_lt b a) (a - b) c)) origin))
zero_and a b c C z = go (nat_lt a b)
  where
    go : (t : Bool) → T (not (lt (cond t (round binary64 false (b - a) c) (round binary64 (nat_lt b a) (a - b) c)) origin))
    go true = rounded (b - a) c
    go false = zero_rounded (nat_lt b a) (a - b) c C (omega arith)

and_zero : (a b c : ℕ) → 0 < c → b ≡ 0 → T (not (lt (cond (nat_lt a b) (round binary64 true (b - a) c) (round binary64 false (a - b) c)) origin))
and_zero a b c C z = go (nat_lt a b)
  where
    go : (t : Bool) → T (not (lt (cond t (round binary64 true (b - a) c) (round binary64 false (a - b) c)) origin))
    go true = zero_rounded true (b - a) c C (omega arith)
    go false = rounded (a - b) c

plus_not_below : (x y : Float) → T (not (lt x origin)) → T (not (lt y origin)) → T (not (lt (x +ᶠ y) origin))
unfolding add sum lt
plus_not_below nan y h k = tt
plus_not_below (inf true) y h k = absurd h
plus_not_below (inf false) nan h k = tt
plus_not_below (inf false) (inf true) h k = absurd k
plus_not_below (inf false) (inf false) h k = tt
plus_not_below (inf false) (fin t n d) h k = tt
plus_not_below (fin s m e) nan h k = tt
plus_not_below (fin s m e) (inf true) h k = absurd k
plus_not_below (fin s m e) (inf false) h k = tt
plus_not_below (fin false m e) (fin false n d) h k = rounded (m * up e * down d + n * up d * down e) (down e * down d)
plus_not_below (fin true (suc m) e) (fin t n d) h k = absurd (T_not (lt (fin true (suc m) e) origin) h (negative_below m e))
plus_not_below (fin true zero e) (fin true (suc n) d) h k = absurd (T_not (lt (fin true (suc n) d) origin) k (negative_below n d))
plus_not_below (fin false m e) (fin true (suc n) d) h k = absurd (T_not (lt (fin true (suc n) d) origin) k (negative_below n d))
plus_not_below (fin true zero e) (fin true zero d) h k =
    zero_rounded true (0 * up e * down d + 0 * up d * down e) (down e * down d) (mul-pos (down_pos e) (down_pos d)) (omega arith)
plus_not_below (fin true zero e) (fin false n d) h k =
    zero_and (0 * up e * down d) (n * up d * down e) (down e * down d) (mul-pos (down_pos e) (down_pos d)) (omega arith)
plus_not_below (fin false m e) (fin true zero d) h k =
    and_zero (m * up e * down d) (0 * up d * down e) (down e * down d) (mul-pos (down_pos e) (down_pos d)) (omega arith)

pub plus : (x y : Float) → Square x → Square y → Square (x +ᶠ y)
plus x y s t = record { fit = add-fits binary64 x y; not_below = plus_not_below x y s.not_below t.not_below }
