-- The total order is a linear one on the values that fit: it goes as `<` does where that tells two numbers apart, -0 stands right before +0, and NaN is last.
-- Rests on `Laws/Pattern.antt`.
use Rattle.std.specs.Prelude.{◌≡◌, ℕ, ◌+◌, ◌-◌, ◌^◌, ◌<◌, ◌≤◌, Bool, true}
use Rattle.std.specs.Prelude.{false, cond, T, ◌⊎◌, ◌≢◌, nat_le, refl, Float}
use Rattle.std.proofs.Common.{ap, inl, inr, true≢false, arith, ltb→lt, lt→ltb, le-leb, leb-true, leb-false}
use Rattle.std.proofs.lemmas.Bool.{false≢true, lt-leb}
use Prim.Native.Nat.{Ordering}
use Rattle.std.specs.Float.{nan, inf, fin, binary64}
use Rattle.std.specs.Float.Ieee.{fits, lt, le, eq, neg, of_bits, to_bits}
use Rattle.std.specs.Float.Ieee.Bits.{to_bits-lt}
use Rattle.laws.specs.Orders.{Linear, linear_compare, linear_on, compared, told}
use Rattle.laws.specs.Truth.{no, or_split}
use Rattle.float.specs.Ops.{0ᶠ, -0ᶠ}
use Rattle.float.specs.Order.{abs}
use Rattle.float.specs.Total.{total_key, total_cmp, total_less}
use Rattle.float.specs.Laws.Nan.{Number, lt_number}
use Rattle.float.specs.Laws.Compare.{not_lt_le, neg_lt}
use Rattle.float.specs.Laws.Same.{Zero, same}
use Rattle.float.specs.Laws.Order.{abs_plain}
use Rattle.float.specs.Laws.Pattern.{negative, abs_fits, pattern_sign, pattern_most, plain_lt, same_pattern}

pub nan_key : total_key nan ≡ 0xfff8_0000_0000_0000
unfolding total_key to_bits
nan_key = refl

-- ---- the key of a number: above 2 ^ 63 by its size where it has no minus, and below it otherwise
key_of :
    (s : Bool) (t : ℕ) → t ≤ 0x7ff0_0000_0000_0000 → let b = cond s (2 ^ 63) 0 + t in
    cond (nat_le (2 ^ 63) b) (2 ^ 64 - 1 - b) (2 ^ 63 + b) ≡ cond s (2 ^ 63 - 1 - t) (2 ^ 63 + t)
key_of true t h = rw (le-leb (2 ^ 63) (2 ^ 63 + t) (omega arith)) (omega arith)
key_of false t h = rw (lt-leb (2 ^ 63) (0 + t) (omega arith)) (omega arith)

pub key_is :
    (x : Float) → T (fits binary64 x) → Number x
    → total_key x ≡ cond (negative x) (2 ^ 63 - 1 - to_bits binary64 (abs x)) (2 ^ 63 + to_bits binary64 (abs x))
unfolding total_key
key_is x t n = rw (pattern_sign x) (key_of (negative x) (to_bits binary64 (abs x)) (pattern_most x t n))

-- ---- it goes as `<`
abs_minus : (x : Float) → negative x ≡ true → neg x ≡ abs x
unfolding abs neg
abs_minus nan h = absurd (false≢true h)
abs_minus (inf true) h = refl
abs_minus (inf false) h = absurd (false≢true h)
abs_minus (fin true m e) h = refl
abs_minus (fin false m e) h = absurd (false≢true h)

abs_plus : (x : Float) → negative x ≡ false → x ≡ abs x
unfolding abs
abs_plus nan h = refl
abs_plus (inf true) h = absurd (true≢false h)
abs_plus (inf false) h = refl
abs_plus (fin true m e) h = absurd (true≢false h)
abs_plus (fin false m e) h = refl

-- no value without a minus is below one with it
no_cross : (x y : Float) → T (lt x y) → negative x ≡ false → negative y ≢ true
unfolding lt
no_cross nan y h p q = h
no_cross (inf true) y h p q = true≢false p
no_cross (inf false) nan h p q = h
no_cross (inf false) (inf t) h p q = h
no_cross (inf false) (fin t n d) h p q = h
no_cross (fin true m e) y h p q = true≢false p
no_cross (fin false m e) nan h p q = h
no_cross (fin false m e) (inf true) h p q = h
no_cross (fin false m e) (inf false) h p q = false≢true q
no_cross (fin false m e) (fin true n d) h p q = h
no_cross (fin false m e) (fin false n d) h p q = false≢true q

pub total_of_lt : (x y : Float) → T (fits binary64 x) → T (fits binary64 y) → T (lt x y) → total_key x < total_key y
total_of_lt x y t u h = rw (key_is x t n.0, key_is y u n.1) (go (negative x) (negative y) refl refl)
  where
    n : Number x × Number y
    n = lt_number x y h

    shrinks : T (lt (abs y) (abs x)) → to_bits binary64 (abs y) < to_bits binary64 (abs x)
    shrinks l = plain_lt (abs y) (abs x) (abs_fits y u) (abs_fits x t) (abs_plain y n.1) (abs_plain x n.0) l

    grows : T (lt (abs x) (abs y)) → to_bits binary64 (abs x) < to_bits binary64 (abs y)
    grows l = plain_lt (abs x) (abs y) (abs_fits x t) (abs_fits y u) (abs_plain x n.0) (abs_plain y n.1) l

    go :
        (a b : Bool) → negative x ≡ a → negative y ≡ b
        → cond a (2 ^ 63 - 1 - to_bits binary64 (abs x)) (2 ^ 63 + to_bits binary64 (abs x)) < cond b
        (2 ^ 63 - 1 - to_bits binary64 (abs y)) (2 ^ 63 + to_bits binary64 (abs y))
    go true true p q = omega (arith, pattern_most x t n.0, shrinks (rw (abs_minus y q, abs_minus x p) at (neg_lt x y h)))
    go true false p q = omega arith
    go false true p q = absurd (no_cross x y h p q)
    go false false p q = omega (arith, grows (rw (← abs_plus x p, ← abs_plus y q) h))

-- ---- one key, one value
unkey :
    (b c : ℕ) → b < 2 ^ 64 → c < 2 ^ 64
    → cond (nat_le (2 ^ 63) b) (2 ^ 64 - 1 - b) (2 ^ 63 + b) ≡ cond (nat_le (2 ^ 63) c) (2 ^ 64 - 1 - c) (2 ^ 63 + c) → b ≡ c
unkey b c hb hc = go (nat_le (2 ^ 63) b) (nat_le (2 ^ 63) c) (leb-true (2 ^ 63) b) (leb-false (2 ^ 63) b) (leb-true (2 ^ 63) c) (leb-false (2 ^ 63) c)
  where
    go :
        (s t : Bool) → (s ≡ true → 2 ^ 63 ≤ b) → (s ≡ false → b < 2 ^ 63) → (t ≡ true → 2 ^ 63 ≤ c) → (t ≡ false → c < 2 ^ 63)
        → cond s (2 ^ 64 - 1 - b) (2 ^ 63 + b) ≡ cond t (2 ^ 64 - 1 - c) (2 ^ 63 + c) → b ≡ c
    go true true p q r s e = omega (arith, p refl, r refl)
    go true false p q r s e = absurd (omega (arith, p refl, s refl))
    go false true p q r s e = absurd (omega (arith, q refl, r refl))
    go false false p q r s e = omega (arith, q refl, s refl)

pub same_key : (x y : Float) → T (fits binary64 x) → T (fits binary64 y) → total_key x ≡ total_key y → x ≡ y
unfolding total_key
same_key x y t u e = same_pattern x y t u (unkey (to_bits binary64 x) (to_bits binary64 y) (to_bits-lt binary64 x t) (to_bits-lt binary64 y u) e)

-- ---- what a key that is less says: `<`, or a -0 and a +0
pub lt_of_total :
    (x y : Float) → T (fits binary64 x) → T (fits binary64 y) → Number x → Number y → total_key x < total_key y → T (lt x y) ⊎ (Zero x × Zero y)
unfolding le
lt_of_total x y t u n k h = go (lt x y) refl
  where
    back : T (lt y x) ⊎ T (eq y x) → Zero x × Zero y
    back (inl l) = absurd (omega (arith, total_of_lt y x u t l))
    back (inr e) = elim (same binary64 y x u t e) [ inl i ↦ absurd (omega (arith, ap total_key i)) | inr z ↦ (z.1, z.0) ]

    go : (b : Bool) → lt x y ≡ b → T b ⊎ (Zero x × Zero y)
    go true i = inl tt
    go false i = inr (back (or_split (lt y x) (eq y x) (not_lt_le y x k n (no i))))

pub zeros : total_less -0ᶠ 0ᶠ ≡ true
unfolding total_less of_bits neg
zeros = refl

pub nan_last : (x : Float) → T (fits binary64 x) → Number x → total_key x < total_key nan
nan_last x t n = rw (key_is x t n, nan_key) (go (negative x))
  where
    go : (s : Bool) → cond s (2 ^ 63 - 1 - to_bits binary64 (abs x)) (2 ^ 63 + to_bits binary64 (abs x)) < 0xfff8_0000_0000_0000
    go true = omega arith
    go false = omega (arith, pattern_most x t n)

-- ---- a linear order
pub total_linear : Linear total_cmp
unfolding total_cmp
total_linear = linear_on total_key linear_compare

pub total_same : (x y : Float) → T (fits binary64 x) → T (fits binary64 y) → total_cmp x y ≡ Ordering.eq → x ≡ y
unfolding total_cmp
total_same x y t u e = same_key x y t u (told (total_key x) (total_key y) Ordering.eq e)

pub less_cmp : (x y : Float) → T (total_less x y) → total_cmp x y ≡ Ordering.lt
unfolding total_cmp total_less
less_cmp x y h = compared (total_key x) (total_key y) Ordering.lt (ltb→lt (total_key x) (total_key y) h)

pub cmp_less : (x y : Float) → total_cmp x y ≡ Ordering.lt → T (total_less x y)
unfolding total_cmp total_less
cmp_less x y e = lt→ltb (total_key x) (total_key y) (told (total_key x) (total_key y) Ordering.lt e)
