-- A coordinate as a signed number: its bits, its range, and its float.
-- Rests on a float being rounded apart from its sign.
use Rattle.std.specs.Prelude.{ℕ, zero, suc, ◌-◌, ◌*◌, ◌^◌, ◌<◌, ◌≡◌, refl, Bool, true, false, cond, ltb, eqb, not, ℤ, pos, negsuc, Float}
use Rattle.std.proofs.Common.{sym, ap, ◌∙◌, arith}
use Rattle.std.specs.Int.{cast_signed, w32}
use Rattle.std.specs.Float.{nan, inf, fin, binary64}
use Rattle.std.specs.Float.Ieee.{neg, div, round, of_int, of_bits}
use lib.Ieee.{Format, units, odd, unlike, up, down, prec, low}
use Rattle.float.specs.Ops.{◌/ᶠ◌, literal}
use Rattle.format.specs.Numbers.{share, coord_of}

units_neg : (f : Format) (q k : ℕ) → units f true q k ≡ neg (units f false q k)
unfolding units odd neg
units_neg f q k = go q (ltb (q * 2 ^ k) _)
  where
    go : (q : ℕ) (b : Bool) → cond b (odd (suc (prec f)) true q k (low f)) (inf true) ≡ neg (cond b (odd (suc (prec f)) false q k (low f)) (inf false))
    go zero true = refl
    go (suc q) true = refl
    go q false = refl

round_neg : (f : Format) (n d : ℕ) → round f true n d ≡ neg (round f false n d)
unfolding round
round_neg f n d = units_neg f _ _

neg_neg : (x : Float) → neg (neg x) ≡ x
unfolding neg
neg_neg nan = refl
neg_neg (inf true) = refl
neg_neg (inf false) = refl
neg_neg (fin true m e) = refl
neg_neg (fin false m e) = refl

-- the quotient by a number that is not negative
div_neg : (f : Format) (x : Float) (n : ℕ) (d : ℤ) → div f (neg x) (fin false n d) ≡ neg (div f x (fin false n d))
unfolding div neg
div_neg f nan n d = refl
div_neg f (inf true) n d = refl
div_neg f (inf false) n d = refl
div_neg f (fin s m e) n d = go s (eqb n 0) (eqb m 0)
  where
    p : ℕ
    p = m * up e * down d

    q : ℕ
    q = n * up d * down e

    go :
        (s a b : Bool)
        → cond a (cond b nan (inf (unlike (not s) false))) (round f (unlike (not s) false) p q)
        ≡ neg (cond a (cond b nan (inf (unlike s false))) (round f (unlike s false) p q))
    go true true true = refl
    go false true true = refl
    go true true false = refl
    go false true false = refl
    go false false b = round_neg f p q
    go true false b = sym (ap neg (round_neg f p q) ∙ neg_neg _)

kilo : Float
kilo = literal 0x4090_0000_0000_0000

kilo_is : kilo ≡ fin false 1 (pos 10)
unfolding kilo of_bits
kilo_is = refl

of_int_neg : (k : ℕ) → of_int binary64 (negsuc k) ≡ neg (of_int binary64 (pos (suc k)))
unfolding of_int
of_int_neg k = round_neg binary64 (suc k) 1

share_neg : (k : ℕ) → div binary64 (of_int binary64 (negsuc k)) kilo ≡ neg (share (suc k))
unfolding share kilo
share_neg k =
    let n = of_int binary64 (pos (suc k)) in
    rw of_int_neg (
    ap (div binary64 (neg n)) kilo_is
    ∙ div_neg binary64 n 1 (pos 10)
    ∙ ap (λ (x : Float). neg (div binary64 n x)) (sym kilo_is)
    )

pub coord_signed : (u : ℕ) → u < 2 ^ 32 → of_int binary64 (cast_signed w32 u) /ᶠ literal 0x4090_0000_0000_0000 ≡ coord_of u
unfolding coord_of share kilo
coord_signed u h = go (ltb u 2147483648)
  where
    e : suc (4294967296 - suc u) ≡ 4294967296 - u
    e = omega arith

    go : (b : Bool) → div binary64 (of_int binary64 (cond b (pos u) (negsuc (4294967296 - suc u)))) kilo ≡ cond b (share u) (neg (share (4294967296 - u)))
    go true = refl
    go false = share_neg (4294967296 - suc u) ∙ ap (λ (n : ℕ). neg (share n)) e
