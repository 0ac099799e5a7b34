-- Where a value is out of range the cast is the end of the range, and 0 for a NaN. And small words as signed integers. Assumes
-- nothing.
use Rattle.std.proofs.Common.{◌≡◌, ℕ, zero, suc, ◌+◌, ◌-◌, ◌*◌, ◌/◌, ◌^◌, ◌<◌, ◌≤◌, min, true, false, not, T, ltb, ℤ, pos, negsuc}
use Rattle.std.proofs.Common.{◌-ℤ◌, neg_ℤ, sym, refl, ap, ◌∙◌, subst, le-div_iff_mul-le, arith, ltb→lt, nltb→le}
use Rattle.std.proofs.Common.{w64, SFits, to_z, of_z}
use lib.IntN.{+ℤ_idl}
use lib.Ieee.{Float, nan, inf, fin, up, down, lt, le, eq, to_signed, to_unsigned}
use lib.Ieee.Fits.{down_pos}
use mir.ValLaws.{to_z_pos, to_z-of_z}
use Rattle.laws.specs.Truth.{nor_l}
use Rattle.float.specs.Whole.{as_i64, as_usize}
use Rattle.float.specs.Laws.Zero.{origin}
use Rattle.float.proofs.whole.Whole.{minus_one, past}

-- the lower end of the range
abbrev pub least : Float
least = fin true 1 (pos 63)

-- a size of p or more
far : (m : ℕ) (e : ℤ) (p : ℕ) → T (not (ltb (m * up e * 1) (1 * p * down e))) → p ≤ m * up e / down e
far m e p h = let k = nltb→le (m * up e * 1) (1 * p * down e) h in (le-div_iff_mul-le (down_pos e)).1 (omega arith)

pub signed_high : (x : Float) → T (le least x) → T (not (lt x (past 63))) → pos (2 ^ 63 - 1) ≡ as_i64 x
unfolding le lt eq to_signed
signed_high nan l h = absurd l
signed_high (inf true) l h = absurd l
signed_high (inf false) l h = refl
signed_high (fin true m e) l h = let k = nltb→le 0 (m * up e * 1 + 1 * 2 ^ 63 * down e) h in absurd (omega (arith, down_pos e))
signed_high (fin false m e) l h = let k = far m e (2 ^ 63) h in ap pos (omega arith)

pub signed_low : (x : Float) → T (not (le least x)) → T (lt x origin) → negsuc (2 ^ 63 - 1) ≡ as_i64 x
unfolding le lt eq to_signed
signed_low nan l h = absurd h
signed_low (inf true) l h = refl
signed_low (inf false) l h = absurd h
signed_low (fin true m e) l h =
    let k = far m e (2 ^ 63) (nor_l (ltb (m * up e * 1) (1 * 2 ^ 63 * down e)) (eq least (fin true m e)) l) in
    let full : 2 ^ 63 ≡ min (m * up e / down e) (2 ^ 63) = omega arith in
    ap (λ (n : ℕ). neg_ℤ (pos n)) full
signed_low (fin false m e) l h = let k = ltb→lt (m * up e * 1) (0 * down e) h in absurd (omega arith)

pub signed_none : (x : Float) → T (not (le least x)) → T (not (lt x origin)) → pos 0 ≡ as_i64 x
unfolding le lt eq to_signed
signed_none nan l h = refl
signed_none (inf true) l h = absurd h
signed_none (inf false) l h = absurd l
signed_none (fin true m e) l h =
    let k = nltb→le (m * up e * 1) (1 * 2 ^ 63 * down e) (nor_l (ltb (m * up e * 1) (1 * 2 ^ 63 * down e)) (eq least (fin true m e)) l) in
    let n = nltb→le 0 (m * up e * 1 + 0 * down e) h in
    absurd (omega (arith, down_pos e))
signed_none (fin false m e) l h =
    let k = nltb→le 0 (1 * 2 ^ 63 * down e + m * up e * 1) (nor_l (ltb 0 (1 * 2 ^ 63 * down e + m * up e * 1)) (eq least (fin false m e)) l) in
    absurd (omega (arith, down_pos e))

pub unsigned_high : (x : Float) → T (lt minus_one x) → T (not (lt x (past 64))) → 2 ^ 64 - 1 ≡ as_usize x
unfolding lt to_unsigned
unsigned_high nan l h = absurd l
unsigned_high (inf true) l h = absurd l
unsigned_high (inf false) l h = refl
unsigned_high (fin true m e) l h = let k = nltb→le 0 (m * up e * 1 + 1 * 2 ^ 64 * down e) h in absurd (omega (arith, down_pos e))
unsigned_high (fin false m e) l h = let k = far m e (2 ^ 64) h in omega arith

pub unsigned_none : (x : Float) → T (not (lt minus_one x)) → 0 ≡ as_usize x
unfolding lt to_unsigned
unsigned_none nan h = refl
unsigned_none (inf true) h = refl
unsigned_none (inf false) h = absurd h
unsigned_none (fin true m e) h = refl
unsigned_none (fin false m e) h = let k = nltb→le 0 (1 * down e + m * up e * 1) h in absurd (omega (arith, down_pos e))

-- ---- a small word as an `i64`, and 0 less it
module _ (n : ℕ) (small : n ≤ 2 ^ 53) where
  fits : n < 2 ^ 63
  fits = omega arith

  pub positive_fits : SFits w64 (pos n)
  positive_fits = record { sfits = fits }

  pub positive_is : to_z w64 n ≡ pos n
  positive_is = to_z_pos w64 n fits

  minus : pos 0 -ℤ to_z w64 n ≡ neg_ℤ (pos n)
  minus = ap (λ (z : ℤ). pos 0 -ℤ z) positive_is ∙ +ℤ_idl (neg_ℤ (pos n))

  pub minus_fits : SFits w64 (pos 0 -ℤ to_z w64 n)
  minus_fits = subst (λ (z : ℤ). SFits w64 z) (sym minus) (go n small)
    where
      go : (k : ℕ) → k ≤ 2 ^ 53 → SFits w64 (neg_ℤ (pos k))
      go zero h = record { sfits = omega arith }
      go (suc k) h = record { sfits = omega arith }

  pub minus_is : to_z w64 (of_z w64 (pos 0 -ℤ to_z w64 n)) ≡ neg_ℤ (pos n)
  minus_is = to_z-of_z w64 (pos 0 -ℤ to_z w64 n) minus_fits ∙ minus
