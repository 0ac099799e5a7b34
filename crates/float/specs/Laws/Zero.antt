-- The tests of a value against zero, by the value's form.
-- Rests on `Laws/Compare.antt`.
use Rattle.std.specs.Prelude.{◌≡◌, ℕ, zero, suc, ◌+◌, ◌*◌, ◌<◌, Bool, true, false, not, ◌||◌, T, ℤ, pos, ◌==◌, refl, Float}
use Rattle.std.specs.Bool.{beq}
use Rattle.std.proofs.Common.{mul-pos, zero-lt-suc, arith, ltb→lt, lt→ltb, eqb→eq}
use Rattle.std.proofs.Math.Dec.{not_T}
use Rattle.std.specs.Float.{nan, inf, fin, binary64}
use Rattle.std.specs.Float.Ieee.{up, down, lt, le, eq, is_nan, of_bits}
use Rattle.std.specs.Float.Ieee.Fits.{up_pos, and_l, and_i, eq→eqb}
use Rattle.laws.specs.Truth.{or_l, or_r}
use Rattle.float.specs.Laws.Compare.{lt_not_le, not_lt_le}

-- 0.0, as the code has it by its pattern, and as a value
abbrev pub origin : Float
origin = fin false 0 (pos 0)

pub origin_is : of_bits binary64 0 ≡ origin
unfolding of_bits
origin_is = refl

pub zero_not_above : (s : Bool) (e : ℤ) → T (lt origin (fin s zero e)) → ⊥
unfolding lt
zero_not_above true e t = t
zero_not_above false e t = let h = ltb→lt (0 * down e) (0 * up e * 1) t in omega arith

pub zero_not_below : (s : Bool) (e : ℤ) → T (lt (fin s zero e) origin) → ⊥
unfolding lt
zero_not_below true e t = let h = ltb→lt 0 (0 * up e * 1 + 0 * down e) t in omega arith
zero_not_below false e t = let h = ltb→lt (0 * up e * 1) (0 * down e) t in omega arith

pub zero_equal : (s : Bool) (e : ℤ) → T (eq (fin s zero e) origin)
unfolding eq
zero_equal true e =
    and_i (0 * up e * 1 == 0 * down e) (0 * up e * 1 == 0)
    (eq→eqb {a = 0 * up e * 1} {b = 0 * down e} (omega arith)) (eq→eqb {a = 0 * up e * 1} {b = 0} (omega arith))
zero_equal false e = and_i (0 * up e * 1 == 0 * down e) true (eq→eqb {a = 0 * up e * 1} {b = 0 * down e} (omega arith)) tt

size_pos : (m : ℕ) (e : ℤ) → 0 < suc m * up e
size_pos m e = mul-pos (zero-lt-suc m) (up_pos e)

pub positive_above : (m : ℕ) (e : ℤ) → T (lt origin (fin false (suc m) e))
unfolding lt
positive_above m e = lt→ltb (0 * down e) (suc m * up e * 1) (omega (arith, size_pos m e))

pub negative_below : (m : ℕ) (e : ℤ) → T (lt (fin true (suc m) e) origin)
unfolding lt
negative_below m e = lt→ltb 0 (suc m * up e * 1 + 0 * down e) (omega (arith, size_pos m e))

pub nonzero_unequal : (s : Bool) (m : ℕ) (e : ℤ) → T (eq (fin s (suc m) e) origin) → ⊥
unfolding eq
nonzero_unequal s m e t =
    let h =
    eqb→eq (suc m * up e * 1) (0 * down e) (and_l (suc m * up e * 1 == 0 * down e) (beq s false || suc m * up e * 1 == 0) t) in omega (arith, size_pos m e)

-- ---- in terms of `≤`: a zero of either sign is at most zero and at least zero, and a value with no minus is at least zero
pub zero_le : (s : Bool) (e : ℤ) → T (le (fin s zero e) origin)
unfolding le
zero_le s e = or_r (lt (fin s zero e) origin) (eq (fin s zero e) origin) (zero_equal s e)

pub zero_ge : (s : Bool) (e : ℤ) → T (le origin (fin s zero e))
unfolding is_nan
zero_ge s e = not_lt_le origin (fin s zero e) tt tt (not_T (lt (fin s zero e) origin) (zero_not_below s e))

pub negative_not_above : (m : ℕ) (e : ℤ) → T (le origin (fin true (suc m) e)) → ⊥
negative_not_above m e h = lt_not_le (fin true (suc m) e) origin (negative_below m e) h

-- the sign is clear
abbrev pub Plain : Float → Type 0
Plain nan = ⊥
Plain (inf s) = T (not s)
Plain (fin s m e) = T (not s)

pub plain_above : (x : Float) → Plain x → T (le origin x)
unfolding le
plain_above nan p = absurd p
plain_above (inf true) p = absurd p
plain_above (inf false) p = tt
plain_above (fin true m e) p = absurd p
plain_above (fin false zero e) p = zero_ge false e
plain_above (fin false (suc m) e) p = or_l (lt origin (fin false (suc m) e)) (eq origin (fin false (suc m) e)) (positive_above m e)
