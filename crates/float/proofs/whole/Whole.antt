-- What the code of the whole parts does, by the value's form: its range tests, the number that it cuts to, and the test whether that lies below the value.
-- Rests on `Laws/Whole.antt`.
use Rattle.std.proofs.Common.{◌≡◌, ℕ, zero, suc, ◌+◌, ◌-◌, ◌*◌, ◌/◌, ◌^◌, ◌<◌, ◌≤◌, min, Bool, true, false, not, T, ltb}
use Rattle.std.proofs.Common.{ℤ, pos, neg_ℤ, sym, refl, ap, ◌∙◌, subst, true≢false, le_of_lt, mul-le-mul_right}
use Rattle.std.proofs.Common.{mul-lt-mul_of_pos_right, arith, ltb→lt, lt→ltb, nltb→le, T_not, ltb-false, ltb-true, le-ltb, lt-ltb}
use lib.Ieee.{Float, nan, inf, fin, binary64, up, down, neg, round, lt, fits, of_int, to_unsigned}
use Rattle.std.specs.Float.{round_with, ratio_floor, ratio_ceil}
use Rattle.std.proofs.Math.Nat.{div-eq_of_lt}
use lib.Ieee.Fits.{down_pos, neg-fits, round-fits}
use lib.Ieee.Exact.{HasValue}
use lib.Ieee.Back.{round_whole, whole_unique}
use mir.Val.{bool_byte}
use Rattle.float.specs.Whole.{floor, ceil, as_i64, as_usize}
use Rattle.float.specs.Laws.Zero.{origin, positive_above, negative_below, zero_not_above, zero_not_below}
use Rattle.float.specs.Laws.Whole.{under, over, Small, bound, under_lt, over_is, over_le}
use Rattle.float.specs.Laws.Whole.{floor_large, floor_fits, floor_below, ceil_above, neg_value, signed_value, unsigned_value}

-- ---- the values above zero and below 2 ^ 53, and those below zero and above -2 ^ 53
abbrev pub Sized : Bool → Float → Type 0
Sized s x = (m : ℕ) × (e : ℤ) × (x ≡ fin s (suc m) e) × Small (suc m) e

pub above_sized : (x : Float) → T (lt origin x) → T (lt x (bound false)) → Sized false x
unfolding lt
above_sized nan l h = absurd l
above_sized (inf true) l h = absurd l
above_sized (inf false) l h = absurd h
above_sized (fin true m e) l h = absurd l
above_sized (fin false zero e) l h = absurd (zero_not_above false e l)
above_sized (fin false (suc m) e) l h = (m, e, refl, let k = ltb→lt (suc m * up e * 1) (1 * 2 ^ 53 * down e) h in omega arith)

pub below_sized : (x : Float) → T (lt x origin) → T (lt (bound true) x) → Sized true x
unfolding lt
below_sized nan l h = absurd l
below_sized (inf true) l h = absurd h
below_sized (inf false) l h = absurd l
below_sized (fin true zero e) l h = absurd (zero_not_below true e l)
below_sized (fin true (suc m) e) l h = (m, e, refl, let k = ltb→lt (suc m * up e * 1) (1 * 2 ^ 53 * down e) h in omega arith)
below_sized (fin false zero e) l h = absurd (zero_not_below false e l)
below_sized (fin false (suc m) e) l h = let k = ltb→lt (suc m * up e * 1) (0 * down e) l in absurd (omega arith)

-- ---- what the casts and `whole_above` ask
-- the ends of the kit's cut
abbrev pub past : ℕ → Float
past w = fin false 1 (pos w)

abbrev pub minus_one : Float
minus_one = fin true 1 (pos 0)

pub cut_asks : (x : Float) → Sized false x → T (lt minus_one x) × T (lt x (past 64))
unfolding lt
cut_asks x (m, e, i, h) = subst (λ (y : Float). T (lt minus_one y) × T (lt y (past 64))) (sym i) (
  lt→ltb 0 (1 * down e + suc m * up e * 1) (omega (arith, down_pos e)),
  lt→ltb (suc m * up e * 1) (1 * 2 ^ 64 * down e) (omega arith),
)

pub neg_sized : (x : Float) → Sized true x → Sized false (neg x)
unfolding neg
neg_sized x (m, e, i, h) = (m, e, ap neg i, h)

pub above_asks : (x : Float) → Sized false x → T (lt origin x) × T (lt x (bound false))
unfolding lt
above_asks x (m, e, i, h) =
    subst (λ (y : Float). T (lt origin y) × T (lt y (bound false))) (sym i)
    (positive_above m e, lt→ltb (suc m * up e * 1) (1 * 2 ^ 53 * down e) (omega arith))

-- ---- what they give, by the value's form
cut_is : (m : ℕ) (e : ℤ) → Small (suc m) e → to_unsigned 64 (fin false (suc m) e) ≡ under (suc m) e
unfolding to_unsigned under
cut_is m e h = omega (arith, under_lt (suc m) e h)

above_is : (m : ℕ) (e : ℤ) → Small (suc m) e → as_usize (ceil (fin false (suc m) e)) ≡ over (suc m) e
above_is m e h = unsigned_value (ceil (fin false (suc m) e)) (over (suc m) e) (ceil_above m e h) (omega (arith, over_le (suc m) e h))

-- a whole number below a value
ltb_scale : (a b k : ℕ) → 0 < k → ltb (a * k) (b * k) ≡ ltb a b
ltb_scale a b k K = go (ltb a b) (ltb-true a b) (ltb-false a b)
  where
    go : (t : Bool) → (t ≡ true → a < b) → (t ≡ false → b ≤ a) → ltb (a * k) (b * k) ≡ t
    go true y n = lt-ltb (a * k) (b * k) (mul-lt-mul_of_pos_right (y refl) K)
    go false y n = le-ltb (a * k) (b * k) (mul-le-mul_right k (n refl))

lt_whole : (y : Float) (n m : ℕ) (e : ℤ) → HasValue y false n 1 → lt y (fin false m e) ≡ ltb (n * down e) (m * up e)
unfolding lt
lt_whole nan n m e h = absurd h
lt_whole (inf t) n m e h = absurd h
lt_whole (fin true k d) n m e h = absurd (true≢false h.0)
lt_whole (fin false k d) n m e h =
    ap (λ (a : ℕ). ltb a (m * up e * down d)) (omega (arith, ap (λ (z : ℕ). z * down e) h.1)) ∙ ltb_scale (n * down e) (m * up e) (down d) (down_pos d)

-- ---- x cut
module _ (x : Float) (n : ℕ) (cut : n ≡ to_unsigned 64 x) where
  pub cut_lt : Sized false x → n < 2 ^ 53
  cut_lt (m, e, i, h) = rw (cut, i, cut_is m e h) (under_lt (suc m) e h)

  pub cut_floor : Sized false x → of_int binary64 (pos n) ≡ floor x
  unfolding of_int floor under
  cut_floor (m, e, i, h) = rw (cut, i, cut_is m e h) refl

  pub cut_above : Sized false x → n + bool_byte (lt (of_int binary64 (pos n)) x) ≡ as_usize (ceil x)
  unfolding of_int
  cut_above (m, e, i, h) =
      let k = under (suc m) e in
      rw (cut, i, cut_is m e h)
      (ap (λ (b : Bool). k + bool_byte b) (lt_whole (round binary64 false k 1) k (suc m) e (round_whole binary64 false k (le_of_lt (under_lt (suc m) e h))))
      ∙ over_is (suc m) e ∙ sym (above_is m e h))

-- ---- the least whole number at least x
module _ (x : Float) (n : ℕ) (above : n ≡ as_usize (ceil x)) where
  pub above_le : Sized false x → n ≤ 2 ^ 53
  above_le (m, e, i, h) = rw (above, i, above_is m e h) (over_le (suc m) e h)

  pub above_ceil : Sized false x → pos n ≡ as_i64 (ceil x)
  above_ceil (m, e, i, h) =
      let k = over (suc m) e in
      rw (above, i, above_is m e h) (ap pos (omega (arith, over_le (suc m) e h)) ∙ sym (signed_value (ceil (fin false (suc m) e)) false k (ceil_above m e h)))

-- ---- the least whole number at least -x
module _ (x : Float) (n : ℕ) (above : n ≡ as_usize (ceil (neg x))) where
  pub below_value : Sized true x → HasValue (floor x) true n 1
  unfolding neg
  below_value (m, e, i, h) = rw (above, i, above_is m e h) (floor_below m e h)

  pub below_cast : Sized true x → neg_ℤ (pos n) ≡ as_i64 (floor x)
  below_cast z =
      let capped : n ≡ min n (2 ^ 63) = omega (arith, above_le (neg x) n above (neg_sized x z)) in
      ap (λ (k : ℕ). neg_ℤ (pos k)) capped ∙ sym (signed_value (floor x) true n (below_value z))

  pub below_floor : T (fits binary64 x) → Sized true x → neg (of_int binary64 (pos n)) ≡ floor x
  unfolding of_int
  below_floor t z =
      let r = round binary64 false n 1 in
      whole_unique binary64 (neg r) (floor x) true n (neg-fits binary64 r (round-fits binary64 false n 1)) (floor_fits x t)
      (neg_value r false n 1 (round_whole binary64 false n (above_le (neg x) n above (neg_sized x z)))) (below_value z)

-- ---- the values that are their own floors
pub floor_far_above : (x : Float) → T (fits binary64 x) → T (lt origin x) → T (not (lt x (bound false))) → x ≡ floor x
unfolding floor lt
floor_far_above nan t l h = refl
floor_far_above (inf s) t l h = refl
floor_far_above (fin true m e) t l h = absurd l
floor_far_above (fin false zero e) t l h = refl
floor_far_above (fin false (suc m) e) t l h = sym (floor_large false m e t (let k = nltb→le (suc m * up e * 1) (1 * 2 ^ 53 * down e) h in omega arith))

pub floor_far_below : (x : Float) → T (fits binary64 x) → T (lt x origin) → T (not (lt (bound true) x)) → x ≡ floor x
unfolding floor lt
floor_far_below nan t l h = refl
floor_far_below (inf s) t l h = refl
floor_far_below (fin false zero e) t l h = refl
floor_far_below (fin false (suc m) e) t l h = let k = ltb→lt (suc m * up e * 1) (0 * down e) l in absurd (omega arith)
floor_far_below (fin true zero e) t l h = refl
floor_far_below (fin true (suc m) e) t l h = sym (floor_large true m e t (let k = nltb→le (suc m * up e * 1) (1 * 2 ^ 53 * down e) h in omega arith))

pub floor_zero : (x : Float) → T (not (lt origin x)) → T (not (lt x origin)) → x ≡ floor x
unfolding floor
floor_zero nan l h = refl
floor_zero (inf s) l h = refl
floor_zero (fin true zero e) l h = refl
floor_zero (fin false zero e) l h = refl
floor_zero (fin false (suc m) e) l h = absurd (T_not (lt origin (fin false (suc m) e)) l (positive_above m e))
floor_zero (fin true (suc m) e) l h = absurd (T_not (lt (fin true (suc m) e) origin) h (negative_below m e))

-- ---- the kit's floor is the same
zero_rounded : (s : Bool) (n : ℕ) (e : ℤ) → n ≡ 0 → T (fits binary64 (fin s zero e)) → round binary64 s n 1 ≡ fin s zero e
zero_rounded s n e z t =
    whole_unique binary64 (round binary64 s n 1) (fin s zero e) s n (round-fits binary64 s n 1) t
    (round_whole binary64 s n (omega (arith, z))) (refl, omega (arith, ap (λ (a : ℕ). a * down e) z))

pub kit_floor : (x : Float) → T (fits binary64 x) → round_with ratio_floor ratio_ceil binary64 x ≡ floor x
unfolding round_with floor
kit_floor nan t = refl
kit_floor (inf s) t = refl
kit_floor (fin false zero e) t = zero_rounded false (0 * up e / down e) e (div-eq_of_lt (omega (arith, down_pos e))) t
kit_floor (fin true zero e) t = zero_rounded true ((0 * up e + down e - 1) / down e) e (div-eq_of_lt (omega (arith, down_pos e))) t
kit_floor (fin false (suc m) e) t = refl
kit_floor (fin true (suc m) e) t = refl
