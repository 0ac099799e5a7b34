-- The root keeps the order: of two values, the smaller at least zero (-0 included), the larger has a root that is no smaller.
-- Rests on `Laws/Floor.antt` and `Laws/Compare.antt`.
use Rattle.std.proofs.Common.{sym, subst, inl, inr, le_refl, le_of_eq, lt_of_le_of_lt, not-le_of_lt, eq-or-lt_of_le, mul-le-mul_left, mul-le-mul_right}
use Rattle.std.proofs.Common.{mul_right_comm, zero-lt-suc, le-div_iff_mul-le, arith, ltb→lt, lt→ltb, nltb→le, pow-add, pow_pos, pow_mono}
use Rattle.std.specs.Prelude.{ℕ, zero, suc, ◌+◌, ◌-◌, ◌*◌, ◌/◌, ◌%◌, ◌^◌, ◌<◌}
use Rattle.std.specs.Prelude.{◌≤◌, Bool, true, false, cond, not, T, ℤ, nat_lt, Float}
use Prim.Native.Nat.{compare, Ordering}
use Rattle.std.proofs.Math.Nat as Nat
use Rattle.std.proofs.Math.Pow.{shr_mono}
use Rattle.std.specs.Float.{nan, inf, fin, Format}
use Rattle.std.specs.Float.Ieee.{prec, emax, low, up, down, size, nearest, odd, units, le}
use Rattle.std.specs.Float.Ieee.Digits.{size-lt, size-le, size_reaches}
use Rattle.std.specs.Float.Ieee.Fits.{down_pos, kept-lt, nearest-le, two, two-le_pos}
use Rattle.std.specs.Float.Ieee.Exact.{odd_sign}
use Rattle.std.specs.Float.Ieee.Nearest.{nearest-ge, div_mono}
use Rattle.std.specs.Float.Ieee.Order.{le_of_values}
use Rattle.std.specs.Float.Ieee.Positive.{positive, above, above_of_le, le→cross}
use Rattle.laws.specs.Orders.{Says, says}
use Rattle.float.specs.Root.{floor_root, nearest_root, root_of}
use Rattle.float.specs.Laws.Compare.{le_trans}
use Rattle.float.specs.Laws.Zero.{origin, zero_le, zero_ge, negative_not_above, Plain, plain_above}
use Rattle.float.specs.Laws.Square.{units_plain}
use Rattle.float.specs.Laws.Floor.{root_lt, whole_part, mid}

-- ---- rounding to one of two steps keeps the order
same_step : (q : ℕ) (o p : Ordering) (a b c : ℕ) → a ≤ b → Says a c o → Says b c p → nearest q o ≤ nearest q p
same_step q Ordering.lt p a b c h x y = nearest-ge q p
same_step q Ordering.eq Ordering.lt a b c h x y = absurd (omega arith)
same_step q Ordering.eq Ordering.eq a b c h x y = le_refl (q + q % 2)
same_step q Ordering.eq Ordering.gt a b c h x y = nearest-le q Ordering.eq
same_step q Ordering.gt Ordering.lt a b c h x y = absurd (omega arith)
same_step q Ordering.gt Ordering.eq a b c h x y = absurd (omega arith)
same_step q Ordering.gt Ordering.gt a b c h x y = le_refl (suc q)

-- what is kept of √n in steps of 2 ^ k, from its whole part w
abbrev pub kept : ℕ → ℕ → ℕ → ℕ
kept n w k = nearest (w / 2 ^ k) (compare (4 * n) (mid (w / 2 ^ k) k))

kept_ge : (n w k : ℕ) → w / 2 ^ k ≤ kept n w k
kept_ge n w k = nearest-ge (w / 2 ^ k) (compare (4 * n) (mid (w / 2 ^ k) k))

same_drop : (n n' w w' k : ℕ) → n ≤ n' → w ≤ w' → kept n w k ≤ kept n' w' k
same_drop n n' w w' k h g =
    elim (eq-or-lt_of_le (shr_mono k g)) [
      | inl e ↦
          let q = w' / 2 ^ k in
          subst (λ (q : ℕ). nearest q (compare (4 * n) (mid q k)) ≤ kept n' w' k) (sym e)
          (same_step q (compare (4 * n) (mid q k)) (compare (4 * n') (mid q k)) (4 * n)
          (4 * n') (mid q k) (mul-le-mul_left 4 h) (says (4 * n) (mid q k)) (says (4 * n') (mid q k)))
      | inr l ↦ Nat.le_trans (nearest-le (w / 2 ^ k) (compare (4 * n) (mid (w / 2 ^ k) k))) (Nat.le_trans l (kept_ge n' w' k))
    ]

-- either both drop as many digits, or a power of two lies between the two results
grid_mono :
    (p n n' w w' : ℕ) → 0 < p → n ≤ n' → w ≤ w' → kept n w (size w - p) * 2 ^ (size w - p) ≤ kept n' w' (size w' - p) * 2 ^ (size w' - p)
grid_mono p n n' w w' P h g =
    let j = size w - p in
    let k = size w' - p in
    let longer : size w ≤ size w' = size-le w (size w') (lt_of_le_of_lt g (size-lt w')) in
    let fewer : j ≤ k = omega arith in
    elim (eq-or-lt_of_le fewer) [
      | inl e ↦ subst (λ (x : ℕ). kept n w x * 2 ^ x ≤ kept n' w' k * 2 ^ k) (sym e) (mul-le-mul_right (2 ^ k) (same_drop n n' w w' k h g))
      | inr l ↦
          let room : p + j ≤ p - 1 + k = omega arith in
          let used : p - 1 + k < size w' = omega arith in
          let most : kept n w j ≤ 2 ^ p = Nat.le_trans (nearest-le (w / 2 ^ j) (compare (4 * n) (mid (w / 2 ^ j) j))) (kept-lt p w) in
          let least : 2 ^ (p - 1) ≤ kept n' w' k =
          Nat.le_trans
          ((le-div_iff_mul-le (pow_pos k)).1 (Nat.le_trans (le_of_eq (sym (pow-add 2 (p - 1) k))) (size_reaches w' (p - 1 + k) used))) (kept_ge n' w' k) in
          Nat.le_trans (mul-le-mul_right (2 ^ j) most)
          (Nat.le_trans (le_of_eq (sym (pow-add 2 p j)))
          (Nat.le_trans (pow_mono room) (Nat.le_trans (le_of_eq (pow-add 2 (p - 1) k)) (mul-le-mul_right (2 ^ k) least))))
    ]

-- ---- `units` keeps the order
le_inf : (d : ℕ) (q k l : ℕ) → T (le (odd d false q k l) (inf false))
unfolding le odd
le_inf d zero k l = tt
le_inf d (suc q) k l = tt

units_mono : (f : Format) (q j r k : ℕ) → q * 2 ^ j ≤ r * 2 ^ k → T (le (units f false q j) (units f false r k))
unfolding units
units_mono f q j r k h = go (nat_lt (q * 2 ^ j) top) (nat_lt (r * 2 ^ k) top) (nltb→le (q * 2 ^ j) top) (ltb→lt (r * 2 ^ k) top)
  where
    top : ℕ
    top = 2 ^ (low f + suc (emax f))

    go :
        (x y : Bool) → (T (not x) → top ≤ q * 2 ^ j) → (T y → r * 2 ^ k < top)
        → T (le (cond x (odd (suc (prec f)) false q j (low f)) (inf false)) (cond y (odd (suc (prec f)) false r k (low f)) (inf false)))
    go true true a b =
        le_of_values (odd (suc (prec f)) false q j (low f)) (odd (suc (prec f)) false r k (low f))
        (q * 2 ^ j) (2 ^ low f) (r * 2 ^ k) (2 ^ low f) (pow_pos (low f)) (pow_pos (low f))
        (odd_sign (suc (prec f)) false q j (low f)) (odd_sign (suc (prec f)) false r k (low f)) (mul-le-mul_right (2 ^ low f) h)
    go true false a b = le_inf (suc (prec f)) q j (low f)
    go false true a b = absurd (not-le_of_lt (lt_of_le_of_lt h (b tt)) (a tt))
    go false false a b = unfold le in tt

-- ---- whole numbers of the smallest value squared
floor_mono : (n n' : ℕ) → n ≤ n' → floor_root (size n) n ≤ floor_root (size n') n'
floor_mono n n' h =
    let x : floor_root (size n) n < floor_root (size n') n' + 1 = root_lt (lt_of_le_of_lt (whole_part n).0 (lt_of_le_of_lt h (whole_part n').1)) in
    omega arith

pub nearest_mono : (f : Format) (n n' : ℕ) → n ≤ n' → T (le (nearest_root f n) (nearest_root f n'))
unfolding nearest_root
nearest_mono f n n' h =
    let w = floor_root (size n) n in
    let w' = floor_root (size n') n' in
    let j = size w - prec f in
    let k = size w' - prec f in
    units_mono f (kept n w j) j (kept n' w' k) k (grid_mono (prec f) n n' w w' (two-le_pos (prec f) (two f)) h (floor_mono n n' h))

pub nearest_plain : (f : Format) (n : ℕ) → Plain (nearest_root f n)
unfolding nearest_root
nearest_plain f n =
    let w = floor_root (size n) n in
    let k = size w - prec f in
    units_plain f (kept n w k) k

-- ---- the root of a value that is at least zero is at least zero
pub root_above : (f : Format) (x : Float) → T (le origin x) → T (le origin (root_of f x))
unfolding root_of le
root_above f nan h = absurd h
root_above f (inf true) h = absurd h
root_above f (inf false) h = tt
root_above f (fin true zero e) h = h
root_above f (fin false zero e) h = h
root_above f (fin true (suc m) e) h = absurd (negative_not_above m e h)
root_above f (fin false (suc m) e) h =
    let n = suc m * up e * (2 ^ low f * 2 ^ low f) / down e in
    plain_above (nearest_root f n) (nearest_plain f n)

-- ---- of two values above zero
is_positive : (m : ℕ) (e : ℤ) → T (positive (fin false (suc m) e))
is_positive m e = lt→ltb 0 (suc m) (zero-lt-suc m)

scaled_mono : (l a b c d : ℕ) → 0 < b → 0 < d → a * d ≤ c * b → a * l / b ≤ c * l / d
scaled_mono l a b c d B D h =
    div_mono (a * l) b (c * l) d B D (Nat.le_trans (le_of_eq (mul_right_comm a l d)) (Nat.le_trans (mul-le-mul_right l h) (le_of_eq (mul_right_comm c b l))))

plain_le_inf : (x : Float) → Plain x → T (le x (inf false))
unfolding le
plain_le_inf nan p = absurd p
plain_le_inf (inf true) p = absurd p
plain_le_inf (inf false) p = tt
plain_le_inf (fin s m e) p = tt

positive_mono :
    (f : Format) (m : ℕ) (e : ℤ) (y : Float) → T (above y) → T (le (fin false (suc m) e) y) → T (le (root_of f (fin false (suc m) e)) (root_of f y))
unfolding root_of
positive_mono f m e nan a h = absurd a
positive_mono f m e (inf true) a h = absurd a
positive_mono f m e (inf false) a h =
    let n = suc m * up e * (2 ^ low f * 2 ^ low f) / down e in
    plain_le_inf (nearest_root f n) (nearest_plain f n)
positive_mono f m e (fin true n d) a h = absurd a
positive_mono f m e (fin false zero d) a h = absurd a
positive_mono f m e (fin false (suc n) d) a h =
    let l = 2 ^ low f * 2 ^ low f in
    nearest_mono f (suc m * up e * l / down e) (suc n * up d * l / down d)
    (scaled_mono l (suc m * up e) (down e) (suc n * up d) (down d) (down_pos e) (down_pos d)
    (le→cross (fin false (suc m) e) (fin false (suc n) d) (is_positive m e) (is_positive n d) h))

-- ---- of any two values, the smaller at least zero
from_zero : (f : Format) (s : Bool) (e : ℤ) (y : Float) → T (le (fin s zero e) y) → T (le (fin s zero e) (root_of f y))
from_zero f s e y h = le_trans (fin s zero e) origin (root_of f y) (zero_le s e) (root_above f y (le_trans origin (fin s zero e) y (zero_ge s e) h))

from_infinity : (f : Format) (y : Float) → T (le (inf false) y) → T (le (inf false) (root_of f y))
unfolding root_of le
from_infinity f nan h = absurd h
from_infinity f (inf true) h = absurd h
from_infinity f (inf false) h = tt
from_infinity f (fin s n d) h = absurd h

pub root_of_mono : (f : Format) (x y : Float) → T (le origin x) → T (le x y) → T (le (root_of f x) (root_of f y))
unfolding root_of le
root_of_mono f nan y z h = absurd z
root_of_mono f (inf true) y z h = absurd z
root_of_mono f (inf false) y z h = from_infinity f y h
root_of_mono f (fin true zero e) y z h = from_zero f true e y h
root_of_mono f (fin false zero e) y z h = from_zero f false e y h
root_of_mono f (fin true (suc m) e) y z h = absurd (negative_not_above m e z)
root_of_mono f (fin false (suc m) e) y z h = positive_mono f m e y (above_of_le (fin false (suc m) e) y (is_positive m e) h) h
