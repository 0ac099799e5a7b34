-- `floor() as i64`, `ceil() as i64` and `floor() as usize` of a finite number: the greatest whole number at most it, the least at least it.
-- Rests on `Whole` (floor is exact) and float's laws of the casts.
use Rattle.std.specs.Prelude.{◌≡◌, refl, Bool, true, false, cond, ℕ, zero, suc, ◌+◌, ◌-◌, ◌*◌}
use Rattle.std.specs.Prelude.{◌/◌, ◌^◌, ◌≤◌, ◌<◌, min, ℤ, pos, neg_ℤ, Float}
use Rattle.std.proofs.Common.{sym, ap, ◌∙◌, subst, le_of_lt, lt_of_le_of_lt, le_of_mul-le-mul_right, arith}
use Rattle.std.proofs.Math.Nat.{eq_of_mul-eq-mul_right, min-eq_left, div-eq_of_lt-le}
use Rattle.std.specs.Float.{nan, inf, fin}
use Rattle.std.specs.Float.Ieee.{up, down, neg, to_unsigned}
use Rattle.std.specs.Float.Ieee.Exact.{HasValue}
use Rattle.float.specs.Whole.{floor, ceil, as_i64, as_usize}
use Rattle.float.specs.Laws.Whole.{signed_value, unsigned_value}
use Rattle.rounding.specs.Signed.{Exact, signed, scaled, nat, opp, plain, ◌⊕◌, ◌≈◌, ◌≼◌, ◌≺◌}
use Rattle.rounding.specs.Value.{U, U_pos, sgn, mag, val, Num, own, neg_num, neg_mag, neg_val}
use Rattle.rounding.specs.Integers.{int}
use Rattle.rounding.specs.Whole.{ones, floor_law}

-- 2 ^ 63
abbrev pub half : ℕ
half = 9223372036854775808

-- x is n whole ones
whole_value : (x : Float) (n : ℕ) → Num x → mag x ≡ n * U → HasValue x (sgn x) n 1
unfolding sgn
whole_value nan n p h = absurd p.fine
whole_value (inf s) n p h = absurd p.fine
whole_value (fin s m e) n p h =
    (refl, eq_of_mul-eq-mul_right U U_pos (m * up e * 1) (n * down e) (omega (arith, (own (fin s m e) p).1, ap (λ (z : ℕ). z * down e) h)))

neg_int : (n : ℕ) → int (neg_ℤ (pos n)) ≈ signed true n
neg_int zero = omega arith
neg_int (suc n) = omega arith

pub to_i64 : (x : Float) (n : ℕ) → Num x → mag x ≡ n * U → n < half → int (as_i64 x) ≈ signed (sgn x) n
to_i64 x n p e h = rw (signed_value x (sgn x) n (whole_value x n p e)) (go (sgn x))
  where
    go : (s : Bool) → int (cond s (neg_ℤ (pos (min n (2 ^ 63)))) (pos (min n (2 ^ 63 - 1)))) ≈ signed s n
    go true = rw (min-eq_left (le_of_lt h)) (neg_int n)
    go false = omega (arith, h)

pub to_usize : (x : Float) (n : ℕ) → Num x → nat 0 ≼ val x → mag x ≡ n * U → n < half → as_usize x ≡ n
unfolding to_unsigned sgn
to_usize nan n p o e h = absurd p.fine
to_usize (inf s) n p o e h = absurd p.fine
to_usize (fin false m d) n p o e h = unsigned_value (fin false m d) n (whole_value (fin false m d) n p e) (omega (arith, h))
to_usize (fin true m d) n p o e h = nothing n (omega (arith, plain true (mag (fin true m d)) o, e))
  where
    nothing : (n : ℕ) → n * U ≤ 0 → 0 ≡ n
    nothing zero h = refl
    nothing (suc n) h = absurd (omega (arith, h, U_pos))

-- ---- the greatest whole number z that is at most x
pub record IsFloor (z : ℤ) (x : Float) : Type 0 where
  pub low : ones z ≼ val x
  pub high : val x ≺ ones z ⊕ nat U

-- the least whole number z that is at least x
pub record IsCeil (z : ℤ) (x : Float) : Type 0 where
  pub high : val x ≼ ones z
  pub low : ones z ≺ val x ⊕ nat U

count_le : (n k M u : ℕ) → 0 < u → n * u < M + u → M ≤ k * u → n ≤ suc k
count_le n k M u u0 a b = le_of_mul-le-mul_right {k = u} (omega (arith, a, b)) u0

near_size : (s t : Bool) (m n u : ℕ) → signed s n ≼ signed t m → signed t m ≺ signed s n ⊕ nat u → n < m + u
near_size false false m n u a b = omega arith
near_size false true m n u a b = omega (arith, a, b)
near_size true false m n u a b = omega arith
near_size true true m n u a b = omega arith

-- x is a whole number: the integer is x
pub i64_whole : (x : Float) (n : ℕ) → Num x → mag x ≡ n * U → n < half → ones (as_i64 x) ≈ val x
i64_whole x n p e h = rw e (scaled (int (as_i64 x)) (sgn x) n U (to_i64 x n p e h))

-- the whole number below a number of size k is of size k + 1 at most
floor_count : (x : Float) (k : ℕ) (p : Num x) → mag x ≤ k * U → (floor_law x p).n ≤ suc k
floor_count x k p h =
    let f = floor_law x p in
    let y = floor x in
    let n = f.n in
    let v : val y ≡ signed (sgn y) (n * U) = ap (λ (z : ℕ). signed (sgn y) z) f.size in
    count_le n k (mag x) U U_pos
    (near_size (sgn y) (sgn x) (mag x) (n * U) U (subst (λ (w : Exact). w ≼ val x) v f.low) (subst (λ (w : Exact). val x ≺ w ⊕ nat U) v f.high)) h

module _ (x : Float) (k : ℕ) (p : Num x) (h : mag x ≤ k * U) (l : suc k < half) where
  pub floor_i64 : IsFloor (as_i64 (floor x)) x
  floor_i64 =
      let f = floor_law x p in
      let e = i64_whole (floor x) f.n f.num f.size (lt_of_le_of_lt (floor_count x k p h) l) in
      record { low = omega (arith, e, f.low); high = omega (arith, e, f.high) }

  pub floor_usize : nat 0 ≼ val x → as_usize (floor x) ≡ mag x / U
  floor_usize o =
      let f = floor_law x p in
      let y = floor x in
      let n = f.n in
      let q : nat 0 ≼ val y = whole_plus (sgn y) (mag y) n f.size (omega (arith, o, f.high)) in
      let a = plain (sgn y) (mag y) q in
      let b = plain (sgn x) (mag x) o in
      to_usize y n f.num q f.size (lt_of_le_of_lt (floor_count x k p h) l)
      ∙ sym (div-eq_of_lt-le U (omega (arith, a, b, f.low, f.size)) (omega (arith, a, b, f.high, f.size)))
    where
      whole_plus : (s : Bool) (m n : ℕ) → m ≡ n * U → nat 0 ≺ signed s m ⊕ nat U → nat 0 ≼ signed s m
      whole_plus false m n e h = omega arith
      whole_plus true m zero e h = omega (arith, e)
      whole_plus true m (suc n) e h = absurd (omega (arith, e, h))

pub ceil_i64 : (x : Float) (k : ℕ) → Num x → mag x ≤ k * U → suc k < half → IsCeil (as_i64 (ceil x)) x
unfolding ceil
ceil_i64 x k p h l =
    let q = neg_num x p in
    let g : mag (neg x) ≤ k * U = subst (λ (z : ℕ). z ≤ k * U) (sym (neg_mag x)) h in
    let f = floor_law (neg x) q in
    let y = floor (neg x) in
    let e : ones (as_i64 (neg y)) ≈ val (neg y) =
    i64_whole (neg y) f.n (neg_num y f.num) (neg_mag y ∙ f.size) (lt_of_le_of_lt (floor_count (neg x) k q g) l) in
    let e' : ones (as_i64 (neg y)) ≈ opp (val y) = rw (neg_val y f.num) at e in
    let lo : val y ≼ opp (val x) = rw (neg_val x p) at f.low in
    let hi : opp (val x) ≺ val y ⊕ nat U = rw (neg_val x p) at f.high in
    record { high = omega (arith, e', lo); low = omega (arith, e', hi) }
