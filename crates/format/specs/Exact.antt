-- A number counted in 1/1024 becomes a float exactly: the division rounds nothing. A coordinate is a whole number of 1/1024, and at most 1,024.
-- Rests on the rounding laws of exact quotients. 1/1024 is 2 ^ 1064 units.
use Rattle.std.specs.Prelude.{ℕ, ◌-◌, ◌*◌, ◌^◌, ◌≤◌, ◌<◌, ◌≡◌, refl, Bool, true, false, cond, leb, pos, Float}
use Rattle.std.proofs.Common.{sym, ap, ◌∙◌, le_trans, le_of_eq, one-mul, mul_assoc, mul-le-mul_right, arith, pow-add, pow_pos, leb-true, lt-ltb, le-ltb}
use Rattle.std.specs.Float.{binary64}
use Rattle.std.specs.Float.Ieee.{neg, of_int, of_bits, unlike}
use Rattle.float.specs.Ops.{literal}
use Rattle.rounding.specs.Signed.{Exact, signed, nat, opp, ◌≈◌}
use Rattle.rounding.proofs.Whole.{of_int_exact}
use Rattle.rounding.specs.Value.{U, U-is, E, sgn, val, neg_num, neg_mag, neg_val}
use Rattle.rounding.specs.Bounds.{Sized}
use Rattle.rounding.proofs.Errors.{div_of_finite}
use Rattle.rounding.specs.Exactness.{Multiple}
use Rattle.rounding.proofs.Exactness.{int_multiple, div_exact}
use Rattle.format.specs.Numbers.{share, in_range, coord_of}

-- 1024.0
kilo : Float
kilo = literal 0x4090_0000_0000_0000

kilo_is : of_int binary64 (pos 1024) ≡ kilo
unfolding kilo of_int of_bits
kilo_is = refl

kilo_multiple : Multiple kilo 1084 1
kilo_multiple =
    let m = rw kilo_is at (int_multiple (pos 1024) (omega arith)) in
    record { num = m.num; is = m.is ∙ sym (ap (λ (z : ℕ). 1 * z) (pow-add 2 10 1074)) ∙ refl }

pub share_exact : (n : ℕ) → n < E → Multiple (share n) 1064 n
unfolding share kilo
share_exact n h = div_exact 1064 (int_multiple (pos n) h) kilo_multiple refl h refl (omega arith)

-- ---- its value

kilo_plus : sgn kilo ≡ false
unfolding kilo of_bits sgn
kilo_plus = refl

unlike_plus : (s : Bool) → unlike s false ≡ s
unlike_plus true = refl
unlike_plus false = refl

scaled : (s : Bool) (n g : ℕ) → signed s n ≈ nat n → signed s (n * g) ≈ nat (n * g)
scaled false n g h = omega arith
scaled true n g h =
    let z : n ≡ 0 = omega arith in
    rw z (omega arith)

pub share_value : (n : ℕ) → n < E → val (share n) ≈ nat (n * 2 ^ 1064)
unfolding share kilo
share_value n h =
    let x = of_int binary64 (pos n) in
    let w = of_int_exact (pos n) h in
    let m = share_exact n h in
    let d = div_of_finite x kilo w.num kilo_multiple.num (rw (kilo_multiple.is, one-mul (2 ^ 1084)) (pow_pos 1084)) m.num.fine in
    let s : sgn (share n) ≡ sgn x = d.sign ∙ rw kilo_plus (unlike_plus (sgn x)) in
    rw (s, m.is) (scaled (sgn x) n (2 ^ 1064) w.sign)

-- ---- a coordinate

pub record Coordinate (x : Float) : Type 0 where
  pub sign : Bool
  pub count : ℕ
  pub few : count ≤ 1048576
  pub multiple : Multiple x 1064 count
  pub value : val x ≈ signed sign (count * 2 ^ 1064)

plus : (n : ℕ) → n ≤ 1048576 → Coordinate (share n)
plus n h =
    record { sign = false; count = n; few = h; multiple = share_exact n (omega arith); value = share_value n (omega arith) }

minus : (n : ℕ) → n ≤ 1048576 → Coordinate (neg (share n))
minus n h =
    let m = share_exact n (omega arith) in
    let v = share_value n (omega arith) in
    record {
      sign = true;
      count = n;
      few = h;
      multiple = record { num = neg_num (share n) m.num; is = neg_mag (share n) ∙ m.is };
      value = rw (neg_val (share n) m.num) (turned (val (share n)) (n * 2 ^ 1064) v);
    }
  where
    turned : (v : Exact) (m : ℕ) → v ≈ nat m → opp v ≈ signed true m
    turned v m h = omega arith

in_range_lem : (u : ℕ) (b : Bool) → leb u 1048576 ≡ b → cond b true (leb 4293918720 u) ≡ true → Coordinate (coord_of u)
unfolding coord_of
in_range_lem u true e h =
    let l = leb-true u 1048576 e in
    rw (lt-ltb u 2147483648 (omega arith)) (plus u l)
in_range_lem u false e h =
    let l = leb-true 4293918720 u h in
    rw (le-ltb u 2147483648 (omega arith)) (minus (4294967296 - u) (omega arith))

pub coordinate : (u : ℕ) → in_range u ≡ true → Coordinate (coord_of u)
unfolding in_range
coordinate u h = in_range_lem u (leb u 1048576) refl h

-- at most 1,024
pub coordinate_sized : {x : Float} → Coordinate x → Sized x 1024
coordinate_sized {x} c =
    record {
      num = c.multiple.num;
      size = le_trans (le_of_eq c.multiple.is) (le_trans (mul-le-mul_right (2 ^ 1064) c.few) (le_of_eq kilo_units));
    }
  where
    kilo_units : 1048576 * 2 ^ 1064 ≡ 1024 * U
    kilo_units = mul_assoc 1024 1024 (2 ^ 1064) ∙ ap (λ (z : ℕ). 1024 * z) (sym (pow-add 2 10 1064) ∙ sym U-is)
