-- Where a lattice puts a point: anchor + offset + i * s across and anchor + j * h along, each operation rounded, against the exact places.
-- Rests on `Errors`; whole numbers of steps are exact floats.
use Rattle.std.specs.Prelude.{◌≡◌, Bool, true, false, ℕ, ◌+◌, ◌*◌, ◌≤◌, ◌<◌, ℤ, nat_abs, Float}
use Rattle.std.proofs.Common.{ap, ◌∙◌, le_trans, le_of_eq, lt_of_le_of_lt, le_of_mul-le-mul_right}
use Rattle.std.proofs.Common.{mul-le-mul_right, mul-le-mul_left, mul_right_comm, arith, lit<}
use Rattle.std.specs.Float.{binary64}
use Rattle.std.specs.Float.Ieee.{of_int, unlike}
use Rattle.float.specs.Ops.{◌+ᶠ◌, ◌*ᶠ◌, ◌/ᶠ◌, 2ᶠ}
use Rattle.rounding.specs.Signed.{signed, signed_le, scaled, nat, abs, ◌⊕◌, ◌⊗◌, ◌≈◌}
use Rattle.rounding.specs.Relative.{Near, cancel, Close, close_wider, close_signed}
use Rattle.rounding.specs.Value.{U, U_pos, E, H, sgn, mag, val, digits_whole}
use Rattle.rounding.proofs.Errors.{add_of_finite, mul_law, div_law}
use Rattle.rounding.specs.Bounds.{Sized}
use Rattle.rounding.proofs.Bounds.{add_sized}
use Rattle.rounding.specs.Signs.{zero_num, zero_mag, zero_val}
use Rattle.rounding.specs.Integers.{int}
use Rattle.rounding.specs.Whole.{whole_product}
use Rattle.rounding.proofs.Whole.{of_int_exact}
use Rattle.rounding.specs.Row.{Step, two_num, two_mag, two_plus}
use Rattle.rounding.specs.Steps.{Reach, across, along, half_steps, halves, offset}

-- ---- a whole number of steps
few : (i : ℤ) (h : Float) → Step h → Reach i h → nat_abs i < E
few i h st r = lt_of_le_of_lt (le_of_mul-le-mul_right {k = U} (omega (arith, r, mul-le-mul_left (nat_abs i) st.least)) U_pos) (lit< {m = 549755813888} tt)

record Times (i : ℤ) (h p : Float) : Type 0 where
  sized : Sized p 131072
  close : Close E (131072 * U + H) (val p) (int i ⊗ nat (mag h))

unlike_plus : (s t : Bool) → t ≡ false → unlike s t ≡ s
unlike_plus true t e = ap (unlike true) e
unlike_plus false t e = ap (unlike false) e

times : (i : ℤ) (h : Float) → Step h → Reach i h → Times i h (of_int binary64 i *ᶠ h)
times i h st r =
    let f = of_int binary64 i in
    let p = f *ᶠ h in
    let n = nat_abs i in
    let w = of_int_exact i (few i h st r) in
    let t : mag f * mag h ≤ 131072 * U * U =
    le_trans (le_of_eq (ap (λ (z : ℕ). z * mag h) w.size ∙ mul_right_comm n U (mag h))) (mul-le-mul_right U r) in
    let m = mul_law f h w.num st.sized.num (omega (arith, t)) in
    let c = close_signed E H (mag p) (n * mag h) (sgn p) (whole_product f h p i w m) in
    let sign : sgn p ≡ sgn f = m.sign ∙ unlike_plus (sgn f) (sgn h) st.plus in
    let e : int i ⊗ nat (mag h) ≈ signed (sgn p) (n * mag h) = rw sign (scaled (int i) (sgn f) n (mag h) (omega (arith, w.sign))) in
    record {
      sized = record { num = m.num; size = m.most (131072 * U) (digits_whole 131072 (lit< tt)) t };
      close = record { above = omega (arith, c.above, e, r); below = omega (arith, c.below, e, r) };
    }

-- a sum of two numbers of size a and b
added : (x y : Float) (a b : ℕ) → Sized x a → Sized y b → a + b < E → Close E ((a + b) * U) (val (x +ᶠ y)) (val x ⊕ val y)
added x y a b X Y h =
    let s = add_sized X Y h in
    close_wider E (abs (val x ⊕ val y)) ((a + b) * U) (val (x +ᶠ y)) (val x ⊕ val y)
    (omega (arith, signed_le (sgn x) (mag x), signed_le (sgn y) (mag y), X.size, Y.size)) (add_of_finite x y X.num Y.num s.num.fine).close

-- ---- along: two roundings
pub along_close :
    (a h : Float) (j : ℤ) → Sized a 65536 → Step h → Reach j h → Close E (327680 * U + H) (val (along a j h)) (val a ⊕ int j ⊗ nat (mag h))
along_close a h j A st r =
    let t = times j h st r in
    let s = added a (of_int binary64 j *ᶠ h) 65536 131072 A t.sized (lit< tt) in
    record { above = omega (arith, s.above, t.close.above); below = omega (arith, s.below, t.close.below) }

record Shift (odd : Bool) (s o : Float) : Type 0 where
  sized : Sized o 65536
  close : Close E (65536 * U + 2 * H) (val o ⊕ val o) (nat (halves odd * mag s))

half_near : (o s : ℕ) → Near E 1 (2 * U * H) (o * (2 * U)) (s * U) → Near E 1 (2 * H) (2 * o) s
half_near o s w = cancel E 1 (2 * H) (2 * o) s U U_pos (record { above = omega (arith, w.above); below = omega (arith, w.below) })

shift : (odd : Bool) (s : Float) → Step s → Shift odd s (offset odd s)
shift false s st = record { sized = record { num = zero_num; size = rw zero_mag (omega arith) }; close = rw zero_val (omega arith) }
shift true s st =
    let o = s /ᶠ 2ᶠ in
    let S = st.sized in
    let q = div_law s 2ᶠ S.num two_num (rw two_mag (omega (arith, U_pos))) (rw two_mag (omega (arith, S.size))) in
    let sign : sgn o ≡ false = q.sign ∙ unlike_plus (sgn s) (sgn 2ᶠ) two_plus ∙ st.plus in
    let c = close_signed E (2 * H) (2 * mag o) (mag s) false (half_near (mag o) (mag s) (rw two_mag at q.near)) in
    record {
      sized = record { num = q.num; size = q.most (65536 * U) (digits_whole 65536 (lit< tt)) (rw two_mag (omega (arith, mul-le-mul_right U S.size))) };
      close = rw sign (record { above = omega (arith, c.above, S.size); below = omega (arith, c.below, S.size) });
    }

pub across_close : (a s : Float) (odd : Bool) (i : ℤ) → Sized a 65536 → Step s → Reach i s
    → Close E (1114112 * U + 4 * H) (val (across a (offset odd s) i s) ⊕ val (across a (offset odd s) i s))
    (val a ⊕ val a ⊕ half_steps odd i ⊗ nat (mag s))
across_close a s odd i A st r =
    let o = offset odd s in
    let p = of_int binary64 i *ᶠ s in
    let sh = shift odd s st in
    let t = times i s st r in
    let b = added a o 65536 65536 A sh.sized (lit< tt) in
    let x = added (a +ᶠ o) p 131072 131072 (add_sized A sh.sized (lit< tt)) t.sized (lit< tt) in
    record { above = omega (arith, sh.close.above, t.close.above, b.above, x.above); below = omega (arith, sh.close.below, t.close.below, b.below, x.below) }
