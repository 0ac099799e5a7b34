-- 21 halvings never cut a search short: a cell that leaves after 21 halvings is not deep enough to be split, for every precision of at least 1/1024.
-- Rests on the rounding laws: the bound of such a cell is less than 1/1024 above the best.
use Rattle.std.specs.Prelude.{◌≡◌, ℕ, zero, suc, ◌+◌, ◌-◌, ◌*◌, ◌^◌, ◌<◌, ◌≤◌, Bool, true, false, cond, T, refl, Float}
use Rattle.std.proofs.Common.{arith, le_trans, one-mul, zero-add, suc-add, pow-suc, mul-le-mul, mul-le-mul_right, le_of_mul-le-mul_right, lit<, lit≤}
use Rattle.std.specs.Float.Ieee.{of_bits, fits}
use Rattle.laws.specs.Truth.{no}
use Rattle.float.specs.Ops.{◌+ᶠ◌, ◌-ᶠ◌, ◌*ᶠ◌, ◌/ᶠ◌, ◌<ᶠ◌, ◌≤ᶠ◌, literal, 2ᶠ}
use Rattle.float.specs.Laws.Compare.{le_self, not_lt_le}
use Rattle.rounding.specs.Signed.{Exact, signed_le, nat, abs, ◌⊕◌, ◌≼◌}
use Rattle.rounding.specs.Value.{U, U_pos, E, sgn, mag, val, Num, Digits, digits_at, digits_whole}
use Rattle.rounding.specs.Bounds.{Sized}
use Rattle.rounding.proofs.Bounds.{add_sized, sub_sized, mul_sized}
use Rattle.rounding.proofs.Errors.{div_law, mul_law, add_law, sub_law}
use Rattle.rounding.specs.Comparison.{le→≼, ≼→le}
use Rattle.regions.specs.Sizes.{sized_number}
use Rattle.deepest.specs.Deepest.{better_of}
use Rattle.deepest.specs.declared.search.Best.{Best}
use Rattle.deepest.specs.Order.{√2ᶠ, halves_from, half_at, bound_of}
use Rattle.deepest.specs.declared.queue.Cell.{Cell}

pub two_num : Num 2ᶠ
unfolding of_bits fits
two_num = record { fit = tt; fine = tt }

pub two_mag : mag 2ᶠ ≡ 2 * U
unfolding of_bits mag U
two_mag = refl

-- ---- half widths
-- A stands for 2 ^ 1062 units, which is 2 ^ -12
A : ℕ
A = 2 ^ 1062

unit : U ≡ 4096 * A
unfolding U A
unit = refl

pub record Narrow (x : Float) (j : ℕ) : Type 0 where
  pub sized : Sized x 1024
  pub most : mag x ≤ 2 ^ j

halve : (x : Float) (j : ℕ) → Narrow x (suc j) → Narrow (x /ᶠ 2ᶠ) j
halve x j n =
    let u = U_pos in
    let z : 0 < mag 2ᶠ = rw two_mag (omega arith) in
    let f : mag x ≤ mag 2ᶠ * 18446744073709551616 = rw two_mag (omega (arith, n.sized.size)) in
    let q = div_law x 2ᶠ n.sized.num two_num z f in
    record {
      sized = record { num = q.num; size = q.most (1024 * U) (digits_whole 1024 (lit< tt)) (rw two_mag (omega (arith, mul-le-mul_right U n.sized.size))) };
      most = q.most (2 ^ j) (rw one-mul at (digits_at 1 j (lit< tt))) (rw two_mag (omega (arith, mul-le-mul_right U (rw pow-suc at n.most))));
    }

-- the k-th half width of a table
table : (k n : ℕ) (h : Float) (j : ℕ) → k < n → Narrow h (k + j) → Narrow (half_at (halves_from h n) k) j
unfolding halves_from
table zero zero h j l w = absurd (omega arith)
table zero (suc n) h j l w = rw zero-add at w
table (suc k) zero h j l w = absurd (omega arith)
table (suc k) (suc n) h j l w = table k n (h /ᶠ 2ᶠ) j (omega arith) (halve h (k + j) (rw suc-add at w))

wide : 1024 * U ≤ 2 ^ (21 + 1063)
unfolding U
wide = lit≤ tt

double : 2 ^ 1063 ≡ A * 2
unfolding A
double = refl

digits_a : Digits (3 * A)
unfolding A
digits_a = digits_at 3 1062 (lit< tt)

digits_4_a : Digits (4 * A)
unfolding A
digits_4_a = digits_at 4 1062 (lit< tt)

-- after 21 halvings of 1,024 at most, 2 ^ -11 at most
last_half : (h : Float) → Sized h 1024 → Narrow (half_at (halves_from h 22) 21) 1063
last_half h s = table 21 22 h 1063 (lit< tt) (record { sized = s; most = le_trans s.size wide })

-- ---- the rise of the bound
root_two : Sized √2ᶠ 2
unfolding of_bits fits mag U
root_two = record { num = record { fit = tt; fine = tt }; size = lit≤ tt }

root_two_mag : mag √2ᶠ * 2 ≤ 3 * U
unfolding of_bits mag U
root_two_mag = lit≤ tt

record Rise (t : Float) : Type 0 where
  sized : Sized t 2048
  most : mag t ≤ 3 * A

rise : (h : Float) → Narrow h 1063 → Rise (h *ᶠ √2ᶠ)
rise h n =
    let a : mag h ≤ A * 2 = rw double at n.most in
    let p = mul_law h √2ᶠ n.sized.num root_two.num (omega (arith, mul-le-mul n.sized.size root_two.size)) in
    record { sized = mul_sized n.sized root_two (lit< tt); most = p.most (3 * A) digits_a (omega (arith, mul-le-mul a root_two_mag)) }

-- ---- the bound of a cell is less than 1/1024 above the best, where the best is at least the cell's clearance
abbrev pub 1/1024ᶠ : Float
1/1024ᶠ = literal 0x3f50_0000_0000_0000

least_num : Num 1/1024ᶠ
unfolding of_bits fits
least_num = record { fit = tt; fine = tt }

least_val : val 1/1024ᶠ ≡ nat (4 * A)
unfolding of_bits sgn mag U A
least_val = refl

after : (a b c : Exact) → a ≼ b → b ≼ c → a ≼ c
after a b c h k = omega arith

-- a sum that rounding moves by a / e at most, less what it began above
moved :
    (e rp rn dp dn tp tn bp bn A a : ℕ) → 0 < e → a ≤ A * e → rp * e + (dn + tn) * e ≤ (dp + tp) * e + rn * e + a
    → dp + bn ≤ bp + dn → tp ≤ 3 * A
    → rp + bn + 0 ≤ 4 * A + (rn + bp)
moved e rp rn dp dn tp tn bp bn A a z h c l t = le_of_mul-le-mul_right {k = e} (omega (arith, mul-le-mul_right e l, mul-le-mul_right e t)) z

small : (p n m t a u : ℕ) → u ≡ 4096 * a → p ≤ m + t → n ≤ m + t → m ≤ 26067 * u → t ≤ 3 * a → p - n + (n - p) ≤ a * 9007199254740992
small p n m t a u e x y h k = omega arith

close_enough :
    (d b t p : Float) → Sized d 26067 → Sized b 26067 → Rise t → Num p → T (d ≤ᶠ b) → T (1/1024ᶠ ≤ᶠ p) → T (d +ᶠ t -ᶠ b ≤ᶠ p)
close_enough d b t p hd hb ht hp l m =
    let u = unit in
    let r : Sized (d +ᶠ t) 28115 = add_sized hd ht.sized (lit< tt) in
    let s = add_law d t hd.num ht.sized.num (omega (arith, hd.size, ht.sized.size)) in
    let q = sub_law (d +ᶠ t) b r.num hb.num (omega (arith, r.size, hb.size)) in
    let z : Sized (d +ᶠ t -ᶠ b) 54182 = sub_sized r hb (lit< tt) in
    let least : nat (4 * A) ≼ val p = rw least_val at (le→≼ 1/1024ᶠ p least_num hp m) in
    let above = le→≼ d b hd.num hb.num l in
    let x = signed_le (sgn d) (mag d) in
    let y = signed_le (sgn t) (mag t) in
    let error : abs (val d ⊕ val t) ≤ A * E =
    small ((val d).p + (val t).p) ((val d).n + (val t).n) (mag d) (mag t) A U u (omega (arith, x, y)) (omega (arith, x, y)) hd.size ht.most in
    let below : val (d +ᶠ t -ᶠ b) ≼ nat (4 * A) =
    q.most false (4 * A) digits_4_a
    (moved E (val (d +ᶠ t)).p (val (d +ᶠ t)).n (val d).p (val d).n (val t).p (val t).n (val b).p (val b).n A (abs (val d ⊕ val t)) (lit< tt)
    error
    s.close.above
    above
    (le_trans y.0 ht.most)) in
    ≼→le (d +ᶠ t -ᶠ b) p z.num hp (after (val (d +ᶠ t -ᶠ b)) (nat (4 * A)) (val p) below least)

-- ---- the law of a cell: after 21 halvings it is not split
pub not_split :
    (h0 precision : Float) (c : Cell) (best : Best) → Sized h0 1024 → Num precision → T (1/1024ᶠ ≤ᶠ precision) → c.halvings ≡ 21
    → Sized c.d 26067 → Sized best.d 26067
    → T (bound_of (halves_from h0 22) c -ᶠ (better_of best c).d ≤ᶠ precision)
unfolding bound_of better_of
not_split h0 precision c best hh hp m e hc hb = go (best.d <ᶠ c.d) refl
  where
    risen : Rise (half_at (halves_from h0 22) c.halvings *ᶠ √2ᶠ)
    risen = rw e (rise _ (last_half h0 hh))

    go :
        (s : Bool) → best.d <ᶠ c.d ≡ s
        → T (c.d +ᶠ half_at (halves_from h0 22) c.halvings *ᶠ √2ᶠ -ᶠ (cond s (record { x = c.x; y = c.y; d = c.d }) best).d ≤ᶠ precision)
    go true f = close_enough c.d c.d _ precision hc hc risen hp (le_self c.d (sized_number hc)) m
    go false f = close_enough c.d best.d _ precision hc hb risen hp (not_lt_le c.d best.d (sized_number hc) (sized_number hb) (no f)) m
