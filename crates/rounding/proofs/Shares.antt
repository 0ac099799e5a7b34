-- A share n * max(w / total, 0), each operation rounded and the total too, against the exact share n * w / sum: 2 ^ -25 away at most.
-- Rests on `Errors` and `Relative`: a sum of up to 16 numbers is off by 32 / 2 ^ 53 at most, and n is 2,000 at most.
use Rattle.std.specs.Prelude.{◌≡◌, true, false, ℕ, suc, ◌+◌, ◌*◌, ◌≤◌, ◌<◌, pos, T, length, Float}
use Rattle.std.proofs.Common.{sym, subst, le_of_mul-le-mul_right, mul-le-mul, mul-le-mul_right, mul-le-mul_left, mul-pos, add_assoc, arith, lit<}
use mathlib.Core.List.{List, [], ◌∷◌, foldl}
use Rattle.std.proofs.Math.Dec.{lit≤}
use Rattle.std.specs.Float.{nan, inf, fin}
use Rattle.std.specs.Float.Ieee.{add, neg, of_bits}
use Rattle.std.specs.Float.Ieee.Scale.{finite}
use Rattle.float.specs.Ops.{◌+ᶠ◌, ◌*ᶠ◌, ◌/ᶠ◌, -0ᶠ}
use Rattle.float.specs.Whole.{as_f64}
use Rattle.rounding.specs.Signed.{plain, nat, ◌⊕◌, ◌≈◌}
use Rattle.rounding.specs.Relative.{Under, Near, twice, wider, chain}
use Rattle.rounding.specs.Value.{U, U_pos, E, H, sgn, mag, val, Num}
use Rattle.rounding.proofs.Errors.{add_of_finite, mul_law, div_law}
use Rattle.rounding.specs.Bounds.{Sized, wider as widen}
use Rattle.rounding.proofs.Bounds.{add_sized}
use Rattle.rounding.specs.Signs.{Nonneg, rounding_nonneg, product_nonneg, quotient_nonneg}
use Rattle.rounding.specs.Selection.{max_zero_same}
use Rattle.rounding.specs.Whole.{whole_product}
use Rattle.rounding.proofs.Whole.{of_int_exact}
use Rattle.rounding.specs.Distance.{tiny_is, tiny_big}
use Rattle.rounding.specs.Shares.{All, Share, Summed, Weight, Weights, bit25, high, low, minus_zero, more, none, share_of, sum}

add_parts : (x y : Float) → T (finite (x +ᶠ y)) → T (finite x)
unfolding add
add_parts nan y h = h
add_parts (inf s) nan h = h
add_parts (inf true) (inf true) h = h
add_parts (inf true) (inf false) h = h
add_parts (inf false) (inf true) h = h
add_parts (inf false) (inf false) h = h
add_parts (inf s) (fin t n d) h = h
add_parts (fin s m e) y h = tt

-- a total is finite only if every part of it is
fold_parts : (acc : Float) (ws : List Float) → T (finite (foldl ◌+ᶠ◌ acc ws)) → T (finite acc)
fold_parts acc [] h = h
fold_parts acc (w ∷ ws) h = add_parts acc w (fold_parts (acc +ᶠ w) ws h)

record Total (z : Float) (k A : ℕ) : Type 0 where
  num : Num z
  nonneg : Nonneg z
  near : Near E k 0 (mag z) A

-- one more weight
join : (acc w : Float) (k A : ℕ) → k ≤ E → Total acc k A → Weight w → T (finite (acc +ᶠ w)) → Total (acc +ᶠ w) (1 + k + 1) (A + mag w)
join acc w k A h t p f =
    let r = add_of_finite acc w t.num p.num f in
    let a = plain (sgn acc) (mag acc) t.nonneg in
    let b = plain (sgn w) (mag w) p.nonneg in
    let e : (val acc ⊕ val w) ≈ nat (mag acc + mag w) = omega (arith, a, b) in
    let n : Near E 1 0 (mag (acc +ᶠ w)) (mag acc + mag w) = subst (λ (v : ℕ). Near E 1 0 (mag (acc +ᶠ w)) v) (omega (arith, e)) r.near in
    record {
      num = r.num;
      nonneg = rounding_nonneg r (omega (arith, e));
      near = record {
        above = chain E (lit< tt) 1 k 0 0 (mag (acc +ᶠ w)) (mag acc + mag w) (A + mag w) (lit≤ tt) (omega (arith, h)) n.above (omega (arith, t.near.above));
        below =
            wider E (lit< tt) (k + 1 + 1) (1 + k + 1) 0 0 (A + mag w) (mag (acc +ᶠ w)) (omega arith) (lit≤ tt)
            (chain E (lit< tt) k 1 0 0 (A + mag w) (mag acc + mag w) (mag (acc +ᶠ w)) h (omega (arith, h)) (omega (arith, t.near.below)) n.below);
      };
    }

fold_total :
    (acc : Float) (ws : List Float) (k A : ℕ) → k + 2 * length ws ≤ E → Total acc k A → Weights ws → T (finite (foldl ◌+ᶠ◌ acc ws))
    → Total (foldl ◌+ᶠ◌ acc ws) (k + 2 * length ws) (A + sum ws)
unfolding sum
fold_total acc [] k A h t none f =
    record { num = t.num; nonneg = t.nonneg; near = record { above = omega (arith, t.near.above); below = omega (arith, t.near.below) } }
fold_total acc (w ∷ ws) k A h t (more p ps) f =
    let z = foldl ◌+ᶠ◌ (acc +ᶠ w) ws in
    let r = fold_total (acc +ᶠ w) ws (1 + k + 1) (A + mag w) (omega (arith, h)) (join acc w k A (omega (arith, h)) t p (fold_parts (acc +ᶠ w) ws f)) ps f in
    let c : 1 + k + 1 + 2 * length ws ≡ k + 2 * suc (length ws) = omega arith in
    subst (λ (v : ℕ). Total z (k + 2 * suc (length ws)) v) (add_assoc A (mag w) (sum ws)) (subst (λ (v : ℕ). Total z v (A + mag w + sum ws)) c r)

start : Total -0ᶠ 0 0
unfolding of_bits neg mag U
start = record { num = minus_zero.num; nonneg = minus_zero.nonneg; near = record { above = lit≤ tt; below = lit≤ tt } }

pub summed : (ws : List Float) → length ws ≤ 16 → Weights ws → T (finite (foldl ◌+ᶠ◌ -0ᶠ ws)) → Summed (foldl ◌+ᶠ◌ -0ᶠ ws) (sum ws)
summed ws h ps f =
    let z = foldl ◌+ᶠ◌ -0ᶠ ws in
    let t = fold_total -0ᶠ ws 0 0 (omega (arith, h)) start ps f in
    record {
      num = t.num;
      nonneg = t.nonneg;
      near = record {
        above = omega (arith, wider E (lit< tt) (0 + 2 * length ws) 32 0 0 (mag z) (0 + sum ws) (omega (arith, h)) (lit≤ tt) t.near.above);
        below = omega (arith, wider E (lit< tt) (0 + 2 * length ws) 32 0 0 (0 + sum ws) (mag z) (omega (arith, h)) (lit≤ tt) t.near.below);
      };
    }

fold_sized :
    (acc : Float) (a k : ℕ) (ws : List Float) → Sized acc a → All k ws → a + length ws * k < E → Sized (foldl ◌+ᶠ◌ acc ws) (a + length ws * k)
fold_sized acc a k [] s none h = widen (omega arith) s
fold_sized acc a k (w ∷ ws) s (more p ps) h =
    widen (omega arith) (fold_sized (acc +ᶠ w) (a + k) k ws (add_sized s p (omega (arith, h))) ps (omega (arith, h)))

pub total_sized : (k : ℕ) (ws : List Float) → All k ws → length ws * k < E → Sized (foldl ◌+ᶠ◌ -0ᶠ ws) (length ws * k)
total_sized k ws ps h =
    widen (omega arith) (fold_sized -0ᶠ 0 k ws (record { num = minus_zero.num; size = unfold of_bits neg mag U in lit≤ tt }) ps (omega (arith, h)))

-- d is 5 at most
ratio_le : (h d T w u : ℕ) → 0 < h → 0 < T → 0 < u → w ≤ T * 2 → Under (h * 2) 1 (T * h) (d * T) (w * u) → d ≤ 5 * u
ratio_le h d T w u h0 T0 u0 l p =
    le_of_mul-le-mul_right {k = T * (h * 2)}
    (omega (arith, p, mul-le-mul_right (u * (h * 2 + 1)) l, mul-le-mul_left (T * h) u0, mul-le-mul_left (T * u) h0))
    (mul-pos T0 (mul-pos h0 (lit< {n = 2} tt)))

pub share_law :
    (n : ℕ) (total w : Float) (W : ℕ) → n ≤ 2000 → Weight w → mag w ≤ W → Summed total W → 0 < mag total
    → Share (share_of n total w) n (mag w) W
share_law n total w W n0 p l t T0 =
    let d = w /ᶠ total in
    let W2 : W ≤ mag total * 2 + 0 = twice E (lit< tt) 32 0 W (mag total) (lit≤ tt) t.near.below in
    let T2 : mag total ≤ W * 2 + 0 = twice E (lit< tt) 32 0 (mag total) W (lit≤ tt) t.near.above in
    let q = div_law w total p.num t.num T0 (omega (arith, l, W2)) in
    let o = quotient_nonneg w total d q T0 p.nonneg t.nonneg in
    let f = as_f64 n in
    let i = of_int_exact (pos n) (omega (arith, n0)) in
    let small = ratio_le H (mag d) (mag total) (mag w) U (lit< tt) T0 U_pos (omega (arith, l, W2)) q.near.above in
    let m = mul_law f d i.num q.num (rw i.size (omega (arith, mul-le-mul (mul-le-mul_right U n0) small))) in
    let z = f *ᶠ d in
    let c : Near E 1 H (mag z) (n * mag d) = whole_product f d z (pos n) i m in
    let room : 72000 * U + 36 * bit25 + 32008 * H ≤ bit25 * (H * 2) = omega (arith, tiny_is, tiny_big) in
    subst (λ (y : Float). Share (f *ᶠ y) n (mag w) W) (sym (max_zero_same d q.num o))
    (record {
      num = m.num;
      nonneg = product_nonneg f d z m (omega (arith, i.is)) o;
      low = low H (mag z) n (mag d) (mag total) (mag w) U W (lit< tt) (lit≤ tt) q.near c t.near bit25 n0 l (omega (arith, T2)) room;
      high = high H (mag z) n (mag d) (mag total) (mag w) U W (lit< tt) (lit≤ tt) q.near c t.near bit25 n0 l (omega (arith, T2)) room;
    })
