-- The place along an edge where the nearest point is sought, as computed, against the exact foot: off by little.
-- Rests on the rounding laws of products, sums and quotients; an edge's square is exact.
use Rattle.std.specs.Prelude.{◌≡◌, Bool, true, not, ℕ, zero, suc, ◌+◌, ◌*◌, ◌^◌, ◌≤◌, ◌<◌, T, Float}
use Rattle.std.proofs.Math.Path.{refl}
use Rattle.std.proofs.Common.{ap, le_of_lt, mul-le-mul, mul-le-mul_left, mul-le-mul_right, mul-pos, arith, lit<}
use Rattle.std.proofs.Math.Bool.{false}
use Rattle.std.proofs.Math.Dec.{lit≤}
use Rattle.std.specs.Float.Ieee.{of_bits, fits}
use Rattle.std.specs.Float.Ieee.Bits.{is_true}
use Rattle.float.specs.Ops.{◌+ᶠ◌, ◌-ᶠ◌, ◌*ᶠ◌, ◌/ᶠ◌, ◌<ᶠ◌, 0ᶠ, 1ᶠ}
use Rattle.float.specs.Order.{clamp}
use Rattle.float.specs.Laws.Order.{clamp_elim}
use Rattle.rounding.specs.Signed.{Exact, signed, signed_le, same_size, nat, abs, plain, ◌⊕◌, ◌⊖◌, ◌⊗◌, ◌≼◌, ◌≺◌, ◌≈◌}
use Rattle.rounding.specs.Relative.{Close, close_chain, close_wider}
use Rattle.rounding.specs.Value.{U, U_pos, E, H, sgn, mag, val}
use Rattle.rounding.specs.Comparison.{lt→≺, ¬lt→≼, ≺→lt}
use Rattle.rounding.proofs.Errors.{add_of_finite, sub_of_finite, mul_of_finite, div_of_finite}
use Rattle.rounding.specs.Bounds.{Sized, wider}
use Rattle.rounding.proofs.Bounds.{add_sized, sub_sized, mul_sized, div_sized}
use Rattle.rounding.specs.Signs.{Nonneg, zero_num, zero_mag, zero_val, zero_sized, square_plus}
use Rattle.rounding.specs.Exactness.{Multiple, Sum}
use Rattle.rounding.proofs.Exactness.{mul_exact, add_exact}
use Rattle.regions.specs.Clearance.{along}
use Rattle.format.specs.Exact.{Coordinate, coordinate_sized}
use Rattle.claims.specs.Closest.{Foot, first, last, inner}
use Rattle.claims.specs.Closeness.{close_same, product_close, quotient_close, scaled_sign, sum_close, near_enough}
use Rattle.claims.specs.Crossing.{difference}

-- ---- (p - a) * d
part_close :
    (p a d : Float) (n : ℕ) → Sized p n → Sized a 1024 → Sized d 2048 → n + 1024 < E → (n + 1024) * 2048 < E
    → Close E ((n + 1024) * U * (2048 * U) + U * H + (n + 1024) * U * (2048 * U)) (val ((p -ᶠ a) *ᶠ d) ⊗ nat U) ((val p ⊖ val a) ⊗ val d)
part_close p a d n P A D h k =
    let g = p -ᶠ a in
    let G = sub_sized P A h in
    let r = sub_of_finite p a P.num A.num G.num.fine in
    let c =
    close_wider E (abs (val p ⊖ val a)) ((n + 1024) * U) (val g) (val p ⊖ val a)
    (omega (arith, signed_le (sgn p) (mag p), signed_le (sgn a) (mag a), P.size, A.size)) r.close in
    let m = product_close (mul_of_finite g d G.num D.num (mul_sized G D k).num.fine) in
    let m' =
    close_wider E (mag g * mag d + U * H) ((n + 1024) * U * (2048 * U) + U * H) (val (g *ᶠ d) ⊗ nat U) (val g ⊗ val d)
    (more (mag g * mag d) ((n + 1024) * U * (2048 * U)) (U * H) (mul-le-mul G.size D.size)) m in
    close_chain E ((n + 1024) * U * (2048 * U) + U * H) ((n + 1024) * U * (2048 * U)) (val (g *ᶠ d) ⊗ nat U) (val g ⊗ val d) ((val p ⊖ val a) ⊗ val d) m'
    (scaled_sign ((n + 1024) * U) E (val g) (val p ⊖ val a) (sgn d) (mag d) (2048 * U) D.size c)
  where
    more : (a b c : ℕ) → a ≤ b → a + c ≤ b + c
    more a b c h = omega arith

-- ---- an edge's square
power : 2 ^ 1054 * U ≡ 2 ^ 1064 * 2 ^ 1064
unfolding U
power = refl

record Squared (d z : Float) : Type 0 where
  count : ℕ
  few : count ≤ 4398046511104
  multiple : Multiple z 1054 count
  plus : sgn z ≡ false
  is : mag z * U ≡ mag d * mag d

squared : {v : Exact} (d : Float) → Sum d v 1064 2097152 → Squared d (d *ᶠ d)
squared d s =
    let c = s.count in
    let few : c * c ≤ 4398046511104 = mul-le-mul s.few s.few in
    let m = mul_exact 1054 s.multiple s.multiple (omega arith) refl (omega arith) in
    record {
      count = c * c;
      few = few;
      multiple = m;
      plus = square_plus (mul_of_finite d d s.multiple.num s.multiple.num m.num.fine);
      is = same c (2 ^ 1064) (2 ^ 1054) U (mag d) (mag (d *ᶠ d)) power s.multiple.is m.is;
    }
  where
    same : (c s t u m n : ℕ) → t * u ≡ s * s → m ≡ c * s → n ≡ c * c * t → n * u ≡ m * m
    same c s t u m n h e f = rw (e, f) (omega (arith, ap (λ (z : ℕ). c * c * z) h))

-- ---- the quotient, an error of a 1,048,576th at most
unfoldable pub slack : ℕ
slack = 2 ^ 1054

pub slack_is : slack * 1048576 ≡ U
unfolding slack U
slack_is = refl

-- ---- numbers only: errors, h stands for H
sizes : (h d l u : ℕ) → d ≤ 16777216 * u → l ≤ 8388608 * u → d * u + l * h ≤ 16777216 * (u * u) + 8388608 * (u * h)
sizes h d l u p q = omega (arith, mul-le-mul_right u p, mul-le-mul_right h q)

room : (h s u : ℕ) → s * 1048576 ≡ u → 8388610 * h ≤ u → 16777216 * (u * u) + 8388608 * (u * h) + (50331648 * (u * u) + 2 * (u * h)) ≤ s * u * E
room h s u e p = omega (arith, ap (λ (z : ℕ). z * u * 8589934592) e, mul-le-mul_left u p)

-- r times l is D but for e, and L is l * u
module _ (D L r : Exact) (l u e : ℕ) (h : D ≼ r ⊗ nat l ⊕ nat e) (k : r ⊗ nat l ≼ D ⊕ nat e) (L-is : L ≈ nat (l * u)) where
  at_first : r ≺ nat 0 → D ≼ nat e
  at_first n = omega (arith, mul-le-mul_right l (le_of_lt n))

  at_last : nat u ≺ r → L ⊖ D ≼ nat e
  at_last n = omega (arith, mul-le-mul_right l (le_of_lt n))

  at_inner : (t : ℕ) → r ≈ nat t → Foot D L u t e
  at_inner t q =
      let m = ap (λ (z : ℕ). z * l * u) q in
      let i = ap (λ (z : ℕ). t * z) L-is in
      inner (omega (arith, mul-le-mul_left u h, m, i)) (omega (arith, mul-le-mul_left u k, m, i))

module _
    (px py ax ay bx by : Float) (PX : Sized px 5120) (PY : Sized py 1024) (cax : Coordinate ax) (cay : Coordinate ay) (cbx : Coordinate bx)
    (cby : Coordinate by) (w0 : 0 < mag (by -ᶠ ay)) where
  abbrev pub dx : Float
  dx = bx -ᶠ ax

  abbrev pub dy : Float
  dy = by -ᶠ ay

  abbrev pub len2 : Float
  len2 = dx *ᶠ dx +ᶠ dy *ᶠ dy

  abbrev pub dot : Float
  dot = (px -ᶠ ax) *ᶠ dx +ᶠ (py -ᶠ ay) *ᶠ dy

  -- exact
  abbrev pub dot_of : Exact
  dot_of = (val px ⊖ val ax) ⊗ val dx ⊕ (val py ⊖ val ay) ⊗ val dy

  abbrev pub square_of : Exact
  square_of = val dx ⊗ val dx ⊕ val dy ⊗ val dy

  pub dx_sized : Sized dx 2048
  dx_sized = sub_sized (coordinate_sized cbx) (coordinate_sized cax) (lit< tt)

  pub dy_sized : Sized dy 2048
  dy_sized = sub_sized (coordinate_sized cby) (coordinate_sized cay) (lit< tt)

  left_sized : Sized ((px -ᶠ ax) *ᶠ dx) 12582912
  left_sized = mul_sized (sub_sized PX (coordinate_sized cax) (lit< tt)) dx_sized (lit< tt)

  right_sized : Sized ((py -ᶠ ay) *ᶠ dy) 4194304
  right_sized = mul_sized (sub_sized PY (coordinate_sized cay) (lit< tt)) dy_sized (lit< tt)

  dot_sized : Sized dot 16777216
  dot_sized = add_sized left_sized right_sized (lit< tt)

  dot_close : Close E (50331648 * (U * U) + 2 * (U * H)) (val dot ⊗ nat U) dot_of
  dot_close =
      let m = (px -ᶠ ax) *ᶠ dx in
      let n = (py -ᶠ ay) *ᶠ dy in
      let s = add_of_finite m n left_sized.num right_sized.num dot_sized.num.fine in
      let c =
      close_wider E (abs (val m ⊕ val n)) (16777216 * U) (val dot) (val m ⊕ val n)
      (omega (arith, signed_le (sgn m) (mag m), signed_le (sgn n) (mag n), left_sized.size, right_sized.size)) s.close in
      let c' =
      close_same (16777216 * U * U) (val dot ⊗ nat U) ((val m ⊕ val n) ⊗ nat U) (val dot ⊗ nat U) (val m ⊗ nat U ⊕ val n ⊗ nat U) (omega arith)
      (omega arith) (scaled_sign (16777216 * U) E (val dot) (val m ⊕ val n) false U U (omega arith) c) in
      let a = part_close px ax dx 5120 PX (coordinate_sized cax) dx_sized (lit< tt) (lit< tt) in
      let b = part_close py ay dy 1024 PY (coordinate_sized cay) dy_sized (lit< tt) (lit< tt) in
      close_wider E _ (50331648 * (U * U) + 2 * (U * H)) (val dot ⊗ nat U) dot_of (omega arith)
      (close_chain E _ _ (val dot ⊗ nat U) (val m ⊗ nat U ⊕ val n ⊗ nat U) dot_of c'
      (sum_close E _ _ (val m ⊗ nat U) ((val px ⊖ val ax) ⊗ val dx) (val n ⊗ nat U) ((val py ⊖ val ay) ⊗ val dy) a b))

  -- the edge's square
  record Length² : Type 0 where
    sized : Sized len2 8388608
    plus : sgn len2 ≡ false
    least : U ≤ mag len2 * 1048576
    is : square_of ≈ nat (mag len2 * U)

  length² : Length²
  length² =
      let x = squared dx (difference cbx cax) in
      let y = squared dy (difference cby cay) in
      let s = add_exact x.multiple y.multiple (omega (arith, x.few, y.few)) (omega arith) in
      let S : Sized len2 8388608 = add_sized (mul_sized dx_sized dx_sized (lit< tt)) (mul_sized dy_sized dy_sized (lit< tt)) (lit< tt) in
      let v : val len2 ≈ nat (mag (dx *ᶠ dx) + mag (dy *ᶠ dy)) =
      together (val len2) (sgn (dx *ᶠ dx)) (sgn (dy *ᶠ dy)) (mag (dx *ᶠ dx)) (mag (dy *ᶠ dy)) x.plus y.plus s.value in
      let y0 : slack ≤ mag (dy *ᶠ dy) =
      unfold slack in (rw y.multiple.is (one_of y.count (2 ^ 1054) (counted y.count (mag (dy *ᶠ dy)) (mag dy) (2 ^ 1054) y.multiple.is y.is w0))) in
      let p : sgn len2 ≡ false = positive_sign (sgn len2) (mag len2) (mag (dx *ᶠ dx) + mag (dy *ᶠ dy)) v (omega (arith, y0, slack_is, U_pos)) in
      let e : mag len2 ≡ mag (dx *ᶠ dx) + mag (dy *ᶠ dy) = same_size (sgn len2) false (mag len2) (mag (dx *ᶠ dx) + mag (dy *ᶠ dy)) v in
      record {
        sized = S;
        plus = p;
        least = omega (arith, e, y0, slack_is);
        is =
            whole (val dx ⊗ val dx) (val dy ⊗ val dy) (mag dx * mag dx) (mag dy * mag dy) (mag (dx *ᶠ dx)) (mag (dy *ᶠ dy)) (mag len2) U
            (own_square (sgn dx) (mag dx)) (own_square (sgn dy) (mag dy)) x.is y.is e;
      }
    where
      together : (v : Exact) (s t : Bool) (m n : ℕ) → s ≡ false → t ≡ false → v ≈ signed s m ⊕ signed t n → v ≈ nat (m + n)
      together v s t m n p q h = omega (arith, rw (p, q) at h)

      one_of : (c g : ℕ) → 0 < c → g ≤ c * g
      one_of zero g h = absurd (omega arith)
      one_of (suc c) g h = omega arith

      counted : (c z d g : ℕ) → z ≡ c * g → z * U ≡ d * d → 0 < d → 0 < c
      counted (suc c) z d g e f h = omega arith
      counted zero z d g e f h = let n : z ≡ 0 = omega arith in absurd (omega (arith, mul-pos h h, rw n at f))

      positive_sign : (s : Bool) (m n : ℕ) → signed s m ≈ nat n → 0 < n → s ≡ false
      positive_sign false m n e h = refl
      positive_sign true m n e h = absurd (omega arith)

      own_square : (s : Bool) (m : ℕ) → signed s m ⊗ signed s m ≈ nat (m * m)
      own_square true m = omega arith
      own_square false m = omega arith

      whole : (X Y : Exact) (a b x y l u : ℕ) → X ≈ nat a → Y ≈ nat b → x * u ≡ a → y * u ≡ b → l ≡ x + y → X ⊕ Y ≈ nat (l * u)
      whole X Y a b x y l u p q e f h = rw h (omega arith)

  abbrev ratio : Float
  ratio = dot /ᶠ len2

  ratio_sized : Sized ratio 17592186044416
  ratio_sized = div_sized dot_sized length².sized 1048576 length².least (lit< tt)

  len2_above : 0 < mag len2
  len2_above = above (mag len2) length².least
    where
      above : (m : ℕ) → U ≤ m * 1048576 → 0 < m
      above zero h = absurd (omega (arith, U_pos))
      above (suc m) h = omega arith

  off : (dot_of ≼ val ratio ⊗ nat (mag len2) ⊕ nat (slack * U)) × (val ratio ⊗ nat (mag len2) ≼ dot_of ⊕ nat (slack * U))
  off =
      let q = div_of_finite dot len2 dot_sized.num length².sized.num len2_above ratio_sized.num.fine in
      let c = close_wider E (mag dot * U + mag len2 * H) (16777216 * (U * U) + 8388608 * (U * H)) (val ratio ⊗ nat (mag len2)) (val dot ⊗ nat U)
      (sizes H (mag dot) (mag len2) U dot_sized.size length².sized.size) (rw length².plus at (quotient_close q)) in
      let n = near_enough E _ (slack * U) (val ratio ⊗ nat (mag len2)) dot_of (lit< tt) (room H slack U slack_is (unfold U in lit≤ tt))
      (close_chain E (16777216 * (U * U) + 8388608 * (U * H)) (50331648 * (U * U) + 2 * (U * H)) (val ratio ⊗ nat (mag len2))
      (val dot ⊗ nat U) dot_of c dot_close) in
      (n.1, n.0)

  -- ---- the place along the edge
  pub record Projection (t : Float) : Type 0 where
    pub sized : Sized t 1
    pub nonneg : Nonneg t
    pub foot : Foot dot_of square_of U (mag t) (slack * U)

  one_sized : Sized 1ᶠ 1
  one_sized = record { num = unfold of_bits fits in record { fit = tt; fine = tt }; size = unfold of_bits mag U in lit≤ tt }

  one_val : val 1ᶠ ≡ nat (1 * U)
  unfolding of_bits sgn mag U
  one_val = refl

  pub projection : Projection (along dot len2)
  unfolding along
  projection = rw (is_true (0ᶠ <ᶠ len2) (≺→lt 0ᶠ len2 zero_num length².sized.num (rw zero_val (bare (sgn len2) (mag len2) length².plus len2_above)))) clamped
    where
      bare : (s : Bool) (m : ℕ) → s ≡ false → 0 < m → nat 0 ≺ signed s m
      bare s m p h = rw p (omega arith)

      clamped : Projection (clamp ratio 0ᶠ 1ᶠ)
      clamped =
          clamp_elim ratio 0ᶠ 1ᶠ Projection
          (λ h. record {
            sized = wider (omega arith) zero_sized;
            nonneg = rw zero_val (omega arith);
            foot =
                first zero_mag (at_first dot_of square_of (val ratio) (mag len2) U (slack * U) off.0 off.1 length².is
                (rw zero_val at (lt→≺ ratio 0ᶠ ratio_sized.num zero_num h)));
          })
          (λ h. record {
            sized = one_sized;
            nonneg = rw one_val (omega arith);
            foot = last (one_mag) (at_last dot_of square_of (val ratio) (mag len2) U (slack * U) off.0 off.1 length².is (above_one h));
          })
          (λ h k. record {
            sized = inside h k;
            nonneg = not_below h;
            foot =
                at_inner dot_of square_of (val ratio) (mag len2) U (slack * U) off.0 off.1 length².is
                (mag ratio) (plain (sgn ratio) (mag ratio) (not_below h));
          })
        where
          one_mag : mag 1ᶠ ≡ U
          one_mag = unfold of_bits mag U in refl

          above_one : T (1ᶠ <ᶠ ratio) → nat U ≺ val ratio
          above_one h = omega (arith, rw one_val at (lt→≺ 1ᶠ ratio one_sized.num ratio_sized.num h))

          not_below : T (not (ratio <ᶠ 0ᶠ)) → Nonneg ratio
          not_below h = rw zero_val at (¬lt→≼ ratio 0ᶠ ratio_sized.num zero_num h)

          inside : T (not (ratio <ᶠ 0ᶠ)) → T (not (1ᶠ <ᶠ ratio)) → Sized ratio 1
          inside h k =
              record {
                num = ratio_sized.num;
                size = omega (arith, rw one_val at (¬lt→≼ 1ᶠ ratio one_sized.num ratio_sized.num k), plain (sgn ratio) (mag ratio) (not_below h));
              }
