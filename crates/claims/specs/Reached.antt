-- The computed distance from a place to an edge is 1,031 at most where the edge crosses the place's height within 1,025 of it.
-- Rests on the exact comparison with the crossing, and on the rounding laws.
use Rattle.std.specs.Prelude.{◌≡◌, Bool, true, ℕ, suc, ◌+◌, ◌*◌, ◌≤◌, ◌<◌, Float}
use Rattle.std.proofs.Math.Path.{ap}
use Rattle.std.proofs.Math.Bool.{false}
use Rattle.std.proofs.Common.{le_trans, le_of_eq, le_of_suc-le-suc, lt_of_not-le, mul-le-mul_left, mul-le-mul_right, mul-pos, arith, lit<}
use Rattle.std.proofs.Math.Nat.{le_of_mul-le-mul_right, mul-le-mul}
use Rattle.std.proofs.Math.Dec.{lit≤}
use Rattle.float.specs.Ops.{◌+ᶠ◌, ◌-ᶠ◌, ◌*ᶠ◌}
use Rattle.rounding.specs.Signed.{Exact, signed, signed_le, nat, abs, plain, ◌⊕◌, ◌⊖◌, ◌⊗◌, ◌≼◌, ◌≈◌}
use Rattle.rounding.specs.Relative.{Close, close_wider}
use Rattle.rounding.specs.Value.{U, U_pos, E, H, sgn, mag, val, digits_zero, digits_whole}
use Rattle.rounding.proofs.Errors.{add_of_finite, sub_of_finite, mul_of_finite}
use Rattle.rounding.specs.Bounds.{Sized}
use Rattle.rounding.proofs.Bounds.{add_sized, sub_sized, mul_sized}
use Rattle.rounding.specs.Signs.{Nonneg, square_plus}
use Rattle.regions.specs.Clearance.{along, edge_square}
use Rattle.format.specs.Exact.{Coordinate, coordinate_sized}
use Rattle.claims.specs.Closest.{Across, across_from, along_from, reached}
use Rattle.claims.specs.Closeness.{close_same, product_close, scaled_sign, near_enough}
use Rattle.claims.specs.Projected.{slack, slack_is, dx_sized, dy_sized, projection}

-- ---- numbers only: p - (a + t * d), each operation rounded, times u
linked : (f i j k : ℕ) (e p s a m td : Exact) → Close f k e (p ⊖ s) → Close f j s (a ⊕ m) → Close f i m td → Close f (i + j + k) e (p ⊖ (a ⊕ td))
linked f i j k e p s a m td x y z = record { above = omega (arith, x.above, y.below, z.below); below = omega (arith, x.below, y.above, z.above) }

chained :
    (i j k u T : ℕ) (e p s a m td d : Exact) → Close E k (e ⊗ nat u) ((p ⊖ s) ⊗ nat u) → Close E j (s ⊗ nat u) ((a ⊕ m) ⊗ nat u) → Close E i (m ⊗ nat u) td
    → td ≈ nat T ⊗ d
    → Close E (i + j + k) (e ⊗ nat u) (nat u ⊗ (p ⊖ a) ⊖ nat T ⊗ d)
chained i j k u T e p s a m td d x y z q =
    close_same (i + j + k) (e ⊗ nat u) (p ⊗ nat u ⊖ (a ⊗ nat u ⊕ td)) (e ⊗ nat u) (nat u ⊗ (p ⊖ a) ⊖ nat T ⊗ d) (omega arith) (gathered p a td (nat T ⊗ d) q)
    (linked E i j k (e ⊗ nat u) (p ⊗ nat u) (s ⊗ nat u) (a ⊗ nat u) (m ⊗ nat u) td
    (close_same k (e ⊗ nat u) ((p ⊖ s) ⊗ nat u) (e ⊗ nat u) (p ⊗ nat u ⊖ s ⊗ nat u) (omega arith) (less p s) x)
    (close_same j (s ⊗ nat u) ((a ⊕ m) ⊗ nat u) (s ⊗ nat u) (a ⊗ nat u ⊕ m ⊗ nat u) (omega arith) (more a m) y) z)
  where
    less : (p s : Exact) → (p ⊖ s) ⊗ nat u ≈ p ⊗ nat u ⊖ s ⊗ nat u
    less p s = omega arith

    more : (p s : Exact) → (p ⊕ s) ⊗ nat u ≈ p ⊗ nat u ⊕ s ⊗ nat u
    more p s = omega arith

    gathered : (p a y z : Exact) → y ≈ z → p ⊗ nat u ⊖ (a ⊗ nat u ⊕ y) ≈ nat u ⊗ (p ⊖ a) ⊖ z
    gathered p a y z h = omega arith

step_room : (h s u n : ℕ) → s * 1048576 ≡ u → h ≤ u → n ≤ 5120 → u * (2048 * u) + u * h + 3072 * u * u + (n + 3072) * u * u ≤ s * u * E
step_room h s u n e p q = omega (arith, ap (λ (z : ℕ). z * u * 8589934592) e, mul-le-mul_left u p, mul-le-mul_right (u * u) q)

size_near : (s : Bool) (m u k : ℕ) (P : Exact) → signed s m ⊗ nat u ≼ P ⊕ nat k → P ≼ signed s m ⊗ nat u ⊕ nat k → m * u ≤ abs P + k
size_near true m u k P h l = omega arith
size_near false m u k P h l = omega arith

-- ---- from the computed nearest point to the place, along one axis
step :
    (p a d t : Float) (n : ℕ) → n ≤ 5120 → Sized p n → Sized a 1024 → Sized d 2048 → Sized t 1 → Nonneg t
    → Sized (p -ᶠ (a +ᶠ t *ᶠ d)) (n + 3072) × (mag (p -ᶠ (a +ᶠ t *ᶠ d)) * U ≤ abs (nat U ⊗ (val p ⊖ val a) ⊖ nat (mag t) ⊗ val d) + slack * U)
step p a d t n few P A D T' o =
    let m = t *ᶠ d in
    let s = a +ᶠ m in
    let e = p -ᶠ s in
    let M : Sized m 2048 = mul_sized T' D (lit< tt) in
    let S : Sized s 3072 = add_sized A M (lit< tt) in
    let G : Sized e (n + 3072) = sub_sized P S (omega arith) in
    let x =
    close_wider E (abs (val p ⊖ val s)) ((n + 3072) * U) (val e) (val p ⊖ val s)
    (omega (arith, signed_le (sgn p) (mag p), signed_le (sgn s) (mag s), P.size, S.size)) (sub_of_finite p s P.num S.num G.num.fine).close in
    let y =
    close_wider E (abs (val a ⊕ val m)) (3072 * U) (val s) (val a ⊕ val m)
    (omega (arith, signed_le (sgn a) (mag a), signed_le (sgn m) (mag m), A.size, M.size)) (add_of_finite a m A.num M.num S.num.fine).close in
    let z =
    close_wider E (mag t * mag d + U * H) (U * (2048 * U) + U * H) (val m ⊗ nat U) (val t ⊗ val d) (more (mag t) (mag d) U (U * H) T'.size D.size)
    (product_close (mul_of_finite t d T'.num D.num M.num.fine)) in
    let c = chained (U * (2048 * U) + U * H) (3072 * U * U) ((n + 3072) * U * U) U (mag t) (val e) (val p) (val s) (val a) (val m) (val t ⊗ val d) (val d)
    (scaled_sign ((n + 3072) * U) E (val e) (val p ⊖ val s) false U U (omega arith) x)
    (scaled_sign (3072 * U) E (val s) (val a ⊕ val m) false U U (omega arith) y) z (turned (val t) (val d) (mag t) (plain (sgn t) (mag t) o)) in
    let k =
    near_enough E _ (slack * U) (val e ⊗ nat U) (nat U ⊗ (val p ⊖ val a) ⊖ nat (mag t) ⊗ val d) (lit< tt)
    (step_room H slack U n slack_is (unfold U in lit≤ tt) few) c in
    (G, size_near (sgn e) (mag e) U (slack * U) _ k.0 k.1)
  where
    more : (t d u h : ℕ) → t ≤ 1 * u → d ≤ 2048 * u → t * d + h ≤ u * (2048 * u) + h
    more t d u h p q = omega (arith, mul-le-mul p q)

    turned : (t d : Exact) (n : ℕ) → t ≈ nat n → t ⊗ d ≈ nat n ⊗ d
    turned t d n h = omega (arith, ap (λ (z : ℕ). z * d.p) h, ap (λ (z : ℕ). z * d.n) h)

-- ---- numbers only: the sizes A and B of the two steps times u, a and b the exact ones; v is u * u and k is v / 1,048,576
root_le : (a c : ℕ) → a * a ≤ c * c → a ≤ c
root_le a c h = le_of_suc-le-suc (lt_of_not-le (λ (g : suc c ≤ a). absurd (omega (arith, mul-le-mul g g))))

reach : (A B a b v k : ℕ) → k * 1048576 ≡ v → A ≤ a + k → B ≤ b + k → a * a + b * b ≤ v * (1050625 * v + 2 * k) → A * A + B * B ≤ 1060900 * (v * v)
reach A B a b v k e p q h =
    let kv : k * v * 1048576 ≡ v * v = omega (arith, ap (λ (z : ℕ). z * v) e) in
    let kk : k * k ≤ k * v = mul-le-mul_left k (omega arith) in
    let x : a ≤ 1026 * v = root_le a (1026 * v) (omega arith) in
    let y : b ≤ 1026 * v = root_le b (1026 * v) (omega arith) in
    omega (arith, mul-le-mul p p, mul-le-mul q q, mul-le-mul_right k x, mul-le-mul_right k y)

-- the squares of the steps, rounded: P and Q; h stands for H
squares_room :
    (h P Q m n u : ℕ) → P * u * (h * 2) ≤ m * m * (h * 2 + 1) + u * h → Q * u * (h * 2) ≤ n * n * (h * 2 + 1) + u * h → m * m + n * n ≤ 1060900 * (u * u)
    → 0 < u → 1048576 ≤ h → P + Q ≤ 1062961 * u
squares_room h P Q m n u p q s u0 big =
    le_of_mul-le-mul_right {k = u * (h * 2)}
    (le_trans (joined (m * m) (n * n) p q) (le_trans (raised (m * m + n * n) s) (left (mul-le-mul_left (u * u) big) (mul-le-mul_left (u * h) u0))))
    (mul-pos u0 (omega arith))
  where
    joined :
        (x y : ℕ) → P * u * (h * 2) ≤ x * (h * 2 + 1) + u * h → Q * u * (h * 2) ≤ y * (h * 2 + 1) + u * h
        → (P + Q) * (u * (h * 2)) ≤ (x + y) * (h * 2 + 1) + 2 * (u * h)
    joined x y p q = omega arith

    raised : (x : ℕ) → x ≤ 1060900 * (u * u) → x * (h * 2 + 1) + 2 * (u * h) ≤ 1060900 * (u * u) * (h * 2 + 1) + 2 * (u * h)
    raised x l = omega (arith, mul-le-mul_right (h * 2 + 1) l)

    left : u * u * 1048576 ≤ u * u * h → u * h * 1 ≤ u * h * u → 1060900 * (u * u) * (h * 2 + 1) + 2 * (u * h) ≤ 1062961 * u * (u * (h * 2))
    left x y = omega arith

-- THE DISTANCE TO AN EDGE, squared
module _
    (px py ax ay bx by : Float) (PX : Sized px 5120) (PY : Sized py 1024) (cax : Coordinate ax) (cay : Coordinate ay) (cbx : Coordinate bx)
    (cby : Coordinate by) (w0 : 0 < mag (by -ᶠ ay)) where
  pub edge_reached :
      (w : ℕ) → Across (val px ⊖ val ax) (val py ⊖ val ay) (val (bx -ᶠ ax)) (val (by -ᶠ ay)) w (1025 * U)
      → Sized (edge_square px py ax ay bx by) 1062961
  unfolding edge_square
  edge_reached w a =
      let gx = val px ⊖ val ax in
      let gy = val py ⊖ val ay in
      let X = val (bx -ᶠ ax) in
      let Y = val (by -ᶠ ay) in
      let D = bx -ᶠ ax in
      let F = by -ᶠ ay in
      let j = projection px py ax ay bx by PX PY cax cay cbx cby w0 in
      let t = along ((px -ᶠ ax) *ᶠ D +ᶠ (py -ᶠ ay) *ᶠ F) (D *ᶠ D +ᶠ F *ᶠ F) in
      let ex = px -ᶠ (ax +ᶠ t *ᶠ D) in
      let ey = py -ᶠ (ay +ᶠ t *ᶠ F) in
      let x = step px ax D t 5120 (omega arith) PX (coordinate_sized cax) (dx_sized px py ax ay bx by PX PY cax cay cbx cby w0) j.sized j.nonneg in
      let y = step py ay F t 1024 (omega arith) PY (coordinate_sized cay) (dy_sized px py ax ay bx by PX PY cax cay cbx cby w0) j.sized j.nonneg in
      let r = reached gx gy X Y U (mag t) w (1025 * U) (slack * U) a (le_trans j.sized.size (omega arith)) j.foot in
      let s =
      reach (mag ex * U) (mag ey * U) (abs (across_from gx gy X Y U (mag t))) (abs (along_from gx gy X Y U (mag t))) (U * U) (slack * U)
      (squared slack U slack_is) x.1 y.1 (le_trans r (omega arith)) in
      let S : mag ex * mag ex + mag ey * mag ey ≤ 1060900 * (U * U) =
      le_of_mul-le-mul_right {k = U * U} (le_trans (le_of_eq (grouped (mag ex) (mag ey) U)) (le_trans s (omega arith))) (mul-pos U_pos U_pos) in
      let P = mul_sized x.0 x.0 (lit< tt) in
      let Q = mul_sized y.0 y.0 (lit< tt) in
      let p = mul_of_finite ex ex x.0.num x.0.num P.num.fine in
      let q = mul_of_finite ey ey y.0.num y.0.num Q.num.fine in
      let T' = add_sized P Q (lit< tt) in
      let z = add_of_finite (ex *ᶠ ex) (ey *ᶠ ey) P.num Q.num T'.num.fine in
      let m = squares_room H (mag (ex *ᶠ ex)) (mag (ey *ᶠ ey)) (mag ex) (mag ey) U p.near.above q.near.above S U_pos (lit≤ tt) in
      record {
        num = z.num;
        size =
            upper (sgn (ex *ᶠ ex)) (sgn (ey *ᶠ ey)) (mag (ex *ᶠ ex)) (mag (ey *ᶠ ey)) (sgn (ex *ᶠ ex +ᶠ ey *ᶠ ey)) (mag (ex *ᶠ ex +ᶠ ey *ᶠ ey))
            (square_plus p) (square_plus q) m (z.least false 0 digits_zero) (z.most false (1062961 * U) (digits_whole 1062961 (lit< tt)));
      }
    where
      squared : (s u : ℕ) → s * 1048576 ≡ u → s * u * 1048576 ≡ u * u
      squared s u e = omega (arith, ap (λ (z : ℕ). z * u) e)

      grouped : (m n u : ℕ) → (m * m + n * n) * (u * u) ≡ m * u * (m * u) + n * u * (n * u)
      grouped m n u = omega arith

      upper : (s t : Bool) (m n : ℕ) (b : Bool) (k : ℕ) → s ≡ false → t ≡ false → m + n ≤ 1062961 * U
          → (signed false 0 ≼ signed s m ⊕ signed t n → signed false 0 ≼ signed b k)
          → (signed s m ⊕ signed t n ≼ signed false (1062961 * U) → signed b k ≼ signed false (1062961 * U)) → k ≤ 1062961 * U
      upper false false m n false k p q h l f = omega (arith, f (omega arith))
      upper false false m n true k p q h l f = omega (arith, l (omega arith))
      upper true t m n b k p q h l f = let z : ◌≡◌ {A = ℕ} 0 1 = cc in absurd (omega arith)
      upper false true m n b k p q h l f = let z : ◌≡◌ {A = ℕ} 0 1 = cc in absurd (omega arith)
