-- Where an edge crosses a height, as computed, against the exact crossing: off by 1 at most, which is far more than it is.
-- Rests on the rounding laws.
use Rattle.std.specs.Prelude.{◌≡◌, refl, Bool, Float}
use Rattle.std.proofs.Common.{ap, mul-le-mul, mul-le-mul_left, mul-le-mul_right, lit<}
use Rattle.std.proofs.Math.Bool.{true, false}
use Prim.Native.Nat.{ℕ, zero, suc, ◌+◌, ◌*◌, ◌^◌, ◌≤◌, ◌<◌}
use native.Mathlib.Omega.{arith}
use Rattle.std.proofs.Math.Dec.{lit≤}
use Rattle.float.specs.Ops.{◌+ᶠ◌, ◌-ᶠ◌, ◌*ᶠ◌, ◌/ᶠ◌, ε}
use Rattle.rounding.specs.Signed.{Exact, signed, signed_le, nat, abs, ◌⊕◌, ◌⊖◌, ◌⊗◌, ◌≼◌, ◌≈◌}
use Rattle.rounding.specs.Relative.{Close, close_chain, close_wider}
use Rattle.rounding.specs.Value.{U, E, H, sgn, mag, val}
use Rattle.rounding.proofs.Errors.{add_of_finite}
use Rattle.rounding.specs.Bounds.{Sized}
use Rattle.rounding.proofs.Bounds.{sub_sized, add_sized, mul_sized}
use Rattle.format.specs.Exact.{Coordinate, coordinate_sized}
use Rattle.claims.specs.Closeness.{close_same, product_close, quotient_close, scaled_sign, near_enough}
use Rattle.claims.specs.Straddle.{crossing}
use Rattle.claims.specs.Crossing.{Crossed, epsilon_mag, epsilon_sized}

close_sym : (f e : ℕ) (a b : Exact) → Close f e a b → Close f e b a
close_sym f e a b c = record { above = c.below; below = c.above }

-- ---- the quotient times the rise against the run times the part
-- epsilon is two of what rounding is off by
epsilon_twice : mag ε * E ≡ 2 * U
unfolding U
epsilon_twice = rw epsilon_mag refl

pub record Off (y xi yi xj yj q c : Float) : Type 0 where
  pub low : val (yj -ᶠ yi) ⊗ val q ≼ (val y ⊖ val yi) ⊗ val (xj -ᶠ xi) ⊕ nat (U * mag (yj -ᶠ yi))
  pub high : (val y ⊖ val yi) ⊗ val (xj -ᶠ xi) ≼ val (yj -ᶠ yi) ⊗ val q ⊕ nat (U * mag (yj -ᶠ yi))
  pub below : val c ≼ val q ⊕ val xi ⊕ nat U
  pub above : val q ⊕ val xi ≼ val c ⊕ nat U

-- 1/1024, in units: a rise is one at least
unfoldable step : ℕ
step = 2 ^ 1064

step_is : step * 1024 ≡ U
unfolding step U
step_is = refl

room :
    (h u s w : ℕ) → s * 1024 ≡ u → s ≤ w → h ≤ u
    → 2051 * u * (4096 * u) + (4194304 * u * u + 2049 * u * h + (2048 * u * (2048 * u) + u * h + 2048 * u * (2048 * u))) ≤ u * w * E
room h u s w e l k =
    let a : u * u ≤ 1024 * (u * w) = omega (arith, ap (λ (z : ℕ). z * u) e, mul-le-mul_right (u * 1024) l) in
    let b : u * h ≤ u * u = mul-le-mul_left u k in
    omega arith

pub off : (y xi yi xj yj : Float) → Coordinate xi → Coordinate yi → Coordinate xj → Coordinate yj → Crossed y xi yi xj yj
    → Off y xi yi xj yj ((xj -ᶠ xi) *ᶠ (y -ᶠ yi) /ᶠ (yj -ᶠ yi +ᶠ ε)) (crossing y xi yi xj yj)
off y xi yi xj yj cxi cyi cxj cyj C =
    let A = yj -ᶠ yi in
    let d = A +ᶠ ε in
    let X = xj -ᶠ xi in
    let w = y -ᶠ yi in
    let p = X *ᶠ w in
    let q = p /ᶠ d in
    let c = crossing y xi yi xj yj in
    let g = val y ⊖ val yi in
    let A' : Sized A 2048 = sub_sized (coordinate_sized cyj) (coordinate_sized cyi) (lit< tt) in
    let w' : Sized w 2048 = sub_sized C.high (coordinate_sized cyi) (lit< tt) in
    let p' : Sized p 4194304 = mul_sized C.run_sized w' (lit< tt) in
    let d' : Sized d 2049 = add_sized A' epsilon_sized (lit< tt) in
    -- the divisor against the rise
    let i =
    divisor_close (val d) (val A) (sgn ε) (mag ε) (epsilon_twice)
    (close_wider E (abs (val A ⊕ val ε)) (2049 * U) (val d) (val A ⊕ val ε)
    (omega (arith, signed_le (sgn A) (mag A), signed_le (sgn ε) (mag ε), A'.size, epsilon_sized.size)) C.divisor.close) in
    let j =
    close_sym E (2051 * U * (4096 * U)) (val d ⊗ val q) (val A ⊗ val q)
    (scaled_sign (2051 * U) E (val d) (val A) (sgn q) (mag q) (4096 * U) C.quotient_size.size i) in
    -- the quotient, the product and the part
    let k = close_same (4194304 * U * U + 2049 * U * H) (val q ⊗ val d) (val p ⊗ nat U) (val d ⊗ val q) (val p ⊗ nat U) (both (val q) (val d)) (omega arith)
    (close_wider E (mag p * U + mag d * H) (4194304 * U * U + 2049 * U * H) (val q ⊗ val d) (val p ⊗ nat U) (sizes (mag p) (mag d) U H p'.size d'.size)
    (quotient_close C.quotient)) in
    let m = close_same (2048 * U * (2048 * U) + U * H) (val p ⊗ nat U) (val X ⊗ val w) (val p ⊗ nat U) (val w ⊗ val X) (omega arith) (both (val X) (val w))
    (close_wider E (mag X * mag w + U * H) (2048 * U * (2048 * U) + U * H) (val p ⊗ nat U) (val X ⊗ val w)
    (more (mag X * mag w) (2048 * U * (2048 * U)) (U * H) (mul-le-mul C.run_sized.size w'.size)) (product_close C.product)) in
    let n = scaled_sign (2048 * U) E (val w) g (sgn X) (mag X) (2048 * U) C.run_sized.size
    (close_wider E (abs g) (2048 * U) (val w) g
    (omega (arith, signed_le (sgn y) (mag y), signed_le (sgn yi) (mag yi), C.high.size, (coordinate_sized cyi).size)) C.part.close) in
    let t =
    close_chain E _ _ (val A ⊗ val q) (val d ⊗ val q) (g ⊗ val X) j
    (close_chain E _ _ (val d ⊗ val q) (val p ⊗ nat U) (g ⊗ val X) k (close_chain E _ _ (val p ⊗ nat U) (val w ⊗ val X) (g ⊗ val X) m n)) in
    let e =
    near_enough E _ (U * mag A) (val A ⊗ val q) (g ⊗ val X) (lit< tt)
    (room H U step (mag A) step_is (least C.rise.count (mag A) C.above C.rise.multiple.is) (unfold U in lit≤ tt)) t in
    let r =
    close_wider E (abs (val q ⊕ val xi)) (5120 * U) (val c) (val q ⊕ val xi)
    (omega (arith, signed_le (sgn q) (mag q), signed_le (sgn xi) (mag xi), C.quotient_size.size, (coordinate_sized cxi).size))
    (add_of_finite q xi C.quotient_size.num cxi.multiple.num C.sized.num.fine).close in
    let f = near_enough E (5120 * U) U (val c) (val q ⊕ val xi) (lit< tt) (omega arith) r in
    record { low = e.0; high = e.1; below = f.0; above = f.1 }
  where
    divisor_close : (d a : Exact) (s : Bool) (k : ℕ) → k * E ≡ 2 * U → Close E (2049 * U) d (a ⊕ signed s k) → Close E (2051 * U) d a
    divisor_close d a true k e c = record { above = omega (arith, c.above); below = omega (arith, c.below) }
    divisor_close d a false k e c = record { above = omega (arith, c.above); below = omega (arith, c.below) }

    both : (a b : Exact) → a ⊗ b ≈ b ⊗ a
    both a b = omega arith

    sizes : (p d u h : ℕ) → p ≤ 4194304 * u → d ≤ 2049 * u → p * u + d * h ≤ 4194304 * u * u + 2049 * u * h
    sizes p d u h a b = omega (arith, mul-le-mul_right u a, mul-le-mul_right h b)

    more : (a b c : ℕ) → a ≤ b → a + c ≤ b + c
    more a b c h = omega arith

    least : (c m : ℕ) → 0 < c → m ≡ c * 2 ^ 1064 → step ≤ m
    least zero m h e = absurd (omega arith)
    least (suc c) m h e = unfold step in (rw e (one_of c (2 ^ 1064)))
      where
        one_of : (c g : ℕ) → g ≤ suc c * g
        one_of c g = omega arith
