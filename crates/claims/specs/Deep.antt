-- A ring that a place lies inside has an edge within 1,031 of it, as computed.
-- Rests on one of the edges beside the place crossing its height within 1,025 of it.
use Rattle.std.specs.Prelude.{◌≡◌, refl, ◌⊎◌, Bool, true, false, not, ℕ, zero, suc, ◌+◌, ◌-◌, ◌*◌, ◌^◌, ◌≤◌, ◌<◌, T, Float}
use Rattle.std.proofs.Common.{inl, inr, mul-pos, arith, lt-ltb, le-ltb, pow_pos}
use Rattle.std.proofs.Math.Nat.{le_dest}
use Rattle.std.specs.Float.{binary64}
use Rattle.std.specs.Float.Ieee.{fits}
use Rattle.laws.specs.Orders.{lt_or_le}
use Rattle.laws.specs.Truth.{yes, no}
use Rattle.float.specs.Ops.{◌+ᶠ◌, ◌-ᶠ◌, ◌*ᶠ◌, ◌/ᶠ◌, ε}
use Rattle.rounding.specs.Signed.{Exact, signed, signed_le, same_size, nat, opp, ◌⊕◌, ◌⊖◌, ◌⊗◌, ◌≼◌, ◌≺◌, ◌≈◌}
use Rattle.rounding.specs.Value.{U, sgn, mag, val}
use Rattle.rounding.specs.Comparison.{lt→≺, ¬lt→≼}
use Rattle.rounding.specs.Bounds.{Sized}
use Rattle.glyphs.specs.Points.{Ring, vertices, x_at, y_at}
use Rattle.regions.specs.Ring.{prev, next}
use Rattle.regions.specs.Inside.{point_in_polygon}
use Rattle.regions.specs.Clearance.{edge_square, square_at}
use Rattle.format.specs.Exact.{Coordinate, coordinate_sized}
use Rattle.format.specs.Known.{RingKnown}
use Rattle.claims.specs.Straddle.{Edge, inside_between, crossing}
use Rattle.claims.specs.Crossing.{Crossed, Ordered, ordered, spans, difference}
use Rattle.claims.specs.Level.{off}
use Rattle.claims.specs.Beside.{from_crossing, equal_products, across, left_of, right_of}
use Rattle.claims.specs.Reached.{edge_reached}
use Rattle.claims.specs.Within.{vertex_x, vertex_y, prev_within, Placed, edge_crossed, inside_placed}

-- ---- numbers only: the rise w from i to j with its sign, in two parts at y
record Split (s : Bool) (w : ℕ) (y i j : Exact) : Type 0 where
  a : ℕ
  b : ℕ
  both : a + b ≡ w
  part : y ⊖ i ≈ signed s a
  rest : y ⊖ j ≈ signed (not s) b

split : (s : Bool) (w : ℕ) (y i j : Exact) → signed s w ≈ j ⊖ i → Ordered y i j → Split s w y i j
split false w y i j e (inl h) = absurd (omega arith)
split true w y i j e (inr h) = absurd (omega arith)
split false w y i j e (inr h) =
    let l : i.p + y.n ≤ y.p + i.n = omega arith in
    let m : y.p + j.n ≤ j.p + y.n = omega arith in
    let a = le_dest l in
    let b = le_dest m in
    record { a = a.0; b = b.0; both = omega (arith, a.1, b.1); part = omega (arith, a.1); rest = omega (arith, b.1) }
split true w y i j e (inl h) =
    let l : y.p + i.n ≤ i.p + y.n = omega arith in
    let m : j.p + y.n ≤ y.p + j.n = omega arith in
    let a = le_dest l in
    let b = le_dest m in
    record { a = a.0; b = b.0; both = omega (arith, a.1, b.1); part = omega (arith, a.1); rest = omega (arith, b.1) }

-- the sign taken off
oriented : (s : Bool) (w a b u : ℕ) (p q R Z : Exact) → a + b ≡ w → Z ≈ signed s a ⊗ R → signed s w ⊗ q ≼ Z ⊕ nat (u * w) → Z ≼ signed s w ⊗ q ⊕ nat (u * w)
    → (nat (a + b) ⊗ q ≼ nat a ⊗ R ⊕ nat (u * (a + b))) × (nat a ⊗ R ≼ nat (a + b) ⊗ q ⊕ nat (u * (a + b)))
oriented false w a b u p q R Z e z l h = rw e (omega arith, omega arith)
oriented true w a b u p q R Z e z l h = rw e (omega arith, omega arith)

turned : (s : Bool) (w : ℕ) (d i j : Exact) → signed s w ≈ j ⊖ i → d ≈ i ⊖ j → d ≈ signed (not s) w
turned true w d i j e f = omega arith
turned false w d i j e f = omega arith

next_prev : (n k : ℕ) → k < n → next n (prev n k) ≡ k
unfolding next prev
next_prev n zero h = rw (le-ltb (n - 1 + 1) n (omega arith)) refl
next_prev n (suc k) h = rw (lt-ltb (k + 1) n (omega arith)) (omega arith)

-- ---- an edge beside the place
module _
    (x y xi yi xj yj : Float) (cxi : Coordinate xi) (cyi : Coordinate yi) (cxj : Coordinate xj) (cyj : Coordinate yj) (C : Crossed y xi yi xj yj)
    (o : Ordered (val y) (val yi) (val yj)) (P : Placed x y) where
  abbrev c : Float
  c = crossing y xi yi xj yj

  beside_edge : ((val x ≼ val c) × (nat 0 ≼ val x)) ⊎ ((val c ≼ val x) × (val x ≼ nat 0)) → Sized (edge_square x y xj yj xi yi) 1062961
  beside_edge side =
      let A = yj -ᶠ yi in
      let q = (xj -ᶠ xi) *ᶠ (y -ᶠ yi) /ᶠ (A +ᶠ ε) in
      let R = val (xj -ᶠ xi) in
      let O = off y xi yi xj yj cxi cyi cxj cyj C in
      let S = split (sgn A) (mag A) (val y) (val yi) (val yj) C.rise.value o in
      let a = S.a in
      let b = S.b in
      let d = difference cyi cyj in
      let run = difference cxi cxj in
      let turn : val (yi -ᶠ yj) ≈ signed (not (sgn A)) (a + b) = rw S.both (turned (sgn A) (mag A) (val (yi -ᶠ yj)) (val yi) (val yj) C.rise.value d.value) in
      let w0 : 0 < a + b = rw S.both (positive C.rise.count (mag A) C.above C.rise.multiple.is) in
      let w1 : 0 < mag (yi -ᶠ yj) = rw (same_size (sgn (yi -ᶠ yj)) (not (sgn A)) (mag (yi -ᶠ yj)) (a + b) turn) w0 in
      let near =
      oriented (sgn A) (mag A) a b U (val y ⊖ val yi) (val q) R ((val y ⊖ val yi) ⊗ R) S.both
      (equal_products (val y ⊖ val yi) (signed (sgn A) a) R R S.part (omega arith)) O.low O.high in
      let i = signed_le (sgn xi) (mag xi) in
      let j = signed_le (sgn xj) (mag xj) in
      let I = (coordinate_sized cxi).size in
      let J = (coordinate_sized cxj).size in
      let N =
      within_of (val x) (val xi) (val xj) (val q) (val c) R a b C.run.value near.0 near.1 O.below O.above (omega arith) (omega arith) (omega arith)
      (omega arith) side in
      edge_reached x y xj yj xi yi P.across P.along cxj cyj cxi cyi w1 (a + b)
      (across (sgn A) (val x ⊖ val xi) R (val x ⊖ val xj) (val y ⊖ val yj) (val (xi -ᶠ xj)) (val (yi -ᶠ yj)) a b (1025 * U) w0
      (omega (arith, C.run.value)) S.rest (omega (arith, run.value, C.run.value)) turn N.0 N.1)
    where
      positive : (n m : ℕ) → 0 < n → m ≡ n * 2 ^ 1064 → 0 < m
      positive n m h e = rw e (mul-pos h (pow_pos 1064))

      within_of :
          (x i j q c R : Exact) (a b : ℕ) → R ≈ j ⊖ i → nat (a + b) ⊗ q ≼ nat a ⊗ R ⊕ nat (U * (a + b)) → nat a ⊗ R ≼ nat (a + b) ⊗ q ⊕ nat (U * (a + b))
          → c ≼ q ⊕ i ⊕ nat U → q ⊕ i ≼ c ⊕ nat U
          → opp i ≼ nat (1024 * U) → i ≼ nat (1024 * U) → opp j ≼ nat (1024 * U) → j ≼ nat (1024 * U) → ((x ≼ c) × (nat 0 ≼ x)) ⊎ ((c ≼ x) × (x ≼ nat 0))
          → (from_crossing (x ⊖ i) R a b ≼ nat (1025 * U * (a + b))) × (opp (from_crossing (x ⊖ i) R a b) ≼ nat (1025 * U * (a + b)))
      within_of x i j q c R a b r l h be ab il ih jl jh (inl s) = left_of x i j q c R a b U r l h be ab il ih jl jh s.0 s.1
      within_of x i j q c R a b r l h be ab il ih jl jh (inr s) = right_of x i j q c R a b U r l h be ab il ih jl jh s.0 s.1

module _ (x y : Float) (v : Ring) (r : RingKnown v) (fx : T (fits binary64 x)) (fy : T (fits binary64 y)) where
  edge_near : {left : Bool} (e : Edge x y v left) (P : Placed x y)
      → ((val x ≼ val (crossing y (x_at v e.k) (y_at v e.k) (x_at v (prev (vertices v) e.k)) (y_at v (prev (vertices v) e.k)))) × (nat 0 ≼ val x))
      ⊎ ((val (crossing y (x_at v e.k) (y_at v e.k) (x_at v (prev (vertices v) e.k)) (y_at v (prev (vertices v) e.k))) ≼ val x) × (val x ≼ nat 0))
      → Sized (square_at x y v (vertices v) (prev (vertices v) e.k)) 1062961
  edge_near e P side =
      let i = e.k in
      let j = prev (vertices v) i in
      let p = prev_within (vertices v) i e.within in
      let xi = vertex_x v r i e.within in
      let yi = vertex_y v r i e.within in
      let xj = vertex_x v r j p in
      let yj = vertex_y v r j p in
      rw (next_prev (vertices v) i e.within)
      (beside_edge x y (x_at v i) (y_at v i) (x_at v j) (y_at v j) xi yi xj yj (edge_crossed x y v r fx fy e)
      (ordered y (y_at v i) (y_at v j) P.along.num yi.multiple.num yj.multiple.num (spans y (y_at v i) (y_at v j) e.straddle)) P side)

  -- an edge of the ring that is near
  pub record Near : Type 0 where
    pub index : ℕ
    pub within : index < vertices v
    pub near : Sized (square_at x y v (vertices v) index) 1062961

  pub some_near : point_in_polygon x y v ≡ true → Near
  some_near h =
      let b = inside_between x y v h in
      let P = inside_placed x y v r fx fy h in
      let R = edge_crossed x y v r fx fy b.right in
      let L = edge_crossed x y v r fx fy b.left in
      elim (lt_or_le (val x).p (val x).n) [
        | inl l ↦ record {
          index = prev (vertices v) b.left.k;
          within = prev_within (vertices v) b.left.k b.left.within;
          near = edge_near b.left P (inr (¬lt→≼ x _ P.across.num L.sized.num (no b.left.side), omega arith));
        }
        | inr l ↦ record {
          index = prev (vertices v) b.right.k;
          within = prev_within (vertices v) b.right.k b.right.within;
          near = edge_near b.right P (inl (weaken (val x) _ (lt→≺ x _ P.across.num R.sized.num (yes b.right.side)), omega arith));
        }
      ]
    where
      weaken : (a b : Exact) → a ≺ b → a ≼ b
      weaken a b h = omega arith
