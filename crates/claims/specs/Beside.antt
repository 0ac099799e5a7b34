-- The edge whose crossing a place lies left of, right of the middle, or right of, left of it, crosses the place's height within 1,025 of it.
-- Rests on the computed crossing being near the exact one, which lies between the edge's ends.
use Rattle.std.proofs.Common.{ap, mul-le-mul_left, mul-le-mul_right, arith}
use Rattle.std.specs.Prelude.{Bool, true, false, not, ℕ, ◌+◌, ◌*◌, ◌<◌}
use Rattle.rounding.specs.Signed.{Exact, signed, nat, opp, ◌⊕◌, ◌⊖◌, ◌⊗◌, ◌≼◌, ◌≈◌}
use Rattle.claims.specs.Closest.{Across}

-- ---- numbers only: the rise is a + b and the part a of it with one sign; X leads from the edge's end to the place, R to its other end
-- X (a + b) - a R, the way from the crossing to the place times the rise
abbrev pub from_crossing : Exact → Exact → ℕ → ℕ → Exact
from_crossing X R a b = X ⊗ nat (a + b) ⊖ nat a ⊗ R

-- equal factors make equal products
pub equal_products : (A A' B B' : Exact) → A ≈ A' → B ≈ B' → A ⊗ B ≈ A' ⊗ B'
equal_products A A' B B' e f = omega (arith, ap (λ (z : ℕ). z * B.p) e, ap (λ (z : ℕ). z * B.n) e, ap (λ (z : ℕ). z * A'.p) f, ap (λ (z : ℕ). z * A'.n) f)

module _
    (s : Bool) (X R g v dx dy : Exact) (a b K : ℕ) (w0 : 0 < a + b) (g-is : g ≈ X ⊖ R) (v-is : v ≈ signed (not s) b) (dx-is : dx ≈ opp R)
    (dy-is : dy ≈ signed (not s) (a + b)) where
  heights : (s : Bool) (P : Exact) → P ≈ signed (not s) (a + b) ⊗ signed (not s) (a + b) → P ≈ nat ((a + b) * (a + b))
  heights true P h = omega arith
  heights false P h = omega arith

  parts : (s : Bool) (P : Exact) → P ≈ signed (not s) b ⊗ signed (not s) (a + b) → (nat 0 ≼ P) × (P ≼ nat ((a + b) * (a + b)))
  parts true P h = (omega arith, omega arith)
  parts false P h = (omega arith, omega arith)

  crossed_by :
      (s : Bool) (P Q : Exact) (m : ℕ) → P ≈ (X ⊖ R) ⊗ signed (not s) (a + b) → Q ≈ signed (not s) b ⊗ opp R → from_crossing X R a b ≼ nat m
      → opp (from_crossing X R a b) ≼ nat m
      → (P ⊖ Q ≼ nat m) × (opp (P ⊖ Q) ≼ nat m)
  crossed_by true P Q m p q h k = (omega arith, omega arith)
  crossed_by false P Q m p q h k = (omega arith, omega arith)

  pub across : from_crossing X R a b ≼ nat (K * (a + b)) → opp (from_crossing X R a b) ≼ nat (K * (a + b)) → Across g v dx dy (a + b) K
  across h k =
      let p = parts s (v ⊗ dy) (equal_products v (signed (not s) b) dy (signed (not s) (a + b)) v-is dy-is) in
      let c =
      crossed_by s (g ⊗ dy) (v ⊗ dx) (K * (a + b)) (equal_products g (X ⊖ R) dy (signed (not s) (a + b)) g-is dy-is)
      (equal_products v (signed (not s) b) dx (opp R) v-is dx-is) h k in
      record {
        height = heights s (dy ⊗ dy) (equal_products dy (signed (not s) (a + b)) dy (signed (not s) (a + b)) dy-is dy-is);
        above = w0;
        from = p.0;
        to = p.1;
        right = c.0;
        left = c.1;
      }

-- ---- the crossing is near the computed one, c = i + q, and within 1,024 u; the place is x
module _
    (x i j q c R : Exact) (a b u : ℕ) (R-is : R ≈ j ⊖ i) (low : nat (a + b) ⊗ q ≼ nat a ⊗ R ⊕ nat (u * (a + b)))
    (high : nat a ⊗ R ≼ nat (a + b) ⊗ q ⊕ nat (u * (a + b))) (below : c ≼ q ⊕ i ⊕ nat u) (above : q ⊕ i ≼ c ⊕ nat u)
    (i-low : opp i ≼ nat (1024 * u)) (i-high : i ≼ nat (1024 * u)) (j-low : opp j ≼ nat (1024 * u)) (j-high : j ≼ nat (1024 * u)) where
  -- the exact crossing, times the rise
  crossing_high : i ⊗ nat (a + b) ⊕ nat a ⊗ R ≼ nat (1024 * u * (a + b))
  crossing_high = omega (arith, ap (λ (z : ℕ). a * z) R-is, mul-le-mul_left b i-high, mul-le-mul_left a j-high)

  crossing_low : opp (i ⊗ nat (a + b) ⊕ nat a ⊗ R) ≼ nat (1024 * u * (a + b))
  crossing_low = omega (arith, ap (λ (z : ℕ). a * z) R-is, mul-le-mul_left b i-low, mul-le-mul_left a j-low)

  pub left_of : x ≼ c → nat 0 ≼ x → (from_crossing (x ⊖ i) R a b ≼ nat (1025 * u * (a + b))) × (opp (from_crossing (x ⊖ i) R a b) ≼ nat (1025 * u * (a + b)))
  left_of h o =
      let l : x ⊖ i ≼ q ⊕ nat u = omega arith in
      (omega (arith, mul-le-mul_right (a + b) l, low), omega (arith, mul-le-mul_right (a + b) o, crossing_high))

  pub right_of : c ≼ x → x ≼ nat 0 → (from_crossing (x ⊖ i) R a b ≼ nat (1025 * u * (a + b))) × (opp (from_crossing (x ⊖ i) R a b) ≼ nat (1025 * u * (a + b)))
  right_of h o =
      let l : q ≼ x ⊖ i ⊕ nat u = omega arith in
      (omega (arith, mul-le-mul_right (a + b) o, crossing_low), omega (arith, mul-le-mul_right (a + b) l, high))
