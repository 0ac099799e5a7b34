-- How large a clearance is: where the outer ring's vertices lie within 1,024 and the place within 15,360, at most 26,067.
-- Rests on the rounding laws of sizes.
use Rattle.std.specs.Prelude.{ℕ, zero, suc, ◌+◌, ◌*◌, ◌^◌, ◌<◌, ◌≤◌, ◌≡◌, refl, Bool, cond, T, ltb, Float}
use Rattle.std.proofs.Common.{sym, subst, arith, ne_eqb, lt-ltb, le-ltb, lit<, lit≤}
use Rattle.std.proofs.Math.Bool.{true, false}
use mathlib.Core.List.{List, [], ◌∷◌, foldl}
use Rattle.std.specs.Float.{nan, inf, fin, binary64}
use Rattle.std.specs.Float.Ieee.{prec, emax, low, up, down, odd, units, round, div, lt, le, is_nan, of_bits, neg, unlike, fits}
use Rattle.std.specs.Float.Ieee.Fits.{round_is, div-fits}
use Rattle.std.specs.Float.Ieee.Nearest.{closest}
use Rattle.std.specs.Float.Ieee.Order.{drop}
use Rattle.std.specs.Float.Ieee.Scale.{finite}
use Rattle.laws.specs.Truth.{yes, no}
use Rattle.float.specs.Ops.{◌+ᶠ◌, ◌-ᶠ◌, ◌*ᶠ◌, ◌/ᶠ◌, ◌<ᶠ◌, 0ᶠ, 1ᶠ, ∞}
use Rattle.float.specs.Order.{clamp}
use Rattle.float.specs.Laws.Nan.{Number}
use Rattle.float.specs.Laws.Zero.{origin, origin_is, zero_not_above}
use Rattle.float.specs.Laws.Compare.{not_lt_le, le_trans, le_self}
use Rattle.rounding.specs.Value.{U, mag, Num}
use Rattle.rounding.specs.Bounds.{Sized, wider, neg_sized, ranged}
use Rattle.rounding.proofs.Bounds.{add_sized, sub_sized, mul_sized}
use Rattle.rounding.proofs.Sqrt.{sqrt_sized}
use Rattle.rounding.specs.Comparison.{le→≼}
use Rattle.rounding.specs.Signs.{zero_num, zero_mag, zero_val}
use Rattle.glyphs.specs.Points.{Ring, vertices, x_at, y_at}
use Rattle.regions.specs.Ring.{next}
use Rattle.regions.specs.Clearance.{along, edge_square, square_at, closer, within, min_dist_to_rings, signed_clearance}
use Rattle.regions.specs.Squares.{least_after, least_of_ring, least_of_rings}
use Rattle.regions.specs.Least.{Good, least_root, ring_good, rings_good, ∞-good, after_falls, at_least_zero, ring_falls}
use Rattle.regions.specs.Facts.{zero_number}

-- ---- a quotient by a number above 0 is a number
round_number : (s : Bool) (a c : ℕ) → Number (round binary64 s a c)
unfolding units odd is_nan
round_number s a c =
    subst Number (sym (round_is binary64 s a c))
    (go (closest (a * 2 ^ low binary64) (c * 2 ^ drop (prec binary64) (a * 2 ^ low binary64) c)) (drop (prec binary64) (a * 2 ^ low binary64) c))
  where
    at : (q k : ℕ) (b : Bool) → Number (cond b (odd (suc (prec binary64)) s q k (low binary64)) (inf s))
    at zero k true = tt
    at (suc q) k true = tt
    at q k false = tt

    go : (q k : ℕ) → Number (units binary64 s q k)
    go q k = at q k (ltb (q * 2 ^ k) (2 ^ (low binary64 + suc (emax binary64))))

div_number : (x y : Float) → T (finite x) → T (finite y) → T (lt origin y) → Number (x /ᶠ y)
unfolding div
div_number nan y a b h = absurd a
div_number (inf s) y a b h = absurd a
div_number (fin s m e) nan a b h = absurd b
div_number (fin s m e) (inf t) a b h = absurd b
div_number (fin s m e) (fin t zero d) a b h = absurd (zero_not_above t d h)
div_number (fin s m e) (fin t (suc n) d) a b h =
    rw (ne_eqb (suc n) 0 (λ e. omega arith)) (round_number (unlike s t) (m * up e * down d) (suc n * up d * down e))

-- ---- the place along an edge is within 0..1
zero_sized : Sized 0ᶠ 0
zero_sized = record { num = zero_num; size = rw zero_mag (omega arith) }

one_sized : Sized 1ᶠ 1
unfolding of_bits fits mag U
one_sized = record { num = record { fit = tt; fine = tt }; size = lit≤ tt }

one_number : Number 1ᶠ
unfolding of_bits is_nan
one_number = tt

clamp_sized : (x : Float) → T (fits binary64 x) → Number x → Sized (clamp x 0ᶠ 1ᶠ) 1
unfolding clamp
clamp_sized x f n = go (x <ᶠ 0ᶠ) (1ᶠ <ᶠ x) refl refl
  where
    go : (s t : Bool) → x <ᶠ 0ᶠ ≡ s → 1ᶠ <ᶠ x ≡ t → Sized (cond s 0ᶠ (cond t 1ᶠ x)) 1
    go true t p q = wider (omega arith) zero_sized
    go false true p q = one_sized
    go false false p q = ranged f (wider (omega arith) zero_sized) one_sized (not_lt_le 0ᶠ x zero_number n (no p)) (not_lt_le x 1ᶠ n one_number (no q))

along_sized : (dot len2 : Float) → Num dot → Num len2 → Sized (along dot len2) 1
unfolding along
along_sized dot len2 p q = go (0ᶠ <ᶠ len2) refl
  where
    go : (t : Bool) → 0ᶠ <ᶠ len2 ≡ t → Sized (cond t (clamp (dot /ᶠ len2) 0ᶠ 1ᶠ) 0ᶠ) 1
    go true e = clamp_sized (dot /ᶠ len2) (div-fits binary64 dot len2) (div_number dot len2 p.fine q.fine (rw origin_is at (yes e)))
    go false e = wider (omega arith) zero_sized

-- ---- the square of a distance to an edge
pub edge_sized :
    (px py ax ay bx by : Float) → Sized px 15360 → Sized py 15360 → Sized ax 1024 → Sized ay 1024 → Sized bx 1024 → Sized by 1024
    → Sized (edge_square px py ax ay bx by) 679477248
unfolding edge_square
edge_sized px py ax ay bx by hx hy a₁ a₂ b₁ b₂ =
    let dx : Sized (bx -ᶠ ax) 2048 = sub_sized b₁ a₁ (lit< tt) in
    let dy : Sized (by -ᶠ ay) 2048 = sub_sized b₂ a₂ (lit< tt) in
    let len2 : Sized ((bx -ᶠ ax) *ᶠ (bx -ᶠ ax) +ᶠ (by -ᶠ ay) *ᶠ (by -ᶠ ay)) 8388608 =
    add_sized (mul_sized dx dx (lit< tt)) (mul_sized dy dy (lit< tt)) (lit< tt) in
    let dot : Sized ((px -ᶠ ax) *ᶠ (bx -ᶠ ax) +ᶠ (py -ᶠ ay) *ᶠ (by -ᶠ ay)) 67108864 =
    add_sized (mul_sized (sub_sized hx a₁ (lit< tt)) dx (lit< tt)) (mul_sized (sub_sized hy a₂ (lit< tt)) dy (lit< tt)) (lit< tt) in
    let t = along_sized _ _ dot.num len2.num in
    let ex = sub_sized hx (add_sized a₁ (mul_sized t dx (lit< tt)) (lit< tt)) (lit< tt) in
    let ey = sub_sized hy (add_sized a₂ (mul_sized t dy (lit< tt)) (lit< tt)) (lit< tt) in
    add_sized (mul_sized ex ex (lit< tt)) (mul_sized ey ey (lit< tt)) (lit< tt)

-- ---- the least square
-- a ring with an edge, and vertices within 1,024
pub record Bounded (ring : Ring) : Type 0 where
  pub two : 2 ≤ vertices ring
  pub xs : (i : ℕ) → i < vertices ring → Sized (x_at ring i) 1024
  pub ys : (i : ℕ) → i < vertices ring → Sized (y_at ring i) 1024

first_square : (px py : Float) (ring : Ring) → Sized px 15360 → Sized py 15360 → Bounded ring → Sized (square_at px py ring (vertices ring) 0) 679477248
unfolding next
first_square px py ring hx hy b =
    let z : 0 < vertices ring = omega (arith, b.two) in
    let o : 1 < vertices ring = omega (arith, b.two) in
    rw (lt-ltb (0 + 1) (vertices ring) o) (edge_sized px py _ _ _ _ hx hy (b.xs 0 z) (b.ys 0 z) (b.xs 1 o) (b.ys 1 o))

pub sized_number : {x : Float} {k : ℕ} → Sized x k → Number x
sized_number {x} s = go x s.num.fine
  where
    go : (x : Float) → T (finite x) → Number x
    go nan h = absurd h
    go (inf s) h = absurd h
    go (fin s m e) h = unfold is_nan in tt

closer_under : (s b : Float) → Number s → Number b → T (le (closer s b) s)
unfolding closer
closer_under s b p q = go (lt s b) refl
  where
    go : (t : Bool) → lt s b ≡ t → T (le (cond t s b) s)
    go true e = le_self s p
    go false e = not_lt_le b s q p (no e)

first : (px py : Float) (ring : Ring) (n : ℕ) → Number (square_at px py ring n 0) → T (le (least_after px py ∞ ring n 1) (square_at px py ring n 0))
unfolding least_after
first px py ring n h = closer_under (square_at px py ring n 0) ∞ h ∞-good.number

ring_under :
    (px py : Float) (ring : Ring) → 2 ≤ vertices ring → Number (square_at px py ring (vertices ring) 0)
    → T (le (least_of_ring px py ∞ ring) (square_at px py ring (vertices ring) 0))
unfolding least_of_ring
ring_under px py ring h n =
    rw (le-ltb (vertices ring) 2 h)
    (le_trans (least_after px py ∞ ring (vertices ring) (vertices ring)) (least_after px py ∞ ring (vertices ring) 1) (square_at px py ring (vertices ring) 0)
    (after_falls px py ∞ ring ∞-good (vertices ring) 1 (vertices ring) (omega arith)) (first px py ring (vertices ring) n))

rings_falls : (px py b : Float) (rings : List Ring) → Good b → T (le (foldl (least_of_ring px py) b rings) b)
rings_falls px py b [] g = le_self b g.number
rings_falls px py b (ring ∷ rings) g =
    le_trans (foldl (least_of_ring px py) (least_of_ring px py b ring) rings) (least_of_ring px py b ring) b
    (rings_falls px py (least_of_ring px py b ring) rings (ring_good px py b ring g))
    (ring_falls px py b ring g)

module _ (px py : Float) (ring : Ring) (holes : List Ring) (hx : Sized px 15360) (hy : Sized py 15360) (b : Bounded ring) where
  least_sized : Sized (least_of_rings px py (ring ∷ holes)) 679477248
  unfolding least_of_rings
  least_sized =
      let s = first_square px py ring hx hy b in
      let g = rings_good px py ∞ (ring ∷ holes) ∞-good in
      ranged g.square.fit (wider (omega arith) zero_sized) s (rw origin_is (at_least_zero _ g))
      (le_trans (foldl (least_of_ring px py) (least_of_ring px py ∞ ring) holes) (least_of_ring px py ∞ ring) (square_at px py ring (vertices ring) 0)
      (rings_falls px py (least_of_ring px py ∞ ring) holes (ring_good px py ∞ ring ∞-good)) (ring_under px py ring b.two (sized_number s)))

  dist_sized : Sized (min_dist_to_rings px py (ring ∷ holes)) 26067
  unfolding least_of_rings
  dist_sized =
      let g = rings_good px py ∞ (ring ∷ holes) ∞-good in
      let s : Sized (least_of_rings px py (ring ∷ holes)) (26067 * 26067) = wider (lit≤ tt) least_sized in
      let above = le→≼ 0ᶠ _ zero_num s.num (rw origin_is (at_least_zero _ g)) in
      rw least_root (sqrt_sized (least_of_rings px py (ring ∷ holes)) 26067 s (rw zero_val at above) (lit< tt))

  -- a clearance is a number of size 26,067 at most
  pub clearance_sized : Sized (signed_clearance px py (ring ∷ holes)) 26067
  unfolding signed_clearance
  clearance_sized = go (within px py (ring ∷ holes))
    where
      go : (t : Bool) → Sized (cond t (min_dist_to_rings px py (ring ∷ holes)) (neg (min_dist_to_rings px py (ring ∷ holes)))) 26067
      go true = dist_sized
      go false = neg_sized dist_sized
