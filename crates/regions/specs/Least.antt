-- The root of the least square is the least distance, for every piece and place, NaN and infinity among them, and more edges never make it greater.
-- Rests on the law that the lesser of two roots is the root of the lesser, and on the order of floats.
use Prim.Native.Nat.{ℕ, zero, suc, ◌+◌, ◌-◌, ◌≤◌, zero-le}
use Rattle.std.specs.Prelude.{◌≡◌, Bool, ltb, Float}
use Rattle.std.proofs.Math.Path.{refl, ap}
use Rattle.std.proofs.Common.{sym, ◌∙◌, inl, inr, true≢false, eq-or-lt_of_le, le_of_suc-le-suc, le-ltb}
use Rattle.std.proofs.Math.Bool.{true, false, cond}
use mathlib.Core.List.{List, [], ◌∷◌, foldl}
use native.Mathlib.Omega.{arith}
use Rattle.std.proofs.Math.Dec.{T}
use Rattle.std.specs.Float.Ieee
use Rattle.std.specs.Float.{nan, inf, fin, binary64}
use Rattle.std.specs.Float.Ieee.{lt, le, of_bits, is_nan}
use Rattle.std.specs.Float.Ieee.Bits.{of_bits-fits, is_true}
use Rattle.laws.specs.Truth.{yes, no, refuted}
use Rattle.float.specs.Ops.{∞}
use Rattle.float.specs.Order.{sqrt}
use Rattle.float.specs.Root.{root_of}
use Rattle.float.specs.Laws.Nan.{Number, lt_number}
use Rattle.float.specs.Laws.Square.{Square, times_self, plus}
use Rattle.float.specs.Laws.Minimum.{lesser_root}
use Rattle.float.specs.Laws.Zero.{origin}
use Rattle.float.specs.Laws.Compare.{le_trans, lt_le, lt_le_trans, not_lt_le, le_self}
use Rattle.float.specs.Laws.Monotone.{root_above}
use Rattle.glyphs.specs.Points.{Ring, vertices}
use Rattle.regions.specs.Clearance.{edge_square, square_at, closer, best_after, best_of_ring, min_dist_to_rings}
use Rattle.regions.specs.Squares.{least_after, least_from, least_of_ring, least_of_rings}

edge_square_lem : (px py ax ay bx by : Float) → Square (edge_square px py ax ay bx by)
unfolding edge_square
edge_square_lem px py ax ay bx by = plus _ _ (times_self _) (times_self _)

-- what the least square is at every turn
pub record Good (x : Float) : Type 0 where
  pub square : Square x
  pub number : Number x

good_of : (s b : Float) (t : Bool) → lt s b ≡ t → Square s → Good b → Good (cond t s b)
good_of s b false e p g = g
good_of s b true e p g = record { square = p; number = (lt_number s b (yes e)).0 }

closer_good : (s b : Float) → Square s → Good b → Good (closer s b)
unfolding closer
closer_good s b p g = good_of s b (lt s b) refl p g

closer_root : (s b : Float) → Square s → Good b → closer (sqrt s) (sqrt b) ≡ sqrt (closer s b)
unfolding closer
closer_root s b p g = lesser_root b s g.square p

-- ---- one ring

module _ (px py b : Float) (ring : Ring) (g : Good b) where
  pub after_good : (n i : ℕ) → Good (least_after px py b ring n i)
  unfolding least_after
  after_good n zero = g
  after_good n (suc i) = closer_good _ _ (edge_square_lem px py _ _ _ _) (after_good n i)

  after_root : (n i : ℕ) → best_after px py (sqrt b) ring n i ≡ sqrt (least_after px py b ring n i)
  unfolding best_after least_after
  after_root n zero = refl
  after_root n (suc i) = rw (after_root n i) (closer_root _ _ (edge_square_lem px py _ _ _ _) (after_good n i))

  pub ring_good : Good (least_of_ring px py b ring)
  unfolding least_of_ring
  ring_good = go (ltb (vertices ring) 2)
    where
      go : (t : Bool) → Good (cond t b (least_after px py b ring (vertices ring) (vertices ring)))
      go true = g
      go false = after_good (vertices ring) (vertices ring)

  ring_root : best_of_ring px py (sqrt b) ring ≡ sqrt (least_of_ring px py b ring)
  unfolding best_of_ring least_of_ring
  ring_root = go (ltb (vertices ring) 2)
    where
      go :
          (t : Bool)
          → cond t (sqrt b) (best_after px py (sqrt b) ring (vertices ring) (vertices ring))
          ≡ sqrt (cond t b (least_after px py b ring (vertices ring) (vertices ring)))
      go true = refl
      go false = after_root (vertices ring) (vertices ring)

-- ---- all rings

pub rings_good : (px py b : Float) (rings : List Ring) → Good b → Good (foldl (least_of_ring px py) b rings)
rings_good px py b [] g = g
rings_good px py b (ring ∷ rings) g = rings_good px py (least_of_ring px py b ring) rings (ring_good px py b ring g)

rings_root :
    (px py b : Float) (rings : List Ring) → Good b → foldl (best_of_ring px py) (sqrt b) rings ≡ sqrt (foldl (least_of_ring px py) b rings)
rings_root px py b [] g = refl
rings_root px py b (ring ∷ rings) g = rw (ring_root px py b ring g) (rings_root px py (least_of_ring px py b ring) rings (ring_good px py b ring g))

pub ∞-good : Good ∞
unfolding of_bits lt is_nan
∞-good = record { square = record { fit = of_bits-fits binary64 0x7ff0_0000_0000_0000; not_below = tt }; number = tt }

∞-root : sqrt ∞ ≡ ∞
unfolding root_of of_bits
∞-root = refl

pub least_root : (px py : Float) (rings : List Ring) → min_dist_to_rings px py rings ≡ sqrt (least_of_rings px py rings)
unfolding min_dist_to_rings least_of_rings
least_root px py rings = ap (λ (b : Float). foldl (best_of_ring px py) b rings) (sym ∞-root) ∙ rings_root px py ∞ rings ∞-good

-- ---- the least never rises

pub at_least_zero : (x : Float) → Good x → T (le origin x)
at_least_zero x g = not_lt_le origin x (unfold is_nan in tt) g.number g.square.not_below

closer_le : (s b : Float) → Good b → T (le (closer s b) b)
unfolding closer
closer_le s b g = go (lt s b) refl
  where
    go : (t : Bool) → lt s b ≡ t → T (le (cond t s b) b)
    go true e = lt_le s b (yes e)
    go false e = le_self b g.number

module _ (px py b : Float) (ring : Ring) (g : Good b) where
  after_step : (n m : ℕ) → T (le (least_after px py b ring n (suc m)) (least_after px py b ring n m))
  unfolding least_after
  after_step n m = closer_le _ _ (after_good px py b ring g n m)

  pub after_falls : (n i m : ℕ) → i ≤ m → T (le (least_after px py b ring n m) (least_after px py b ring n i))
  after_falls n i zero h =
      let e : i ≡ 0 = omega arith in
      rw e (le_self _ (after_good px py b ring g n 0).number)
  after_falls n i (suc m) h =
      elim (eq-or-lt_of_le h) [
        | inl e ↦ same e
        | inr l ↦
            le_trans (least_after px py b ring n (suc m)) (least_after px py b ring n m) (least_after px py b ring n i)
            (after_step n m) (after_falls n i m (le_of_suc-le-suc l))
      ]
    where
      same : i ≡ suc m → T (le (least_after px py b ring n (suc m)) (least_after px py b ring n i))
      same e = rw e (le_self _ (after_good px py b ring g n (suc m)).number)

  pub ring_falls : T (le (least_of_ring px py b ring) b)
  unfolding least_of_ring least_after
  ring_falls = go (ltb (vertices ring) 2)
    where
      go : (t : Bool) → T (le (cond t b (least_after px py b ring (vertices ring) (vertices ring))) b)
      go true = le_self b g.number
      go false = after_falls (vertices ring) 0 (vertices ring) zero-le

pub rings_fall : (px py b : Float) (rings : List Ring) → Good b → T (le (foldl (least_of_ring px py) b rings) b)
rings_fall px py b [] g = le_self b g.number
rings_fall px py b (ring ∷ rings) g =
    le_trans _ (least_of_ring px py b ring) b (rings_fall px py (least_of_ring px py b ring) rings (ring_good px py b ring g)) (ring_falls px py b ring g)

-- a distance is not below 0
pub dist_least : (px py : Float) (rings : List Ring) → T (le origin (min_dist_to_rings px py rings))
unfolding least_of_rings
dist_least px py rings =
    rw least_root (root_above binary64 (least_of_rings px py rings) (at_least_zero _ (rings_good px py ∞ rings ∞-good)))

-- ---- the least of two parts of a ring is the lesser of the leasts of each

nested : (s c b : Float) → Number c → closer s (closer c b) ≡ closer (closer s c) b
unfolding closer
nested s c b g = go (lt c b) refl (lt s c) refl
  where
    go : (t : Bool) → lt c b ≡ t → (u : Bool) → lt s c ≡ u → cond (lt s (cond t c b)) s (cond t c b) ≡ cond (lt (cond u s c) b) (cond u s c) b
    go true e true f = rw (f, is_true (lt s b) (lt_le_trans s c b (yes f) (lt_le c b (yes e))))
    go true e false f = rw (f, e)
    go false e true f = refl
    go false e false f =
        rw (
          e,
          refuted (lt s b) (λ (k : T (lt s b)). true≢false (sym (is_true (lt s c) (lt_le_trans s b c k (not_lt_le b c (lt_number s b k).1 g (no e)))) ∙ f)),
        )

-- nothing is above ∞
top : (x : Float) → lt ∞ x ≡ false
unfolding lt Ieee.of_bits Ieee.of_fields
top nan = refl
top (inf s) = refl
top (fin s m e) = refl

module _ (px py : Float) (ring : Ring) (n h : ℕ) where
  from_good : (k : ℕ) → Good (least_from px py ring n h k)
  unfolding least_from
  from_good zero = ∞-good
  from_good (suc k) = closer_good _ _ (edge_square_lem px py _ _ _ _) (from_good k)

  in_two_parts : (b : Float) (k : ℕ) → least_after px py b ring n (h + k) ≡ closer (least_from px py ring n h k) (least_after px py b ring n h)
  unfolding least_after least_from closer
  in_two_parts b zero =
      let e : h + 0 ≡ h = omega arith in
      rw (e, top (least_after px py b ring n h))
  in_two_parts b (suc k) =
      let e : h + suc k ≡ suc (h + k) = omega arith in
      ap (least_after px py b ring n) e
      ∙ ap (closer (square_at px py ring n (h + k))) (in_two_parts b k)
      ∙ nested (square_at px py ring n (h + k)) (least_from px py ring n h k) (least_after px py b ring n h) (from_good k).number

-- the halves of a ring, or any two parts
pub of_halves :
    (px py b : Float) (ring : Ring) (h : ℕ) → 2 ≤ vertices ring → h ≤ vertices ring
    → closer (least_from px py ring (vertices ring) h (vertices ring - h)) (least_after px py b ring (vertices ring) h) ≡ least_of_ring px py b ring
unfolding least_of_ring
of_halves px py b ring h p q =
    let n = vertices ring in
    let e : h + (n - h) ≡ n = omega arith in
    rw (le-ltb n 2 p) (sym (in_two_parts px py ring n h b (n - h)) ∙ ap (least_after px py b ring n) e)
