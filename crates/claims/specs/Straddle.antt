-- A place inside a ring has, on its height, an edge whose computed crossing lies right of it, and one whose computed crossing does not.
-- Rests on the edges that straddle a height being even in number around a ring.
use Rattle.std.proofs.Math.Path.{◌≡◌, refl, ap}
use Rattle.std.proofs.Common.{◌∙◌, arith, ltb-false}
use Rattle.std.specs.Prelude.{◌⊎◌, Bool, ◌&&◌, ltb, Float}
use Rattle.std.proofs.Math.Logic.{inl, inr}
use Rattle.std.proofs.Math.Bool.{true, false, not, cond}
use Rattle.std.specs.Bool.{beq}
use Prim.Native.Nat.{ℕ, zero, suc, ◌-◌, ◌≤◌, ◌<◌}
use Rattle.float.specs.Ops.{◌+ᶠ◌, ◌-ᶠ◌, ◌*ᶠ◌, ◌/ᶠ◌, ◌<ᶠ◌, ◌>ᶠ◌, ε}
use Rattle.glyphs.specs.Points.{Ring, vertices, x_at, y_at}
use Rattle.regions.specs.Ring.{prev}
use Rattle.regions.specs.Inside.{intersect, flip, inside_after, point_in_polygon}

-- one end of the edge lies above y and the other does not
abbrev pub straddles : Float → Float → Float → Bool
straddles y yi yj = not (beq (yi >ᶠ y) (yj >ᶠ y))

-- where the edge crosses the height y, as computed
abbrev pub crossing : Float → Float → Float → Float → Float → Float
crossing y xi yi xj yj = (xj -ᶠ xi) *ᶠ (y -ᶠ yi) /ᶠ (yj -ᶠ yi +ᶠ ε) +ᶠ xi

module _ (x y : Float) (v : Ring) where
  abbrev straddles_at : ℕ → Bool
  straddles_at k = straddles y (y_at v k) (y_at v (prev (vertices v) k))

  abbrev crossing_at : ℕ → Float
  crossing_at k = crossing y (x_at v k) (y_at v k) (x_at v (prev (vertices v) k)) (y_at v (prev (vertices v) k))

  -- an edge that straddles y, with x left of its crossing or not
  pub record Edge (left : Bool) : Type 0 where
    pub k : ℕ
    pub within : k < vertices v
    pub straddle : straddles_at k ≡ true
    pub side : x <ᶠ crossing_at k ≡ left

  -- ---- an edge that is counted
  counted : (i : ℕ) → i ≤ vertices v → inside_after x y v (vertices v) i ≡ true → Edge true
  unfolding inside_after flip intersect
  counted zero h e = let z : ◌≡◌ {A = ℕ} 0 1 = cc in absurd (omega arith)
  counted (suc i) h e = go (straddles_at i) (x <ᶠ crossing_at i) refl refl (counted i (omega arith)) e
    where
      go : (a b : Bool) → straddles_at i ≡ a → x <ᶠ crossing_at i ≡ b → (inside_after x y v (vertices v) i ≡ true → Edge true)
          → cond (a && b) (not (inside_after x y v (vertices v) i)) (inside_after x y v (vertices v) i) ≡ true → Edge true
      go true true p q f e = record { k = i; within = omega arith; straddle = p; side = q }
      go true false p q f e = f e
      go false b p q f e = f e

  -- ---- an edge that is not: `inside` as it would be if every edge that straddles y were counted
  unfoldable parity : ℕ → Bool
  parity zero = false
  parity (suc i) = flip (straddles_at i) (parity i)

  all_or : (i : ℕ) → i ≤ vertices v → (inside_after x y v (vertices v) i ≡ parity i) ⊎ Edge false
  unfolding inside_after flip intersect parity
  all_or zero h = inl refl
  all_or (suc i) h = elim (all_or i (omega arith)) [ inl e ↦ go (straddles_at i) (x <ᶠ crossing_at i) refl refl e | inr m ↦ inr m ]
    where
      go : (a b : Bool) → straddles_at i ≡ a → x <ᶠ crossing_at i ≡ b → inside_after x y v (vertices v) i ≡ parity i
          → (cond (a && b) (not (inside_after x y v (vertices v) i)) (inside_after x y v (vertices v) i) ≡ cond a (not (parity i)) (parity i)) ⊎ Edge false
      go true true p q e = inl (ap not e)
      go true false p q e = inr (record { k = i; within = omega arith; straddle = p; side = q })
      go false b p q e = inl e

  abbrev above : ℕ → Bool
  above k = y_at v k >ᶠ y

  turn : (a b c : Bool) → cond (not (beq a b)) (not (not (beq b c))) (not (beq b c)) ≡ not (beq a c)
  turn true true c = refl
  turn true false true = refl
  turn true false false = refl
  turn false true true = refl
  turn false true false = refl
  turn false false c = refl

  start : (a : Bool) → cond a true false ≡ a
  start true = refl
  start false = refl

  parity_is : (i : ℕ) → parity (suc i) ≡ not (beq (above i) (above (vertices v - 1)))
  unfolding parity flip prev
  parity_is zero = start (not (beq (above 0) (above (vertices v - 1))))
  parity_is (suc i) = ap (λ (b : Bool). cond (straddles_at (suc i)) (not b) b) (parity_is i) ∙ turn (above (suc i)) (above i) (above (vertices v - 1))

  around : (n : ℕ) → n ≡ vertices v → 0 < n → parity n ≡ false
  around zero e h = absurd (omega arith)
  around (suc m) e h = let z : vertices v - 1 ≡ m = omega arith in parity_is m ∙ rw z (same (above m))
    where
      same : (a : Bool) → not (beq a a) ≡ false
      same true = refl
      same false = refl

  pub record Between : Type 0 where
    pub three : 3 ≤ vertices v
    pub right : Edge true
    pub left : Edge false

  pub inside_between : point_in_polygon x y v ≡ true → Between
  unfolding point_in_polygon
  inside_between e = go (ltb (vertices v) 3) (ltb-false (vertices v) 3) e
    where
      go : (b : Bool) → (b ≡ false → 3 ≤ vertices v) → cond b false (inside_after x y v (vertices v) (vertices v)) ≡ true → Between
      go true f e = let z : ◌≡◌ {A = ℕ} 0 1 = cc in absurd (omega arith)
      go false f e =
          let h = f refl in
          elim (all_or (vertices v) (omega arith)) [
            | inl p ↦ let z : ◌≡◌ {A = ℕ} 0 1 = cc (e, p, around (vertices v) refl (omega arith)) in absurd (omega arith)
            | inr m ↦ record { three = h; right = counted (vertices v) (omega arith) e; left = m }
          ]
