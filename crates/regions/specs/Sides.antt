-- The even-odd test passes over edges whose vertices are all above the point, or all not: none of them is crossed.
-- Rests on nothing but the definitions.
use Prim.Native.Nat.{ℕ, zero, suc, ◌+◌, ◌-◌, ◌<◌, ◌≤◌}
use Rattle.std.specs.Prelude.{◌≡◌, Bool, not, ◌&&◌, ◌||◌, T, eqb, Float}
use Rattle.std.proofs.Math.Path.{refl}
use Rattle.std.proofs.Common.{◌∙◌, inl, inr, eqb→eq}
use Rattle.std.proofs.Math.Bool.{true, false, cond}
use Rattle.std.specs.Bool.{beq}
use native.Mathlib.Omega.{arith}
use mir.Val.{bool_byte}
use Rattle.laws.specs.Truth.{or_split, flag_le}
use Rattle.float.specs.Ops.{◌>ᶠ◌}
use Rattle.glyphs.specs.Points.{Ring, x_at, y_at}
use Rattle.regions.specs.Ring.{prev}
use Rattle.regions.specs.Inside.{intersect, flip, inside_after}

-- how many of the m vertices from i on are above y
unfoldable pub above_count : Float → Ring → ℕ → ℕ → ℕ
above_count y v i zero = 0
above_count y v i (suc m) = above_count y v i m + bool_byte (y_at v (i + m) >ᶠ y)

abbrev pub on_one_side : Float → Ring → ℕ → ℕ → Bool
on_one_side y v i m = eqb (above_count y v i m) 0 || eqb (above_count y v i m) m

-- it is at most the number of vertices looked at
pub at_most : (y : Float) (v : Ring) (i m : ℕ) → above_count y v i m ≤ m
unfolding above_count
at_most y v i zero = omega arith
at_most y v i (suc m) = omega (arith, at_most y v i m, flag_le (y_at v (i + m) >ᶠ y))

-- an edge with both ends above the point, or neither, is not crossed
pub same_side : (x y xi yi xj yj : Float) → (yi >ᶠ y) ≡ (yj >ᶠ y) → intersect x y xi yi xj yj ≡ false
unfolding intersect
same_side x y xi yi xj yj e = rw e (go (yj >ᶠ y) _)
  where
    go : (a b : Bool) → not (beq a a) && b ≡ false
    go true b = refl
    go false b = refl

same_flag : (a b : Bool) → bool_byte a ≡ bool_byte b → a ≡ b
same_flag true true e = refl
same_flag true false e = absurd (omega arith)
same_flag false true e = absurd (omega arith)
same_flag false false e = refl

module _ (x y : Float) (v : Ring) (n : ℕ) where
  -- a turn whose edge has both ends on one side changes nothing
  passed : (i : ℕ) → bool_byte (y_at v (suc i) >ᶠ y) ≡ bool_byte (y_at v i >ᶠ y) → inside_after x y v n (suc (suc i)) ≡ inside_after x y v n (suc i)
  unfolding inside_after prev flip
  passed i e = rw (same_side x y (x_at v (suc i)) (y_at v (suc i)) (x_at v i) (y_at v i) (same_flag (y_at v (suc i) >ᶠ y) (y_at v i >ᶠ y) e))

  one_more :
      (i m : ℕ) → bool_byte (y_at v (i + suc m) >ᶠ y) ≡ bool_byte (y_at v (i + m) >ᶠ y)
      → inside_after x y v n (i + suc (suc m)) ≡ inside_after x y v n (i + suc m)
  one_more i m e =
      let a : i + suc m ≡ suc (i + m) = omega arith in
      let b : i + suc (suc m) ≡ suc (suc (i + m)) = omega arith in
      rw (a, b) (passed (i + m) (rw (← a) e))

  none_passed : (i m : ℕ) → above_count y v i (suc m) ≡ 0 → inside_after x y v n (i + suc m) ≡ inside_after x y v n (i + 1)
  unfolding above_count
  none_passed i zero e = refl
  none_passed i (suc m) e = one_more i m (omega arith) ∙ none_passed i m (omega arith)

  all_passed : (i m : ℕ) → above_count y v i (suc m) ≡ suc m → inside_after x y v n (i + suc m) ≡ inside_after x y v n (i + 1)
  unfolding above_count
  all_passed i zero e = refl
  all_passed i (suc m) e =
      let c = at_most y v i m in
      let p = flag_le (y_at v (i + m) >ᶠ y) in
      let q = flag_le (y_at v (i + suc m) >ᶠ y) in
      one_more i m (omega arith) ∙ all_passed i m (omega arith)

  -- the turns between m + 1 vertices on one side change nothing
  pub passed_over : (i m : ℕ) → T (on_one_side y v i (suc m)) → inside_after x y v n (i + suc m) ≡ inside_after x y v n (i + 1)
  passed_over i m t = elim (or_split (eqb (above_count y v i (suc m)) 0) (eqb (above_count y v i (suc m)) (suc m)) t) [
    | inl a ↦ none_passed i m (eqb→eq _ _ a)
    | inr b ↦ all_passed i m (eqb→eq _ _ b)
  ]

  -- the first turn has the last vertex as j, each other the vertex before its own
  pub first_turn : inside_after x y v n 1 ≡ intersect x y (x_at v 0) (y_at v 0) (x_at v (n - 1)) (y_at v (n - 1))
  unfolding inside_after prev flip
  first_turn = go (intersect x y (x_at v 0) (y_at v 0) (x_at v (n - 1)) (y_at v (n - 1)))
    where
      go : (b : Bool) → cond b true false ≡ b
      go true = refl
      go false = refl

  pub next_turn :
      (k : ℕ) → 0 < k
      → inside_after x y v n (k + 1)
      ≡ flip (intersect x y (x_at v k) (y_at v k) (x_at v (k - 1)) (y_at v (k - 1))) (inside_after x y v n k)
  unfolding inside_after prev
  next_turn zero h = absurd (omega arith)
  next_turn (suc k) h =
      let e : suc k + 1 ≡ suc (suc k) = omega arith in
      let f : suc k - 1 ≡ k = omega arith in
      rw (e, f)
