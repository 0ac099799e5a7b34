-- The even-odd test by edges in place of vertices, and in parts of a ring: definitions for the code, and the law that it is the same.
-- Rests on nothing but the definitions.
use Prim.Native.Nat.{ℕ, zero, suc, ◌+◌, ◌-◌, ◌≤◌, ◌<◌}
use Rattle.std.specs.Prelude.{◌≡◌, Bool, true, false, not, Float}
use Rattle.std.proofs.Math.Path.{refl, ap}
use Rattle.std.proofs.Common.{sym, ◌∙◌, zero-add, le-ltb}
use Rattle.std.specs.Bool.{beq}
use native.Mathlib.Omega.{arith}
use Rattle.glyphs.specs.Points.{Ring, x_at, y_at}
use Rattle.regions.specs.Ring.{next, prev}
use Rattle.regions.specs.Walk.{crosses_at, next_is}
use Rattle.regions.specs.Inside.{intersect, flip, inside_after}

-- the turns of the k edges from the edge h on
unfoldable pub turns_from : Float → Float → Ring → ℕ → ℕ → ℕ → Bool
turns_from x y v n h zero = false
turns_from x y v n h (suc k) = flip (crosses_at x y v n (h + k)) (turns_from x y v n h k)

-- ---- laws

flip_swap : (a b c : Bool) → flip a (flip b c) ≡ flip b (flip a c)
unfolding flip
flip_swap true true c = refl
flip_swap true false c = refl
flip_swap false true c = refl
flip_swap false false c = refl

flip_nested : (a b c : Bool) → flip (flip a b) c ≡ flip a (flip b c)
unfolding flip
flip_nested true true true = refl
flip_nested true true false = refl
flip_nested true false c = refl
flip_nested false b c = refl

pub differ : (a b : Bool) → not (beq a b) ≡ flip b a
unfolding flip
differ true true = refl
differ true false = refl
differ false true = refl
differ false false = refl

last_is : (m : ℕ) → next (suc m) m ≡ 0
unfolding next
last_is m = rw (le-ltb (m + 1) (suc m) (omega arith))

module _ (x y : Float) (v : Ring) where
  in_two_turns : (n h k : ℕ) → flip (turns_from x y v n h k) (turns_from x y v n 0 h) ≡ turns_from x y v n 0 (h + k)
  unfolding turns_from flip
  in_two_turns n h zero =
      let e : h + 0 ≡ h = omega arith in
      rw e
  in_two_turns n h (suc k) =
      let e : h + suc k ≡ suc (h + k) = omega arith in
      flip_nested (crosses_at x y v n (h + k)) (turns_from x y v n h k) (turns_from x y v n 0 h)
      ∙ ap (flip (crosses_at x y v n (h + k))) (in_two_turns n h k)
      ∙ ap (λ (i : ℕ). flip (crosses_at x y v n i) (turns_from x y v n 0 (h + k))) (sym (zero-add (h + k)))
      ∙ ap (turns_from x y v n 0) (sym e)

  -- the turns of the vertices after the vertex 0 are those of the edges before them
  shifted :
      (n k : ℕ) → k < n
      → flip (intersect x y (x_at v 0) (y_at v 0) (x_at v (n - 1)) (y_at v (n - 1))) (turns_from x y v n 0 k) ≡ inside_after x y v n (suc k)
  unfolding turns_from inside_after prev
  shifted n zero h = refl
  shifted n (suc k) h =
      let e : k + 1 ≡ suc k = omega arith in
      let first = intersect x y (x_at v 0) (y_at v 0) (x_at v (n - 1)) (y_at v (n - 1)) in
      let here = intersect x y (x_at v (suc k)) (y_at v (suc k)) (x_at v k) (y_at v k) in
      rw (zero-add k, next_is n k (omega arith), e)
      (flip_swap first here (turns_from x y v n 0 k) ∙ ap (flip here) (shifted n k (omega arith)))

  all_turns : (n : ℕ) → 0 < n → turns_from x y v n 0 n ≡ inside_after x y v n n
  unfolding turns_from
  all_turns zero h = absurd (omega arith)
  all_turns (suc m) h =
      let e : suc m - 1 ≡ m = omega arith in
      rw (zero-add m, last_is m) (rw e at (shifted (suc m) m (omega arith)))

  pub turns_of_halves : (n h : ℕ) → 0 < n → h ≤ n → flip (turns_from x y v n h (n - h)) (turns_from x y v n 0 h) ≡ inside_after x y v n n
  turns_of_halves n h p q =
      let e : h + (n - h) ≡ n = omega arith in
      in_two_turns n h (n - h) ∙ ap (turns_from x y v n 0) e ∙ all_turns n p
