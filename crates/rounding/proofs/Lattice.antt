-- LATTICE: two different cells of a hexagonal or a rectangular lattice, each coordinate rounded as the source rounds it, are
-- at least the spacing less 2 ^ -30 apart.
-- Rests on `Steps` (where a point lies) and `Row` (the row height). The anchor is 65,536 at most, i steps 131,072, the
-- spacing 2 ^ -20 to 65,536; so i may be 2 ^ 37, and a job's are 2 ^ 32 at most.
use Rattle.std.specs.Prelude.{◌≡◌, refl, ◌⊎◌, Bool, true, false, ℕ, zero, suc, ◌+◌, ◌-◌}
use Rattle.std.specs.Prelude.{◌*◌, ◌/◌, ◌%◌, ◌≤◌, ◌<◌, ℤ, pos, negsuc, eqb, Float}
use Rattle.std.proofs.Common.{ap, subst, le_trans, le_of_lt, le_of_mul-le-mul_right, mul-le-mul}
use Rattle.std.proofs.Common.{mul-le-mul_right, mul-le-mul_left, mul-pos, sub-eq-zero_of_le, arith, lit<}
use Rattle.std.proofs.Math.Logic.{inl, inr}
use Rattle.std.proofs.Math.Nat.{le_of_mul-le-mul_left}
use Rattle.laws.specs.Orders.{lt_or_le}
use Rattle.rounding.specs.Signed.{Exact, nat, ◌⊕◌, ◌⊗◌, ◌≈◌, ◌≼◌}
use Rattle.rounding.specs.Relative.{Close}
use Rattle.rounding.specs.Value.{U, E, H, mag, val}
use Rattle.rounding.specs.Bounds.{Sized}
use Rattle.rounding.specs.Integers.{int, Order, same, below, above, order}
use Rattle.rounding.specs.Distance.{Length, tiny, tiny_is, tiny_big, half, half_is, gap, gap_sym, short_by}
use Rattle.rounding.specs.Distance.{distance², Spaced, spaced_sym, spaced_across, spaced_along}
use Rattle.rounding.specs.Row.{k3, Step, length_step, hex_row}
use Rattle.rounding.proofs.Row.{three_square, row_law}
use Rattle.rounding.specs.Steps.{Reach, across, along, offset, halves, half_steps}
use Rattle.rounding.proofs.Steps.{across_close, along_close}
use Rattle.rounding.specs.Lattice.{odd}

-- ---- whole numbers
-- j is twice a whole number, and one more where it is odd
record Parity (j : ℤ) : Type 0 where
  k : Exact
  is : int j ≈ k ⊕ k ⊕ nat (halves (odd j))

bit : (r : ℕ) → r < 2 → halves (eqb r 1) ≡ r
bit zero h = refl
bit (suc zero) h = refl
bit (suc (suc r)) h = absurd (omega (arith, h))

parity : (j : ℤ) → Parity j
unfolding odd
parity (pos n) = record { k = nat (n / 2); is = omega (arith, bit (n % 2) (omega arith)) }
parity (negsuc n) = record { k = record { p = 0; n = n / 2 + 1 }; is = omega (arith, bit (2 - suc (n % 2)) (omega arith)) }

-- rows next to each other: one of the two is odd
next : (j j' : ℤ) → int j ⊕ nat 1 ≈ int j' → halves (odd j) + halves (odd j') ≡ 1
next j j' e = go (odd j) (odd j') (parity j).k (parity j').k (omega (arith, e, (parity j).is, (parity j').is))
  where
    go : (a b : Bool) (k l : Exact) → k ⊕ k ⊕ nat (halves a) ⊕ nat 1 ≈ l ⊕ l ⊕ nat (halves b) → halves a + halves b ≡ 1
    go false false k l h = absurd (omega (arith, h))
    go false true k l h = refl
    go true false k l h = refl
    go true true k l h = absurd (omega (arith, h))

-- two places P and P', k / e from n steps of W apart or more, are n * W less t apart
steps_apart :
    (e W n k t : ℕ) (P P' A g g' : Exact) → 0 < e → Close e k P (A ⊕ g ⊗ nat W) → Close e k P' (A ⊕ g' ⊗ nat W) → g ⊕ nat n ≼ g'
    → 2 * k ≤ t * e → P ⊕ nat (n * W) ≼ P' ⊕ nat t
steps_apart e W n k t P P' A g g' e0 c d h r = le_of_mul-le-mul_right {k = e} (omega (arith, c.above, d.below, r, mul-le-mul_right (W * e) h)) e0

-- S across and b along, b being √3 S at least but for the rounding, are 2 S less d apart; h stands for H, k for the digits of √3
corner : (h k S b d r : ℕ) → 0 < h → S * k ≤ h * b → 3 * (h * h) ≤ k * k + h * 2 → S ≤ h * d → r + d ≡ 2 * S → r * r ≤ S * S + b * b
corner h k S b d r h0 p q s e =
    le_of_mul-le-mul_right {k = h * h}
    (omega (
      arith,
      mul-le-mul p p,
      mul-le-mul_left (S * S) q,
      mul-le-mul_left (S * h) s,
      ap (λ (z : ℕ). z * (h * h * (r + d))) e,
      ap (λ (z : ℕ). z * (h * h * S)) e,
      ap (λ (z : ℕ). z * (h * h * d)) e,
    ))
    (mul-pos h0 h0)

-- ---- the floats: twice the distance on one axis
module _ (s a : Float) (A : Sized a 65536) (st : Step s) where
  across_gap :
      (o o' : Bool) (i i' : ℤ) (n : ℕ) → Reach i s → Reach i' s → half_steps o i ⊕ nat n ≼ half_steps o' i'
      → n * mag s ≤ 2 * gap (across a (offset o s) i s) (across a (offset o' s) i' s) + half
  unfolding gap
  across_gap o o' i i' n r r' h =
      let x = across a (offset o s) i s in
      let x' = across a (offset o' s) i' s in
      let l =
      steps_apart E (mag s) n (1114112 * U + 4 * H) half (val x ⊕ val x) (val x' ⊕ val x') (val a ⊕ val a) (half_steps o i) (half_steps o' i') (lit< tt)
      (across_close a s o i A st r) (across_close a s o' i' A st r') h (omega (arith, tiny_is, tiny_big, half_is)) in
      omega (arith, l)

  along_gap :
      (j j' : ℤ) (n : ℕ) → Reach j s → Reach j' s → int j ⊕ nat n ≼ int j' → n * (2 * mag s) ≤ 2 * gap (along a j s) (along a j' s) + half
  unfolding gap
  along_gap j j' n r r' h =
      let y = along a j s in
      let y' = along a j' s in
      let l = steps_apart E (2 * mag s) n (2 * (327680 * U + H)) half (val y ⊕ val y) (val y' ⊕ val y') (val a ⊕ val a) (int j) (int j') (lit< tt)
      (twice y j (along_close a s j A st r)) (twice y' j' (along_close a s j' A st r')) h (omega (arith, tiny_is, tiny_big, half_is)) in
      omega (arith, l)
    where
      twice :
          (y : Float) (j : ℤ) → Close E (327680 * U + H) (val y) (val a ⊕ int j ⊗ nat (mag s))
          → Close E (2 * (327680 * U + H)) (val y ⊕ val y) (val a ⊕ val a ⊕ int j ⊗ nat (2 * mag s))
      twice y j c = record { above = omega (arith, c.above); below = omega (arith, c.below) }

-- S across and 2 R along, each short by d, with d for 2 ^ -31 and t for 2 ^ -30
pure :
    (S R X Y d t : ℕ) → S ≤ 2 * X + d → 2 * R ≤ 2 * Y + d → S * k3 ≤ H * (2 * R + d) → S ≤ H * d → d * 2 ≡ t → t ≤ S
    → (S - t) * (S - t) ≤ X * X + Y * Y
pure S R X Y d t p q tall small e l =
    le_of_mul-le-mul_left {k = 4}
    (le_trans (fourfold (S - t))
    (le_trans (short_by (2 * (S - t)) d (2 * d) S (2 * R + d) (2 * S - d) (2 * X) (2 * Y)
    (corner H k3 S (2 * R + d) d (2 * S - d) (lit< tt) tall three_square small (omega (arith, e, l)))
    p (omega (arith, q)) (omega (arith, e, l)))
    (omega arith))) (lit< tt)
  where
    fourfold : (m : ℕ) → 4 * (m * m) ≤ 2 * m * (2 * m)
    fourfold m = omega arith

-- in rows of which one is odd, two cells are half a spacing apart across
half_apart :
    (o o' : Bool) (i i' : ℤ) → halves o + halves o' ≡ 1
    → (half_steps o i ⊕ nat 1 ≼ half_steps o' i') ⊎ (half_steps o' i' ⊕ nat 1 ≼ half_steps o i)
half_apart false false i i' h = absurd (omega (arith, h))
half_apart true true i i' h = absurd (omega (arith, h))
half_apart false true i i' h =
    elim (lt_or_le ((int i').p + (int i).n) ((int i).p + (int i').n)) [ inl l ↦ inr (omega (arith, l)) | inr l ↦ inl (omega (arith, l)) ]
half_apart true false i i' h =
    elim (lt_or_le ((int i).p + (int i').n) ((int i').p + (int i).n)) [ inl l ↦ inl (omega (arith, l)) | inr l ↦ inr (omega (arith, l)) ]

module _ (s ax ay : Float) (L : Length s) (AX : Sized ax 65536) (AY : Sized ay 65536) where
  -- ---- one row
  apart_below :
      (o : Bool) (i i' : ℤ) (y y' : Float) → Reach i s → Reach i' s → int i ⊕ nat 1 ≼ int i'
      → Spaced s (across ax (offset o s) i s) y (across ax (offset o s) i' s) y'
  apart_below o i i' y y' r r' h =
      let g = across_gap s ax AX (length_step L) o o i i' 2 r r' (omega (arith, h)) in
      spaced_across s (across ax (offset o s) i s) y (across ax (offset o s) i' s) y' (omega (arith, g, half_is))

  one_row :
      (o : Bool) (i i' : ℤ) (y y' : Float) → Reach i s → Reach i' s → Order i i' → (i ≡ i' → ⊥)
      → Spaced s (across ax (offset o s) i s) y (across ax (offset o s) i' s) y'
  one_row o i i' y y' r r' (same e) n = absurd (n e)
  one_row o i i' y y' r r' (below h) n = apart_below o i i' y y' r r' h
  one_row o i i' y y' r r' (above h) n = spaced_sym s (across ax (offset o s) i' s) y' (across ax (offset o s) i s) y (apart_below o i' i y' y r' r h)

  -- ---- rectangular: no row is shifted
  rows_below : (x x' : Float) (j j' : ℤ) → Reach j s → Reach j' s → int j ⊕ nat 1 ≼ int j' → Spaced s x (along ay j s) x' (along ay j' s)
  rows_below x x' j j' r r' h =
      let g = along_gap s ay AY (length_step L) j j' 1 r r' h in spaced_along s x (along ay j s) x' (along ay j' s) (omega (arith, g, half_is))

  pub rectangular : (i j i' j' : ℤ) → Reach i s → Reach j s → Reach i' s → Reach j' s → (i ≡ i' → j ≡ j' → ⊥)
      → Spaced s (across ax (offset false s) i s) (along ay j s) (across ax (offset false s) i' s) (along ay j' s)
  rectangular i j i' j' ri rj ri' rj' n = go (order j j')
    where
      go : Order j j' → Spaced s (across ax (offset false s) i s) (along ay j s) (across ax (offset false s) i' s) (along ay j' s)
      go (same e) = one_row false i i' (along ay j s) (along ay j' s) ri ri' (order i i') (λ (d : i ≡ i'). n d e)
      go (below h) = rows_below (across ax (offset false s) i s) (across ax (offset false s) i' s) j j' rj rj' h
      go (above h) =
          spaced_sym s (across ax (offset false s) i' s) (along ay j' s) (across ax (offset false s) i s)
          (along ay j s) (rows_below (across ax (offset false s) i' s) (across ax (offset false s) i s) j' j rj' rj h)

  -- ---- hexagonal: odd rows are shifted
  side :
      (o o' : Bool) (i i' : ℤ) → Reach i s → Reach i' s → halves o + halves o' ≡ 1
      → mag s ≤ 2 * gap (across ax (offset o s) i s) (across ax (offset o' s) i' s) + half
  side o o' i i' r r' h = elim (half_apart o o' i i' h) [
    | inl l ↦ let g = across_gap s ax AX (length_step L) o o' i i' 1 r r' l in omega (arith, g)
    | inr l ↦
        let g = across_gap s ax AX (length_step L) o' o i' i 1 r' r l in
        let e = gap_sym (across ax (offset o s) i s) (across ax (offset o' s) i' s) in
        omega (arith, g, e)
  ]

  hex_below : (i j i' j' : ℤ) → Reach i s → Reach j (hex_row s) → Reach i' s → Reach j' (hex_row s) → int j ⊕ nat 1 ≼ int j'
      → Spaced s (across ax (offset (odd j) s) i s) (along ay j (hex_row s)) (across ax (offset (odd j') s) i' s) (along ay j' (hex_row s))
  unfolding distance²
  hex_below i j i' j' ri rj ri' rj' h =
      let x = across ax (offset (odd j) s) i s in
      let x' = across ax (offset (odd j') s) i' s in
      let y = along ay j (hex_row s) in
      let y' = along ay j' (hex_row s) in
      let R = row_law s L in
      elim (lt_or_le ((int j').p + (int j).n) ((int j).p + 2 + (int j').n)) [
        | inl l ↦
            let p = side (odd j) (odd j') i i' ri ri' (next j j' (omega (arith, h, l))) in
            let q = along_gap (hex_row s) ay AY R.step j j' 1 rj rj' h in
            elim (lt_or_le (mag s) tiny) [
              | inl z ↦ record { far = rw (sub-eq-zero_of_le (le_of_lt z)) (omega arith) }
              | inr z ↦ record {
                far = pure (mag s) (mag (hex_row s)) (gap x x') (gap y y') half tiny p
                    (omega (arith, q)) R.tall (omega (arith, L.sized.size, tiny_is, half_is)) half_is z;
              }
            ]
        | inr l ↦
            let q = along_gap (hex_row s) ay AY R.step j j' 2 rj rj' (omega (arith, l)) in
            spaced_along s x y x' y' (two_rows (mag s) (mag (hex_row s)) (gap y y') R.tall q)
      ]
    where
      two_rows : (S R Y : ℕ) → S * k3 ≤ H * (2 * R + half) → 2 * (2 * R) ≤ 2 * Y + half → S ≤ Y + tiny
      two_rows S R Y t y = omega (arith, t, y, half_is)

  pub hexagonal : (i j i' j' : ℤ) → Reach i s → Reach j (hex_row s) → Reach i' s → Reach j' (hex_row s) → (i ≡ i' → j ≡ j' → ⊥)
      → Spaced s (across ax (offset (odd j) s) i s) (along ay j (hex_row s)) (across ax (offset (odd j') s) i' s) (along ay j' (hex_row s))
  hexagonal i j i' j' ri rj ri' rj' n = go (order j j')
    where
      go : Order j j' → Spaced s (across ax (offset (odd j) s) i s) (along ay j (hex_row s)) (across ax (offset (odd j') s) i' s) (along ay j' (hex_row s))
      go (same e) =
          subst (λ (k : ℤ).
          Spaced s (across ax (offset (odd j) s) i s) (along ay j (hex_row s)) (across ax (offset (odd k) s) i' s) (along ay k (hex_row s))) e
          (one_row (odd j) i i' (along ay j (hex_row s)) (along ay j (hex_row s)) ri ri' (order i i') (λ (d : i ≡ i'). n d e))
      go (below h) = hex_below i j i' j' ri rj ri' rj' h
      go (above h) =
          spaced_sym s (across ax (offset (odd j') s) i' s) (along ay j' (hex_row s))
          (across ax (offset (odd j) s) i s) (along ay j (hex_row s)) (hex_below i' j' i j ri' rj' ri rj h)
