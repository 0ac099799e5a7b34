-- Marks as a list of their coordinates, x and y in turn: the points of such a list, the list of points, whether a place keeps a
-- distance from one, and from how many it does not. The laws let code go between the two. Rests on the kit's laws of lists.
use Rattle.std.specs.Prelude.{◌≡◌, ℕ, zero, suc, ◌+◌, ◌*◌, ◌/◌, ◌<◌, ◌≤◌, Bool, not, ◌&&◌, refl, Float}
use Rattle.std.specs.Prelude.{List, [], ◌∷◌, length, take, drop, slice_index_or, slice_set}
use Rattle.std.proofs.Common.{sym, ap, ◌∙◌, arith, add-one, length-set, length-take-le, take-take, drop-drop}
use Rattle.std.proofs.lemmas.List.{drop-take}
use Rattle.std.proofs.Math.Bool.{and_assoc}
use Rattle.std.proofs.Math.ListN.{drop_of_length-le}
use Rattle.std.proofs.Math.Seq.{take-nil, drop-nil, drop-cons}
use Rattle.std.specs.Float.{nan}
use Rattle.std.specs.Simd.{first_chunks}
use mir.Val.{bool_byte}
use Rattle.laws.specs.Any.{all}
use Rattle.laws.specs.Blocks.{all_block}
use Rattle.float.specs.Ops.{◌+ᶠ◌, ◌-ᶠ◌, ◌*ᶠ◌, ◌≥ᶠ◌}
use Rattle.glyphs.specs.declared.rect.Point.{Point}

unfoldable pub spot_at : List Float → ℕ → Point
spot_at l i = record { x = slice_index_or l (i * 2) nan; y = slice_index_or l (i * 2 + 1) nan }

unfoldable pub put_spot : List Float → ℕ → Point → List Float
put_spot l i p = slice_set (slice_set l (i * 2) p.x) (i * 2 + 1) p.y

-- the points whose coordinates a list holds
unfoldable pub spots_of : List Float → List Point
spots_of [] = []
spots_of (x ∷ []) = []
spots_of (x ∷ y ∷ l) = record { x = x; y = y } ∷ spots_of l

unfoldable pub flat : List Point → List Float
flat [] = []
flat (p ∷ ps) = p.x ∷ p.y ∷ flat ps

-- (p.x() - q.x()).powi(2) + (p.y() - q.y()).powi(2)
abbrev pub squared_distance : Point → Point → Float
squared_distance p q = (p.x -ᶠ q.x) *ᶠ (p.x -ᶠ q.x) +ᶠ (p.y -ᶠ q.y) *ᶠ (p.y -ᶠ q.y)

unfoldable pub apart : Point → Float → Point → Bool
apart p least q = squared_distance p q ≥ᶠ least

-- how many of the points are nearer than that
unfoldable pub near_count : Point → Float → List Point → ℕ
near_count p least [] = 0
near_count p least (q ∷ qs) = bool_byte (not (apart p least q)) + near_count p least qs

-- ---- laws

twice : (i : ℕ) → suc i * 2 ≡ suc (suc (i * 2))
twice i = omega arith

after : (i : ℕ) → suc (suc i) + 1 ≡ suc (suc (i + 1))
after i = omega arith

pub length_spots : (l : List Float) → length (spots_of l) ≡ length l / 2
unfolding spots_of
length_spots [] = refl
length_spots (x ∷ []) = refl
length_spots (x ∷ y ∷ l) = omega (arith, length_spots l)

pub length_flat : (ps : List Point) → length (flat ps) ≡ length ps * 2
unfolding flat
length_flat [] = refl
length_flat (p ∷ ps) = omega (arith, length_flat ps)

pub spots_flat : (ps : List Point) → spots_of (flat ps) ≡ ps
unfolding spots_of flat
spots_flat [] = refl
spots_flat (p ∷ ps) = ap (λ (t : List Point). p ∷ t) (spots_flat ps)

pub flat_spots : (l : List Float) (n : ℕ) → length l ≡ n * 2 → flat (spots_of l) ≡ l
unfolding spots_of flat
flat_spots [] n h = refl
flat_spots (x ∷ []) zero h = absurd (omega arith)
flat_spots (x ∷ []) (suc n) h = absurd (omega arith)
flat_spots (x ∷ y ∷ l) zero h = absurd (omega arith)
flat_spots (x ∷ y ∷ l) (suc n) h = ap (λ (t : List Float). x ∷ y ∷ t) (flat_spots l n (omega arith))

pub spots_at_lem : (l : List Float) (i : ℕ) (d : Point) → i < length l / 2 → slice_index_or (spots_of l) i d ≡ spot_at l i
unfolding spots_of spot_at
spots_at_lem [] i d h = absurd (omega arith)
spots_at_lem (x ∷ []) i d h = absurd (omega arith)
spots_at_lem (x ∷ y ∷ l) zero d h = refl
spots_at_lem (x ∷ y ∷ l) (suc i) d h = rw (twice, after) (spots_at_lem l i d (omega arith))

pub spots_put : (l : List Float) (i : ℕ) (p : Point) → i < length l / 2 → spots_of (put_spot l i p) ≡ slice_set (spots_of l) i p
unfolding spots_of put_spot
spots_put [] i p h = absurd (omega arith)
spots_put (x ∷ []) i p h = absurd (omega arith)
spots_put (x ∷ y ∷ l) zero p h = refl
spots_put (x ∷ y ∷ l) (suc i) p h =
    rw (twice, after) (ap (λ (t : List Point). record { x = x; y = y } ∷ t) (spots_put l i p (omega arith)))

pub length_put : (l : List Float) (i : ℕ) (p : Point) → length (put_spot l i p) ≡ length l
unfolding put_spot
length_put l i p = simp length-set

-- the points before the i-th, and those from the i-th on
pub spots_take : (i : ℕ) (l : List Float) → spots_of (take (i * 2) l) ≡ take i (spots_of l)
unfolding spots_of
spots_take zero l = refl
spots_take (suc i) [] = rw (take-nil, take-nil)
spots_take (suc i) (x ∷ []) = rw (twice, take-nil)
spots_take (suc i) (x ∷ y ∷ l) = rw twice (ap (λ (t : List Point). record { x = x; y = y } ∷ t) (spots_take i l))

pub spots_drop : (i : ℕ) (l : List Float) → spots_of (drop (i * 2) l) ≡ drop i (spots_of l)
unfolding spots_of
spots_drop zero l = refl
spots_drop (suc i) [] = rw (drop-nil, drop-nil)
spots_drop (suc i) (x ∷ []) = rw (twice, drop-nil)
spots_drop (suc i) (x ∷ y ∷ l) = rw twice (spots_drop i l)

-- a test of each of a list's points, where its first blocks of eight are cut off
module _ (test : Point → Bool) where
  abbrev pub all_of : List Float → Bool
  all_of l = all test (spots_of l)

  pub all_cut : (k : ℕ) (l : List Float) → all_of l ≡ all all_of (first_chunks 16 k l) && all_of (drop (k * 16) l)
  unfolding all
  all_cut zero l = refl
  all_cut (suc k) l =
      let step : suc k * 16 ≡ 16 + k * 16 = omega arith in
      all_block test 8 0 (spots_of l)
      ∙ rw (step, ← drop-drop (k * 16) 16 l, ← spots_take 8 l, ← spots_drop 8 l, all_cut k (drop 16 l))
      (sym (and_assoc (all_of (take 16 l)) (all all_of (first_chunks 16 k (drop 16 l))) (all_of (drop (k * 16) (drop 16 l)))))

  -- the same, where the front is cut off before it is cut into blocks
  pub all_parts :
      (k : ℕ) (l : List Float) → k * 16 ≤ length l
      → all_of l ≡ all all_of (first_chunks 16 (length (take (k * 16) l) / 16) (take (k * 16) l)) && all_of (drop (k * 16) l)
  all_parts k l h =
      let n : length (take (k * 16) l) / 16 ≡ k = rw (length-take-le (k * 16) l h) (omega arith) in
      rw (n, first_of_front k l) (all_cut k l)
    where
      first_of_front : (k : ℕ) (l : List Float) → first_chunks 16 k (take (k * 16) l) ≡ first_chunks 16 k l
      first_of_front zero l = refl
      first_of_front (suc k) l =
          let step : suc k * 16 ≡ 16 + k * 16 = omega arith in
          rw (step, take-take 16 (16 + k * 16) l (omega arith), drop-take 16 (k * 16) l, first_of_front k (drop 16 l)) refl

-- the count over what is left, for a loop that counts up
module _ (p : Point) (least : Float) (l : List Point) (i : ℕ) where
  pub near_step :
      (d : Point) → i < length l
      → near_count p least (drop i l) ≡ bool_byte (not (apart p least (slice_index_or l i d))) + near_count p least (drop (i + 1) l)
  unfolding near_count
  near_step d h = rw (add-one, drop-cons l i d)

  pub near_end : length l ≤ i → near_count p least (drop i l) ≡ 0
  unfolding near_count
  near_end h = rw drop_of_length-le
