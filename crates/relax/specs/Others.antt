-- Of the other marks: the spacing test by a count of those too near, the pushes of those near enough alone, and an acceptance's
-- tests in another order.
-- Rests on the definitions and the laws of `all`.
use Rattle.std.specs.Prelude.{◌≡◌, Bool, not, cond, Some, None, ◌&&◌, ◌||◌, length, get_or, take, drop, set, Float}
use Rattle.std.specs.Simd.{first_chunks}
use Rattle.std.proofs.Math.Path.{refl, sym}
use Rattle.std.proofs.Common.{◌∙◌, add-one, drop-drop, le_refl, length-set, get_or-set_same}
use Rattle.std.proofs.Math.Bool.{true, false, and_assoc, or-true}
use mathlib.Core.List.{List, [], ◌∷◌, foldl}
use Prim.Native.Nat.{ℕ, zero, suc, ◌+◌, ◌*◌, ◌<◌}
use native.Mathlib.Omega.{arith}
use Rattle.std.proofs.Math.Nat.{zero-add, zero-mul}
use Rattle.std.proofs.Math.Dec.{eqb}
use Rattle.std.proofs.lemmas.List.{take-set-le}
use mir.Val.{bool_byte}
use borrow.Author.Tests.{eq-eqb, ne_eqb, not-true, not-false}
use Rattle.laws.specs.Any.{all}
use Rattle.laws.specs.Truth.{both_true}
use Rattle.laws.specs.Blocks.{fold_block, fold_next}
use Rattle.float.specs.Ops.{◌+ᶠ◌, ◌-ᶠ◌, ◌*ᶠ◌, ◌/ᶠ◌, ◌<ᶠ◌, ◌≤ᶠ◌, ◌≥ᶠ◌, 0ᶠ}
use Rattle.float.specs.Order.{sqrt}
use Rattle.glyphs.specs.declared.rect.Point.{Point}
use Rattle.glyphs.specs.declared.rect.Rectangle.{Rectangle}
use Rattle.glyphs.specs.Rect.{clear_of_obstacles}
use Rattle.glyphs.specs.Spots.{squared_distance, apart, near_count, spot_at, spots_of, spots_take, spots_drop}
use Rattle.regions.specs.Ring.{Piece}
use Rattle.regions.specs.Clearance.{signed_clearance}
use Rattle.regions.specs.Margins.{margin_of, least_of_margin}
use Rattle.regions.specs.Unrooted.{rooted}
use Rattle.regions.specs.declared.margin.Margin.{Margin}
use Rattle.relax.specs.declared.push.Force.{Force}
use Rattle.relax.specs.declared.distances.Distances.{Distances}
use Rattle.relax.specs.Field.{push_of, pushes, clear_of_others, accepts}

-- ---- the spacing test

module _ (p : Point) (least : Float) where
  clear_past : (i j : ℕ) (qs : List Point) → i < j → clear_of_others p least i j qs ≡ all (apart p least) qs
  unfolding clear_of_others all
  clear_past i j [] h = refl
  clear_past i j (q ∷ qs) h = rw (ne_eqb j i (λ e. omega arith), clear_past i (j + 1) qs (omega arith))

  clear_from :
      (m i j : ℕ) (qs : List Point) → i ≡ j + m → m < length qs
      → clear_of_others p least i j qs ≡ all (apart p least) (take m qs) && all (apart p least) (drop (suc m) qs)
  unfolding clear_of_others all
  clear_from m i j [] e h = absurd (omega arith)
  clear_from zero i j (q ∷ qs) e h = rw (eq-eqb j i (omega arith), clear_past i (j + 1) qs (omega arith))
  clear_from (suc m) i j (q ∷ qs) e h =
      rw (ne_eqb j i (λ d. omega arith), clear_from m i (j + 1) qs (omega arith) (omega arith)) (sym (and_assoc (apart p least q) _ _))

pub clear_others :
    (p : Point) (least : Float) (i : ℕ) (points : List Point) → i < length points
    → clear_of_others p least i 0 points ≡ all (apart p least) (take i points) && all (apart p least) (drop (i + 1) points)
clear_others p least i points h = clear_from p least i i 0 points (omega arith) h ∙ rw add-one

-- a sum is one of its parts where the others are 0
own_alone : (before own after : ℕ) → eqb before 0 && eqb after 0 ≡ eqb (before + (own + after)) own
own_alone zero own zero = sym (eq-eqb (0 + (own + 0)) own (omega arith))
own_alone zero own (suc after) = rw (ne_eqb (suc after) 0 (λ e. omega arith), ne_eqb (0 + (own + suc after)) own (λ e. omega arith))
own_alone (suc before) own after = rw (ne_eqb (suc before) 0 (λ e. omega arith), ne_eqb (suc before + (own + after)) own (λ e. omega arith))

module _ (p : Point) (least : Float) where
  none_near : (qs : List Point) → all (apart p least) qs ≡ eqb (near_count p least qs) 0
  unfolding all near_count
  none_near [] = refl
  none_near (q ∷ qs) = go (apart p least q) (none_near qs)
    where
      go :
          (b : Bool) → all (apart p least) qs ≡ eqb (near_count p least qs) 0
          → b && all (apart p least) qs ≡ eqb (bool_byte (not b) + near_count p least qs) 0
      go true e = rw zero-add e
      go false e = sym (ne_eqb (1 + near_count p least qs) 0 (λ z. omega arith))

  -- the marks before mark i, it, and those after it
  near_parts :
      (i : ℕ) (qs : List Point) (d : Point) → i < length qs
      → near_count p least qs
      ≡ near_count p least (take i qs) + (bool_byte (not (apart p least (get_or qs i d))) + near_count p least (drop (suc i) qs))
  unfolding near_count
  near_parts i [] d h = absurd (omega arith)
  near_parts zero (q ∷ qs) d h = sym (zero-add _)
  near_parts (suc i) (q ∷ qs) d h = omega (arith, near_parts i qs d (omega arith))

  -- no other mark is too near where no more are than mark i alone
  pub clear_counted :
      (i : ℕ) (points : List Point) (d : Point) → i < length points
      → clear_of_others p least i 0 points ≡ eqb (near_count p least points) (bool_byte (not (apart p least (get_or points i d))))
  clear_counted i points d h =
      clear_others p least i points h
      ∙ rw (none_near (take i points), none_near, add-one, near_parts i points d h)
      (own_alone (near_count p least (take i points)) (bool_byte (not (apart p least (get_or points i d)))) (near_count p least (drop (suc i) points)))

-- ---- the pushes

-- a push in parts, for the code: whether a squared distance is one at which q pushes
abbrev pub reaches : Float → Float → Bool
reaches influence d2 = not (d2 ≤ᶠ 0ᶠ || d2 ≥ᶠ influence *ᶠ influence)

module _ (influence : Float) (p : Point) where
  push_past : (i j : ℕ) (qs : List Point) (f : Force) → i < j → pushes influence i p j qs f ≡ foldl (push_of influence p) f qs
  unfolding pushes
  push_past i j [] f h = refl
  push_past i j (q ∷ qs) f h = rw (ne_eqb j i (λ e. omega arith)) (push_past i (j + 1) qs _ (omega arith))

  push_from :
      (m i j : ℕ) (qs : List Point) (f : Force) → i ≡ j + m → m < length qs
      → pushes influence i p j qs f ≡ foldl (push_of influence p) (foldl (push_of influence p) f (take m qs)) (drop (suc m) qs)
  unfolding pushes
  push_from m i j [] f e h = absurd (omega arith)
  push_from zero i j (q ∷ qs) f e h = rw (eq-eqb j i (omega arith)) (push_past i (j + 1) qs f (omega arith))
  push_from (suc m) i j (q ∷ qs) f e h = rw (ne_eqb j i (λ d. omega arith)) (push_from m i (j + 1) qs (push_of influence p f q) (omega arith) (omega arith))

  pub push_others :
      (i : ℕ) (points : List Point) (f : Force) → i < length points
      → pushes influence i p 0 points f
      ≡ foldl (push_of influence p) (foldl (push_of influence p) f (take i points)) (drop (i + 1) points)
  push_others i points f h = push_from i i 0 points f (omega arith) h ∙ rw add-one

  pub reached :
      (f : Force) (q : Point) (d : Float) → reaches influence (squared_distance p q) ≡ true → d ≡ sqrt (squared_distance p q)
      → let w = (influence -ᶠ d) /ᶠ influence in
      record { x = f.x +ᶠ w *ᶠ (p.x -ᶠ q.x) /ᶠ d; y = f.y +ᶠ w *ᶠ (p.y -ᶠ q.y) /ᶠ d } ≡ push_of influence p f q
  unfolding push_of
  reached f q d h e =
      let d2 = squared_distance p q in
      rw (e, not-true (d2 ≤ᶠ 0ᶠ || d2 ≥ᶠ influence *ᶠ influence) h)

  pub unreached : (f : Force) (q : Point) → reaches influence (squared_distance p q) ≡ false → f ≡ push_of influence p f q
  unfolding push_of
  unreached f q h =
      let d2 = squared_distance p q in
      rw (not-false (d2 ≤ᶠ 0ᶠ || d2 ≥ᶠ influence *ᶠ influence) h)

  far : (q : Point) (f : Force) → apart p (influence *ᶠ influence) q ≡ true → push_of influence p f q ≡ f
  unfolding apart push_of
  far q f h = rw (h, or-true)

  -- none of the marks is near enough
  pub far_all : (qs : List Point) (f : Force) → all (apart p (influence *ᶠ influence)) qs ≡ true → foldl (push_of influence p) f qs ≡ f
  unfolding all
  far_all [] f h = refl
  far_all (q ∷ qs) f h =
      let e = both_true (apart p (influence *ᶠ influence) q) (all (apart p (influence *ᶠ influence)) qs) h in
      rw (far q f e.0) (far_all qs f e.1)

  -- the pushes of the marks of a block, and those of a list whose first blocks are cut off
  abbrev pub block_pushes : Force → List Float → Force
  block_pushes f block = foldl (push_of influence p) f (spots_of block)

  pub pushes_cut :
      (n : ℕ) (f : Force) (k : ℕ) (l : List Float)
      → foldl (push_of influence p) f (spots_of l)
      ≡ foldl (push_of influence p) (foldl block_pushes f (first_chunks (n * 2) k l)) (spots_of (drop (k * (n * 2)) l))
  pushes_cut n f zero l = rw zero-mul
  pushes_cut n f (suc k) l =
      let step : suc k * (n * 2) ≡ n * 2 + k * (n * 2) = omega arith in
      fold_block (push_of influence p) f n 0 (spots_of l)
      ∙ rw (zero-add, step, ← drop-drop (k * (n * 2)) (n * 2) l, ← spots_take n l, ← spots_drop n l)
      (pushes_cut n (block_pushes f (take (n * 2) l)) k (drop (n * 2) l))

  -- the pushes of the two marks of a block, and of the one mark before a coordinate or none
  pub pair_pushes :
      (f : Force) (l : List Float) → length l ≡ 4
      → block_pushes f l ≡ push_of influence p (push_of influence p f (spot_at l 0)) (spot_at l 1)
  unfolding spots_of spot_at
  pair_pushes f [] h = absurd (omega arith)
  pair_pushes f (a ∷ []) h = absurd (omega arith)
  pair_pushes f (a ∷ b ∷ []) h = absurd (omega arith)
  pair_pushes f (a ∷ b ∷ c ∷ []) h = absurd (omega arith)
  pair_pushes f (a ∷ b ∷ c ∷ d ∷ []) h = refl
  pair_pushes f (a ∷ b ∷ c ∷ d ∷ e ∷ l) h = absurd (omega arith)

  pub last_push : (f : Force) (l : List Float) → 1 < length l → length l < 4 → block_pushes f l ≡ push_of influence p f (spot_at l 0)
  unfolding spots_of spot_at
  last_push f [] h n = absurd (omega arith)
  last_push f (a ∷ []) h n = absurd (omega arith)
  last_push f (a ∷ b ∷ []) h n = refl
  last_push f (a ∷ b ∷ c ∷ []) h n = refl
  last_push f (a ∷ b ∷ c ∷ d ∷ l) h n = absurd (omega arith)

  pub no_push : (f : Force) (l : List Float) → length l < 2 → block_pushes f l ≡ f
  unfolding spots_of
  no_push f [] h = refl
  no_push f (a ∷ []) h = refl
  no_push f (a ∷ b ∷ l) h = absurd (omega arith)

  -- a mark written behind the m of a list, and counted if it is near enough
  pub gathered :
      (near : List Point) (m : ℕ) (q : Point) (f : Force) → m < length near
      → foldl (push_of influence p) f (take (m + bool_byte (not (apart p (influence *ᶠ influence) q))) (set near m q))
      ≡ push_of influence p (foldl (push_of influence p) f (take m near)) q
  gathered near m q f h = go (apart p (influence *ᶠ influence) q) refl
    where
      go :
          (b : Bool) → apart p (influence *ᶠ influence) q ≡ b
          → foldl (push_of influence p) f (take (m + bool_byte (not b)) (set near m q))
          ≡ push_of influence p (foldl (push_of influence p) f (take m near)) q
      go true e =
          let z : m + 0 ≡ m = omega arith in
          rw (z, take-set-le m near m q (le_refl m)) (sym (far q (foldl (push_of influence p) f (take m near)) e))
      go false e =
          let l : m < length (set near m q) = simp length-set h in
          fold_next (push_of influence p) f (set near m q) m q l ∙ rw (take-set-le m near m q (le_refl m), get_or-set_same near m q q h)

-- ---- the tests of an acceptance, in another order

reordered : {A : Type 0} (a b c : Bool) (v r : A) → cond a r (cond b r (cond c v r)) ≡ cond c (cond (not b) (cond a r v) r) r
reordered true true true v r = refl
reordered true true false v r = refl
reordered true false true v r = refl
reordered true false false v r = refl
reordered false true true v r = refl
reordered false true false v r = refl
reordered false false true v r = refl
reordered false false false v r = refl

pub accepts_reordered :
    (field : Distances) (piece : Piece) (obstacles : List Rectangle) (candidate : Point) (i : ℕ) (points : List Point) (honoring : Bool)
    → accepts field piece obstacles candidate i points honoring
    ≡ cond (clear_of_others candidate (field.spacing *ᶠ field.spacing) i 0 points)
    (cond (not (honoring && not (clear_of_obstacles candidate.x candidate.y obstacles field.inset)))
    (cond (signed_clearance candidate.x candidate.y piece <ᶠ field.inset) None (Some (signed_clearance candidate.x candidate.y piece)))
    None)
    None
unfolding accepts
accepts_reordered field piece obstacles candidate i points honoring =
    reordered (signed_clearance candidate.x candidate.y piece <ᶠ field.inset)
    (honoring && not (clear_of_obstacles candidate.x candidate.y obstacles field.inset))
    (clear_of_others candidate (field.spacing *ᶠ field.spacing) i 0 points)
    (Some (signed_clearance candidate.x candidate.y piece))
    None

-- ---- a clearance whose root is not taken, compared with a margin's
pub below_margin : (m : Margin) (c u : Float) → m ≡ margin_of c → rooted u <ᶠ m.least ≡ rooted u <ᶠ c
below_margin m c u e = rw (least_of_margin m c e)
