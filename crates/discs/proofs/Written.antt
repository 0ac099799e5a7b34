-- A list written over a part of another, run after run.
-- Rests on the kit's laws of lists.
use Rattle.std.proofs.Common.{
  ◌≡◌,
  ℕ,
  zero,
  suc,
  ◌+◌,
  ◌-◌,
  ◌≤◌,
  List,
  [],
  ◌∷◌,
  ◌++◌,
  length,
  take,
  drop,
  sym,
  refl,
  ap,
  ◌∙◌,
  append_assoc,
  arith,
  length-append,
  length-drop,
  length-take,
  take_all,
  drop-drop,
  take_at,
  drop_at,
}
use lib.Seq.{drop-append-le}
use Rattle.laws.specs.Lists.{written}

-- the part of a list from a place on
pub rest_is : {A : Type 0} (l : List A) (a : ℕ) → take (length l - a) (drop a l) ≡ drop a l
rest_is l a = take_all (length l - a) (drop a l) (simp length-drop (omega arith))

-- l with xs in place of its elements from a on
unfoldable pub written_at : {A : Type 0} → ℕ → List A → List A → List A
written_at a xs l = take a l ++ written xs (drop a l)

module _ {A : Type 0} where
  pub at_start : (xs l : List A) → written xs l ≡ written_at 0 xs l
  unfolding written_at
  at_start xs l = refl

  pub at_end : (a : ℕ) (l : List A) → written_at a [] l ≡ l
  unfolding written_at written
  at_end zero l = refl
  at_end (suc a) [] = refl
  at_end (suc a) (x ∷ l) = ap (λ (t : List A). x ∷ t) (at_end a l)

  -- the first of two runs is written, and what is left of the second stands behind it
  pub at_next :
      (a n : ℕ) (xs ys l : List A) → length xs ≡ n → a + n ≤ length l
      → written_at a (xs ++ ys) l ≡ written_at (a + n) ys (written_at a xs l)
  unfolding written_at written
  at_next a n xs ys l e h =
      let r = drop (length xs) (drop a l) in
      let p : length (take a l ++ xs) ≡ a + n = simp (length-append, length-take) (omega arith) in
      let tail : drop (length (xs ++ ys)) (drop a l) ≡ drop (length ys) r =
      ap (λ (k : ℕ). drop k (drop a l)) (length-append xs ys) ∙ sym (drop-drop (length ys) (length xs) (drop a l)) in
      let q : take (a + n) (take a l ++ (xs ++ r)) ++ (ys ++ drop (length ys) (drop (a + n) (take a l ++ (xs ++ r))))
      ≡ (take a l ++ xs) ++ (ys ++ drop (length ys) r) =
      rw (← append_assoc (take a l) xs r, take_at (take a l ++ xs) r (a + n) p, drop_at (take a l ++ xs) r (a + n) p) in
      let regroup : take a l ++ ((xs ++ ys) ++ drop (length ys) r) ≡ (take a l ++ xs) ++ (ys ++ drop (length ys) r) = simp append_assoc in
      ap (λ (t : List A). take a l ++ ((xs ++ ys) ++ t)) tail ∙ regroup ∙ sym q

  whole : (m : ℕ) (l : List A) → take m l ++ drop m l ≡ l
  whole zero l = refl
  whole (suc m) [] = refl
  whole (suc m) (x ∷ l) = ap (λ (t : List A). x ∷ t) (whole m l)

  -- a part, written by itself
  pub part_written :
      (a m : ℕ) (xs l : List A) → length xs ≤ m → a + m ≤ length l
      → take a l ++ (written xs (take m (drop a l)) ++ drop m (drop a l)) ≡ written_at a xs l
  unfolding written_at written
  part_written a m xs l k h =
      let d = drop a l in
      let j : length xs ≤ length (take m d) = simp (length-take, length-drop) (omega arith) in
      ap (λ (t : List A). take a l ++ t)
      (append_assoc xs (drop (length xs) (take m d)) (drop m d)
      ∙ ap (λ (t : List A). xs ++ t) (sym (drop-append-le (length xs) (take m d) (drop m d) j) ∙ ap (drop (length xs)) (whole m d)))

  -- of two runs the first is written to a part, and the second is left
  pub run_next :
      (a m : ℕ) (xs ys l part : List A) → part ≡ written xs (take m (drop a l)) → length xs ≤ m → a + m ≤ length l
      → written_at a (xs ++ ys) l ≡ written_at (a + length xs) ys (take a l ++ (part ++ drop m (drop a l)))
  run_next a m xs ys l part e k h = rw (e, part_written a m xs l k h) (at_next a (length xs) xs ys l refl (omega arith))

  -- no longer than the slice that it was written to
  pub written_fits : (xs l : List A) → length (written xs l) ≡ length l → length xs ≤ length l
  unfolding written
  written_fits xs l h = omega (arith, simp (length-append, length-drop) at h)
