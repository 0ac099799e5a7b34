-- The numbers of first..=last: each lies between the two, and no two are the same.
-- Rests on a sum of integers being that of their exact values.
use Rattle.std.specs.Prelude.{◌≡◌, Bool, true, false, not, cond, ℕ, zero, suc, ◌-◌, ◌<◌, ◌≤◌, T, ltb, ℤ, negsuc, neg_ℤ, ◌+ℤ◌, ◌-ℤ◌}
use mathlib.Core.List.{List, [], ◌∷◌, map}
use Rattle.std.proofs.Common.{arith, ltb→lt, nltb→le, le→leb}
use Rattle.std.proofs.Math.IntN.{pos, sub_ℕ}
use Rattle.std.specs.Int.Signed.{le_z}
use Rattle.laws.specs.Every.{Every, every_append, every_weaken, Pairwise, pairwise_append}
use Rattle.laws.specs.Lists.{up_to}
use Rattle.rounding.specs.Signed.{nat, opp, ◌⊕◌, ◌≈◌, ◌≼◌}
use Rattle.rounding.specs.Integers.{int}
use Rattle.lattice.specs.Lattice.{many, through}

int_sub : (a b : ℕ) → int (sub_ℕ a b) ≈ record { p = a; n = b }
int_sub a b = go (ltb a b) (ltb→lt a b) (nltb→le a b)
  where
    go : (c : Bool) → (T c → a < b) → (T (not c) → b ≤ a) → int (cond c (negsuc (b - suc a)) (pos (a - b))) ≈ record { p = a; n = b }
    go true l g = let h = l tt in omega arith
    go false l g = let h = g tt in omega arith

int_add : (a b : ℤ) → int (a +ℤ b) ≈ int a ⊕ int b
int_add (pos a) (pos b) = omega arith
int_add (pos a) (negsuc b) = omega (arith, int_sub a (suc b))
int_add (negsuc a) (pos b) = omega (arith, int_sub b (suc a))
int_add (negsuc a) (negsuc b) = omega arith

int_neg : (a : ℤ) → int (neg_ℤ a) ≈ opp (int a)
int_neg (pos zero) = omega arith
int_neg (pos (suc n)) = omega arith
int_neg (negsuc n) = omega arith

-- and back to the order that the machine tests
le_int : (a b : ℤ) → int a ≼ int b → T (le_z a b)
le_int (pos m) (pos n) h = le→leb m n (omega arith)
le_int (pos m) (negsuc n) h = absurd (omega arith)
le_int (negsuc m) (pos n) h = tt
le_int (negsuc m) (negsuc n) h = le→leb n m (omega arith)

-- k numbers on from the first there is still one
room : (z : ℤ) (k : ℕ) → k < many z → nat k ≼ int z
room (pos n) k h = omega arith
room (negsuc n) k h = absurd (omega arith)

pub above_first : (first : ℤ) (k : ℕ) → T (le_z first (first +ℤ pos k))
above_first first k = le_int first (first +ℤ pos k) (omega (arith, int_add first (pos k)))

pub below_last : (first last : ℤ) (k : ℕ) → k < many (last -ℤ first) → T (le_z (first +ℤ pos k) last)
below_last first last k h =
    le_int (first +ℤ pos k) last
    (omega (arith, room (last -ℤ first) k h, int_add first (pos k), int_add last (neg_ℤ first), int_neg first))

pub different : (first : ℤ) (j k : ℕ) → j < k → first +ℤ pos j ≡ first +ℤ pos k → ⊥
different first j k h e =
    let same : int (first +ℤ pos j) ≈ int (first +ℤ pos k) = rw e (omega arith) in
    omega (arith, same, int_add first (pos j), int_add first (pos k))

-- ---- the list
below_all : (n : ℕ) → Every (λ (k : ℕ). k < n) (up_to n)
unfolding up_to
below_all zero = tt
below_all (suc n) =
    every_append (λ (k : ℕ). k < suc n) (up_to n) (n ∷ []) (every_weaken (λ (k : ℕ). k < n) (λ (k : ℕ). k < suc n) (up_to n) (λ k h. omega arith) (below_all n))
    (omega arith, tt)

rising : (n : ℕ) → Pairwise ◌<◌ (up_to n)
unfolding up_to
rising zero = tt
rising (suc n) =
    pairwise_append ◌<◌ (up_to n) (n ∷ []) (rising n) (tt, tt)
    (every_weaken (λ (k : ℕ). k < n) (λ (k : ℕ). Every (◌<◌ k) (n ∷ [])) (up_to n) (λ k h. (h, tt)) (below_all n))

-- what holds of each number between the two, and of any two different ones
module _ (first last : ℤ) where
  pub every_through : (P : ℤ → Type 0) → ((i : ℤ) → T (le_z first i) → T (le_z i last) → P i) → Every P (through first last)
  unfolding through
  every_through P f = go (up_to (many (last -ℤ first))) (below_all (many (last -ℤ first)))
    where
      go : (ks : List ℕ) → Every (λ (k : ℕ). k < many (last -ℤ first)) ks → Every P (map (λ (k : ℕ). first +ℤ pos k) ks)
      go [] h = tt
      go (k ∷ ks) h = (f (first +ℤ pos k) (above_first first k) (below_last first last k h.0), go ks h.1)

  pub pairwise_through :
      (R : ℤ → ℤ → Type 0) → ((i j : ℤ) → T (le_z first i) → T (le_z i last) → T (le_z first j) → T (le_z j last) → (i ≡ j → ⊥) → R i j)
      → Pairwise R (through first last)
  unfolding through
  pairwise_through R f = go (up_to (many (last -ℤ first))) (below_all (many (last -ℤ first))) (rising (many (last -ℤ first)))
    where
      row :
          (k : ℕ) (ks : List ℕ) → k < many (last -ℤ first) → Every (λ (m : ℕ). m < many (last -ℤ first)) ks → Every (◌<◌ k) ks
          → Every (R (first +ℤ pos k)) (map (λ (m : ℕ). first +ℤ pos m) ks)
      row k [] h hs l = tt
      row k (m ∷ ms) h hs l = (
        f (first +ℤ pos k) (first +ℤ pos m) (above_first first k) (below_last first last k h) (above_first first m) (below_last first last m hs.0)
            (different first k m l.0),
        row k ms h hs.1 l.1,
      )

      go : (ks : List ℕ) → Every (λ (k : ℕ). k < many (last -ℤ first)) ks → Pairwise ◌<◌ ks → Pairwise R (map (λ (k : ℕ). first +ℤ pos k) ks)
      go [] h p = tt
      go (k ∷ ks) h p = (row k ks h.0 h.1 p.0, go ks h.1 p.1)
