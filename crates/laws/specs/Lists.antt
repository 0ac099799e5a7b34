-- Lists that definitions are written with: the numbers below n, a rule's values at them, and a list written over the front of another; with their laws.
-- Rests on the kit's laws of lists.
use Rattle.std.specs.Prelude.{◌≡◌, get_or, drop}
use Rattle.std.proofs.Math.Path.{refl, ap}
use Rattle.std.proofs.Common.{◌∙◌, arith, eq-or-lt_of_le, length-drop, drop-cons, ext_get_or}
use Rattle.std.proofs.Math.Logic.{⊎_elim}
use mathlib.Core.List.{List, [], ◌∷◌, ◌++◌, map, append_assoc}
use Prim.Native.Nat.{ℕ, zero, suc, ◌+◌, ◌<◌, ◌≤◌}
use Rattle.std.proofs.Math.Numerals.{add-one}
use Rattle.std.proofs.Math.ListN.{length, set, length-append, get_or-append}
use Rattle.std.proofs.Math.Seq.{set_at}
use Rattle.std.proofs.lemmas.List.{get_or_at}

-- 0..n
unfoldable pub up_to : ℕ → List ℕ
up_to zero = []
up_to (suc n) = up_to n ++ n ∷ []

-- f 0, f 1, .. f (n - 1)
unfoldable pub tabulate : {A : Type 0} → (ℕ → A) → ℕ → List A
tabulate f zero = []
tabulate f (suc n) = tabulate f n ++ f n ∷ []

-- l with xs in place of its first elements
unfoldable pub written : {A : Type 0} → List A → List A → List A
written xs l = xs ++ drop (length xs) l

pub length_up_to : (n : ℕ) → length (up_to n) ≡ n
unfolding up_to
length_up_to zero = refl
length_up_to (suc n) = simp length-append (omega (arith, length_up_to n))

pub up_to_at : (n i d : ℕ) → i < n → get_or (up_to n) i d ≡ i
unfolding up_to
up_to_at zero i d h = absurd (omega arith)
up_to_at (suc n) i d h =
    ⊎_elim (λ (e : i ≡ n). rw e (get_or_at (up_to n) n [] d n (length_up_to n)))
    (λ (l : i < n). get_or-append (up_to n) (n ∷ []) d i (rw length_up_to l) ∙ up_to_at n i d l)
    (eq-or-lt_of_le (omega arith))

module _ {A : Type 0} where
  pub length_tabulate : (f : ℕ → A) (n : ℕ) → length (tabulate f n) ≡ n
  unfolding tabulate
  length_tabulate f zero = refl
  length_tabulate f (suc n) = simp length-append (omega (arith, length_tabulate f n))

  -- the next value, as a loop that counts up asks for it
  pub tabulate_next : (f : ℕ → A) (n : ℕ) → tabulate f (n + 1) ≡ tabulate f n ++ f n ∷ []
  unfolding tabulate
  tabulate_next f n = rw add-one

  pub tabulate_at : (f : ℕ → A) (n i : ℕ) (d : A) → i < n → get_or (tabulate f n) i d ≡ f i
  unfolding tabulate
  tabulate_at f zero i d h = absurd (omega arith)
  tabulate_at f (suc n) i d h =
      ⊎_elim (λ (e : i ≡ n). rw e (get_or_at (tabulate f n) (f n) [] d n (length_tabulate f n)))
      (λ (l : i < n). get_or-append (tabulate f n) (f n ∷ []) d i (rw length_tabulate l) ∙ tabulate_at f n i d l)
      (eq-or-lt_of_le (omega arith))

  -- a list is what a rule gives at each of its indices
  pub tabulated : (f : ℕ → A) (l : List A) (d : A) → ((i : ℕ) → i < length l → f i ≡ get_or l i d) → tabulate f (length l) ≡ l
  tabulated f l d e =
      ext_get_or d (tabulate f (length l)) l (length_tabulate f (length l))
      (λ i h. let k : i < length l = rw length_tabulate at h in tabulate_at f (length l) i d k ∙ e i k)

  pub written_next :
      (xs l : List A) (n : ℕ) (v : A) → length xs ≡ n → n < length l
      → set (written xs l) n v ≡ written (xs ++ v ∷ []) l
  unfolding written
  written_next xs l n v e h =
      let k : length (xs ++ v ∷ []) ≡ suc (length xs) = simp length-append (omega arith) in
      ap (λ (t : List A). set (xs ++ t) n v) (drop-cons l (length xs) v (omega arith))
      ∙ set_at xs (get_or l (length xs) v) (drop (suc (length xs)) l) v n e
      ∙ rw (append_assoc, k)

  pub length_written : (xs l : List A) → length xs ≤ length l → length (written xs l) ≡ length l
  unfolding written
  length_written xs l h = simp (length-append, length-drop) (omega arith)

  -- a turn of a loop that writes a rule's values in order
  pub write_next :
      (f : ℕ → A) (xs l : List A) (n : ℕ) (v : A) → xs ≡ written (tabulate f n) l → v ≡ f n → n < length l
      → set xs n v ≡ written (tabulate f (n + 1)) l
  write_next f xs l n v e h k =
      rw (e, h, tabulate_next f n) (written_next (tabulate f n) l n (f n) (length_tabulate f n) k)

  -- a default is not looked at within the list
  pub get_d_any : (l : List A) (i : ℕ) (d e : A) → i < length l → get_or l i d ≡ get_or l i e
  get_d_any [] i d e h = absurd (omega arith)
  get_d_any (x ∷ xs) zero d e h = refl
  get_d_any (x ∷ xs) (suc i) d e h = get_d_any xs i d e (omega arith)

pub get_d_map : {A B : Type 0} (f : A → B) (l : List A) (i : ℕ) (d : A) (e : B) → i < length l → get_or (map f l) i e ≡ f (get_or l i d)
get_d_map f [] i d e h = absurd (omega arith)
get_d_map f (x ∷ xs) zero d e h = refl
get_d_map f (x ∷ xs) (suc i) d e h = get_d_map f xs i d e (omega arith)

pub map_set : {A B : Type 0} (f : A → B) (l : List A) (i : ℕ) (x : A) → map f (set l i x) ≡ set (map f l) i (f x)
map_set f [] i x = refl
map_set f (y ∷ l) zero x = refl
map_set f (y ∷ l) (suc i) x = rw (map_set f l i x)
