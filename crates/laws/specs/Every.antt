-- What holds of every element of a list, and of any two at different places; kept by parts, joins and sorting.
-- Rests on `sort_by` being made of insertions.
use Rattle.std.specs.Prelude.{Bool, true, false, ◌&&◌, T, take}
use mathlib.Core.List.{List, [], ◌∷◌, ◌++◌, map}
use Prim.Native.Nat.{ℕ, zero, suc, Ordering}
use Rattle.laws.specs.Any.{all}
use Rattle.laws.specs.Sort.{place, insert, sort_by}

module _ {A : Type 0} (P : A → Type 0) where
  abbrev pub Every : List A → Type 0
  Every [] = Unit {0}
  Every (x ∷ xs) = P x × Every xs

  pub every_append : (xs ys : List A) → Every xs → Every ys → Every (xs ++ ys)
  every_append [] ys p q = q
  every_append (x ∷ xs) ys p q = (p.0, every_append xs ys p.1 q)

  pub every_take : (n : ℕ) (xs : List A) → Every xs → Every (take n xs)
  every_take zero [] p = tt
  every_take zero (x ∷ xs) p = tt
  every_take (suc n) [] p = tt
  every_take (suc n) (x ∷ xs) p = (p.0, every_take n xs p.1)

  every_place :
      (cmp : A → A → Ordering) (o : Ordering) (x y : A) (ys into : List A) → P x → P y → Every ys → Every into → Every (place cmp o x y ys into)
  every_place cmp Ordering.lt x y ys into p q r s = (p, (q, r))
  every_place cmp Ordering.eq x y ys into p q r s = (p, (q, r))
  every_place cmp Ordering.gt x y ys into p q r s = (q, s)

  every_insert : (cmp : A → A → Ordering) (x : A) (xs : List A) → P x → Every xs → Every (insert cmp x xs)
  unfolding insert
  every_insert cmp x [] p q = (p, tt)
  every_insert cmp x (y ∷ ys) p q = every_place cmp (cmp x y) x y ys (insert cmp x ys) p q.0 q.1 (every_insert cmp x ys p q.1)

  pub every_sort : (cmp : A → A → Ordering) (xs : List A) → Every xs → Every (sort_by cmp xs)
  unfolding sort_by
  every_sort cmp [] p = tt
  every_sort cmp (x ∷ xs) p = every_insert cmp x (sort_by cmp xs) p.0 (every_sort cmp xs p.1)

pub every_map : {A B : Type 0} (P : B → Type 0) (f : A → B) (xs : List A) → Every (λ (x : A). P (f x)) xs → Every P (map f xs)
every_map P f [] p = tt
every_map P f (x ∷ xs) p = (p.0, every_map P f xs p.1)

pub every_weaken : {A : Type 0} (P Q : A → Type 0) (xs : List A) → ((x : A) → P x → Q x) → Every P xs → Every Q xs
every_weaken P Q [] f p = tt
every_weaken P Q (x ∷ xs) f p = (f x p.0, every_weaken P Q xs f p.1)

-- where a test holds of all
all_split : (a b : Bool) → T (a && b) → T a × T b
all_split true b t = (tt, t)
all_split false b t = absurd t

pub every_all : {A : Type 0} (p : A → Bool) (xs : List A) → T (all p xs) → Every (λ (x : A). T (p x)) xs
unfolding all
every_all p [] t = tt
every_all p (x ∷ xs) t = let s = all_split (p x) (all p xs) t in (s.0, every_all p xs s.1)

-- ---- any two
module _ {A : Type 0} (R : A → A → Type 0) where
  -- each element with all after it
  abbrev pub Pairwise : List A → Type 0
  Pairwise [] = Unit {0}
  Pairwise (x ∷ xs) = Every (R x) xs × Pairwise xs

  pub pairwise_take : (n : ℕ) (xs : List A) → Pairwise xs → Pairwise (take n xs)
  pairwise_take zero [] p = tt
  pairwise_take zero (x ∷ xs) p = tt
  pairwise_take (suc n) [] p = tt
  pairwise_take (suc n) (x ∷ xs) p = (every_take (R x) n xs p.0, pairwise_take n xs p.1)

  pub pairwise_append : (xs ys : List A) → Pairwise xs → Pairwise ys → Every (λ (x : A). Every (R x) ys) xs → Pairwise (xs ++ ys)
  pairwise_append [] ys p q r = q
  pairwise_append (x ∷ xs) ys p q r = (every_append (R x) xs ys p.0 r.0, pairwise_append xs ys p.1 q r.1)

  module _ (both : (x y : A) → R x y → R y x) where
    pairwise_place :
        (cmp : A → A → Ordering) (o : Ordering) (x y : A) (ys : List A) → Every (R x) (y ∷ ys) → Pairwise (y ∷ ys) → Pairwise (insert cmp x ys)
        → Pairwise (place cmp o x y ys (insert cmp x ys))
    pairwise_place cmp Ordering.lt x y ys p q r = (p, q)
    pairwise_place cmp Ordering.eq x y ys p q r = (p, q)
    pairwise_place cmp Ordering.gt x y ys p q r = (every_insert (R y) cmp x ys (both x y p.0) q.0, r)

    pairwise_insert : (cmp : A → A → Ordering) (x : A) (xs : List A) → Every (R x) xs → Pairwise xs → Pairwise (insert cmp x xs)
    unfolding insert
    pairwise_insert cmp x [] p q = (tt, tt)
    pairwise_insert cmp x (y ∷ ys) p q = pairwise_place cmp (cmp x y) x y ys p q (pairwise_insert cmp x ys p.1 q.1)

    pub pairwise_sort : (cmp : A → A → Ordering) (xs : List A) → Pairwise xs → Pairwise (sort_by cmp xs)
    unfolding sort_by
    pairwise_sort cmp [] p = tt
    pairwise_sort cmp (x ∷ xs) p = pairwise_insert cmp x (sort_by cmp xs) (every_sort (R x) cmp xs p.0) (pairwise_sort cmp xs p.1)
