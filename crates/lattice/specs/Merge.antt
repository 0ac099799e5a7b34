-- Elements put one by one into a list kept in order: where those come in order too, which element is the last; and that they may be put in order first.
-- Rests on the order being linear.
use Rattle.std.specs.Prelude.{◌≡◌, ℕ, ◌+◌, true, false, List, [], ◌∷◌, ◌++◌, length, take}
use Rattle.std.proofs.Math.Path.{refl, ap}
use Rattle.std.proofs.Common.{sym, ◌∙◌, append_assoc, append-nil}
use Prim.Native.Nat.{Ordering}
use native.Mathlib.Omega.{arith}
use Rattle.laws.specs.Bounded.{behind, insert_behind, length_behind, take_behind, behind_ascending, sort_last}
use Rattle.laws.specs.Every.{Every}
use Rattle.laws.specs.Orders.{Linear, reverse, is_lt, level_right}
use Rattle.laws.specs.Sort.{place, insert, sort_by}
use Rattle.laws.specs.Sorted.{NotGt, None-below, Ascending, sort_ascending}

module _ {A : Type 0} (cmp : A → A → Ordering) where
  -- each in turn behind those that it is not before
  unfoldable pub inserted : List A → List A → List A
  inserted l [] = l
  inserted l (p ∷ ps) = inserted (insert_behind cmp p l) ps

  pub inserted_none : (l : List A) → inserted l [] ≡ l
  unfolding inserted
  inserted_none l = refl

  pub length_inserted : (l ps : List A) → length (inserted l ps) ≡ length l + length ps
  unfolding inserted
  length_inserted l [] = omega arith
  length_inserted l (p ∷ ps) = omega (arith, length_inserted (insert_behind cmp p l) ps, length_behind cmp p l)

  inserted_next : (l ps : List A) (p : A) → inserted l (ps ++ p ∷ []) ≡ insert_behind cmp p (inserted l ps)
  unfolding inserted
  inserted_next l [] p = refl
  inserted_next l (q ∷ ps) p = inserted_next (insert_behind cmp q l) ps p

  -- ---- an element that all others are before stays the last
  abbrev Before : A → A → Type 0
  Before x p = cmp p x ≡ Ordering.lt

  behind_front : (x p : A) (l : List A) → Before x p → insert_behind cmp p (l ++ x ∷ []) ≡ insert_behind cmp p l ++ x ∷ []
  unfolding insert_behind
  behind_front x p [] e = rw e
  behind_front x p (y ∷ ys) e = into (cmp p y) (insert_behind cmp p (ys ++ x ∷ [])) (insert_behind cmp p ys) (behind_front x p ys e)
    where
      into : (o : Ordering) (s t : List A) → s ≡ t ++ x ∷ [] → behind cmp o p y (ys ++ x ∷ []) s ≡ behind cmp o p y ys t ++ x ∷ []
      into Ordering.lt s t h = refl
      into Ordering.eq s t h = ap (λ (r : List A). y ∷ r) h
      into Ordering.gt s t h = ap (λ (r : List A). y ∷ r) h

  inserted_front : (x : A) (l ps : List A) → Every (Before x) ps → inserted (l ++ x ∷ []) ps ≡ inserted l ps ++ x ∷ []
  unfolding inserted
  inserted_front x l [] b = refl
  inserted_front x l (p ∷ ps) b = rw (behind_front x p l b.0) (inserted_front x (insert_behind cmp p l) ps b.1)

  -- ---- one that is not before any other goes to the end
  abbrev NotBefore : A → A → Type 0
  NotBefore y z = is_lt (cmp y z) ≡ false

  behind_last : (y : A) (l : List A) → Every (NotBefore y) l → insert_behind cmp y l ≡ l ++ y ∷ []
  unfolding insert_behind
  behind_last y [] b = refl
  behind_last y (z ∷ zs) b = into (cmp y z) b.0 (insert_behind cmp y zs) (behind_last y zs b.1)
    where
      into : (o : Ordering) → is_lt o ≡ false → (t : List A) → t ≡ zs ++ y ∷ [] → behind cmp o y z zs t ≡ z ∷ zs ++ y ∷ []
      into Ordering.lt f t h = let w : true ≡ false = f in cc
      into Ordering.eq f t h = ap (λ (r : List A). z ∷ r) h
      into Ordering.gt f t h = ap (λ (r : List A). z ∷ r) h

  every_behind : (P : A → Type 0) (x : A) (l : List A) → P x → Every P l → Every P (insert_behind cmp x l)
  unfolding insert_behind
  every_behind P x [] p b = (p, tt)
  every_behind P x (y ∷ ys) p b = into (cmp x y) (insert_behind cmp x ys) (every_behind P x ys p b.1)
    where
      into : (o : Ordering) (t : List A) → Every P t → Every P (behind cmp o x y ys t)
      into Ordering.lt t h = (p, b)
      into Ordering.eq t h = (b.0, h)
      into Ordering.gt t h = (b.0, h)

  every_inserted : (P : A → Type 0) (l ps : List A) → Every P l → Every P ps → Every P (inserted l ps)
  unfolding inserted
  every_inserted P l [] b c = b
  every_inserted P l (p ∷ ps) b c = every_inserted P (insert_behind cmp p l) ps (every_behind P p l c.0 b) c.1

  module _ (l : Linear cmp) where
    below_last : (z y : A) (ys : List A) → None-below cmp z (ys ++ y ∷ []) → NotGt (cmp z y)
    below_last z y [] b = b.0
    below_last z y (x ∷ xs) b = below_last z y xs b.1

    then_before : (z y x : A) (o : Ordering) → cmp z y ≡ o → NotGt o → cmp y x ≡ Ordering.lt → cmp z x ≡ Ordering.lt
    then_before z y x Ordering.lt e n f = l.below z y x e f
    then_before z y x Ordering.eq e n f = l.level z y x e ∙ f
    then_before z y x Ordering.gt e n f = absurd n

    all_before : (x y : A) (ps : List A) → Ascending cmp (ps ++ y ∷ []) → cmp y x ≡ Ordering.lt → Every (Before x) (ps ++ y ∷ [])
    all_before x y [] a e = (e, tt)
    all_before x y (z ∷ zs) a e = (then_before z y x (cmp z y) refl (below_last z y zs a.0) e, all_before x y zs a.1 e)

    lt_of : (o : Ordering) → is_lt o ≡ true → o ≡ Ordering.lt
    lt_of Ordering.lt e = refl
    lt_of Ordering.eq e = let w : false ≡ true = e in cc
    lt_of Ordering.gt e = let w : false ≡ true = e in cc

    -- the last of what comes is before the last of what is there: that one stays the last
    pub last_old :
        (xs ps : List A) (x y : A) → Ascending cmp (ps ++ y ∷ []) → is_lt (cmp y x) ≡ true
        → inserted (xs ++ x ∷ []) (ps ++ y ∷ []) ≡ inserted xs (ps ++ y ∷ []) ++ x ∷ []
    last_old xs ps x y a e = inserted_front x xs (ps ++ y ∷ []) (all_before x y ps a (lt_of (cmp y x) e))

    earlier : (y x z : A) (o : Ordering) → cmp y z ≡ o → NotGt (cmp z x) → is_lt (cmp y x) ≡ false → is_lt o ≡ false
    earlier y x z Ordering.lt e n f = let w : is_lt (cmp y x) ≡ true = later (cmp z x) refl n in cc
      where
        later : (u : Ordering) → cmp z x ≡ u → NotGt u → is_lt (cmp y x) ≡ true
        later Ordering.lt g m = rw (l.below y z x e g)
        later Ordering.eq g m = rw (← level_right l y z x g, e)
        later Ordering.gt g m = absurd m
    earlier y x z Ordering.eq e n f = refl
    earlier y x z Ordering.gt e n f = refl

    none_after : (x y : A) (xs : List A) → Ascending cmp (xs ++ x ∷ []) → is_lt (cmp y x) ≡ false → Every (NotBefore y) (xs ++ x ∷ [])
    none_after x y [] a e = (e, tt)
    none_after x y (z ∷ zs) a e = (earlier y x z (cmp y z) refl (below_last z x zs a.0) e, none_after x y zs a.1 e)

    not_lt : (o : Ordering) → NotGt o → is_lt (reverse o) ≡ false
    not_lt Ordering.lt n = refl
    not_lt Ordering.eq n = refl
    not_lt Ordering.gt n = absurd n

    front_after : (y : A) (ps : List A) → Ascending cmp (ps ++ y ∷ []) → Every (NotBefore y) ps
    front_after y [] a = tt
    front_after y (z ∷ zs) a = (rw (l.turned z y) (not_lt (cmp z y) (below_last z y zs a.0)), front_after y zs a.1)

    goes_last : (xs ps : List A) (y : A) → Ascending cmp (ps ++ y ∷ []) → Every (NotBefore y) xs → inserted xs (ps ++ y ∷ []) ≡ inserted xs ps ++ y ∷ []
    goes_last xs ps y a b = inserted_next xs ps y ∙ behind_last y (inserted xs ps) (every_inserted (NotBefore y) xs ps b (front_after y ps a))

    -- and where it is not, or there is none, it becomes the last itself
    pub last_new :
        (xs ps : List A) (x y : A) → Ascending cmp (xs ++ x ∷ []) → Ascending cmp (ps ++ y ∷ []) → is_lt (cmp y x) ≡ false
        → inserted (xs ++ x ∷ []) (ps ++ y ∷ []) ≡ inserted (xs ++ x ∷ []) ps ++ y ∷ []
    last_new xs ps x y a b e = goes_last (xs ++ x ∷ []) ps y b (none_after x y xs a e)

    pub last_only : (ps : List A) (y : A) → Ascending cmp (ps ++ y ∷ []) → inserted [] (ps ++ y ∷ []) ≡ inserted [] ps ++ y ∷ []
    last_only ps y b = goes_last [] ps y b tt

    pub inserted_ascending : (xs ps : List A) → Ascending cmp xs → Ascending cmp (inserted xs ps)
    unfolding inserted
    inserted_ascending xs [] a = a
    inserted_ascending xs (p ∷ ps) a = inserted_ascending (insert_behind cmp p xs) ps (behind_ascending cmp l p xs a)

    -- ---- what comes is put in order first
    insert_front : (x : A) (xs : List A) → None-below cmp x xs → insert cmp x xs ≡ x ∷ xs
    unfolding insert
    insert_front x [] b = refl
    insert_front x (y ∷ ys) b = into (cmp x y) b.0
      where
        into : (o : Ordering) → NotGt o → place cmp o x y ys (insert cmp x ys) ≡ x ∷ y ∷ ys
        into Ordering.lt n = refl
        into Ordering.eq n = refl
        into Ordering.gt n = absurd n

    sort_same : (xs : List A) → Ascending cmp xs → sort_by cmp xs ≡ xs
    unfolding sort_by
    sort_same [] a = refl
    sort_same (x ∷ xs) a = rw (sort_same xs a.1) (insert_front x xs a.0)

    sort_second : (xs ps : List A) → sort_by cmp (xs ++ sort_by cmp ps) ≡ sort_by cmp (xs ++ ps)
    unfolding sort_by
    sort_second [] ps = sort_same (sort_by cmp ps) (sort_ascending cmp l ps)
    sort_second (x ∷ xs) ps = ap (insert cmp x) (sort_second xs ps)

    sorted_inserted : (xs ps : List A) → inserted (sort_by cmp xs) ps ≡ sort_by cmp (xs ++ ps)
    unfolding inserted
    sorted_inserted xs [] = ap (sort_by cmp) (sym (append-nil xs))
    sorted_inserted xs (p ∷ ps) =
        ap (λ (t : List A). inserted t ps) (sym (sort_last cmp l xs p))
        ∙ sorted_inserted (xs ++ p ∷ []) ps
        ∙ ap (sort_by cmp) (append_assoc xs (p ∷ []) ps)

    inserted_sorted : (xs ps : List A) → Ascending cmp xs → inserted xs ps ≡ sort_by cmp (xs ++ ps)
    inserted_sorted xs ps a = ap (λ (t : List A). inserted t ps) (sym (sort_same xs a)) ∙ sorted_inserted xs ps

    -- one more among those that come, in order
    pub inserted_more :
        (xs ps : List A) (p : A) → Ascending cmp xs → Ascending cmp ps
        → inserted xs (insert_behind cmp p ps) ≡ insert_behind cmp p (inserted xs ps)
    inserted_more xs ps p a b =
        inserted_sorted xs (insert_behind cmp p ps) a
        ∙ ap (λ (t : List A). sort_by cmp (xs ++ t)) (ap (insert_behind cmp p) (sym (sort_same ps b)) ∙ sym (sort_last cmp l ps p))
        ∙ sort_second xs (ps ++ p ∷ [])
        ∙ sym (inserted_sorted xs (ps ++ p ∷ []) a)
        ∙ inserted_next xs ps p

    -- and only the first n of all are kept
    pub kept_more :
        (n : ℕ) (xs ps : List A) (p : A) → Ascending cmp xs → Ascending cmp ps
        → take n (inserted xs (insert_behind cmp p ps)) ≡ take n (insert_behind cmp p (take n (inserted xs ps)))
    kept_more n xs ps p a b = ap (take n) (inserted_more xs ps p a b) ∙ take_behind cmp n p (inserted xs ps)
