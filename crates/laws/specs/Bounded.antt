-- A list kept in order as it grows, and only its first n: a new element goes behind those that it is not before, and what is past n falls off.
-- Rests on the order being linear.
use Rattle.std.proofs.Math.Path.{◌≡◌, refl, ap}
use Rattle.std.proofs.Common.{sym, ◌∙◌, take-take}
use Rattle.std.proofs.Math.Bool.{true, false}
use mathlib.Core.List.{List, [], ◌∷◌, ◌++◌}
use Prim.Native.Nat.{ℕ, zero, suc, ◌≤◌, ◌<◌, Ordering}
use native.Mathlib.Omega.{arith}
use Rattle.std.proofs.Math.ListN.{length, take, drop}
use Rattle.std.specs.Prelude.{get_or}
use Rattle.laws.specs.Orders.{Linear, reverse, is_lt, turned_to, level_right, above}
use Rattle.laws.specs.Sort.{place, insert, sort_by}
use Rattle.laws.specs.Sorted.{NotGt, None-below, Ascending, none_below}

module _ {A : Type 0} (cmp : A → A → Ordering) where
  -- by how x compares with y, the first of a list: x in front of it, or x put into what follows
  abbrev pub behind : Ordering → A → A → List A → List A → List A
  behind Ordering.lt x y ys into = x ∷ y ∷ ys
  behind Ordering.eq x y ys into = y ∷ into
  behind Ordering.gt x y ys into = y ∷ into

  -- x behind the elements that it is not before
  unfoldable pub insert_behind : A → List A → List A
  insert_behind x [] = x ∷ []
  insert_behind x (y ∷ ys) = behind (cmp x y) x y ys (insert_behind x ys)

  pub length_behind : (x : A) (ys : List A) → length (insert_behind x ys) ≡ suc (length ys)
  unfolding insert_behind
  length_behind x [] = refl
  length_behind x (y ∷ ys) = into (cmp x y) (insert_behind x ys) (length_behind x ys)
    where
      into : (o : Ordering) (t : List A) → length t ≡ suc (length ys) → length (behind o x y ys t) ≡ suc (suc (length ys))
      into Ordering.lt t h = refl
      into Ordering.eq t h = ap suc h
      into Ordering.gt t h = ap suc h

  -- ---- only the first n are looked at
  take_again : (n : ℕ) (y : A) (ys : List A) → take n (y ∷ ys) ≡ take n (y ∷ take n ys)
  take_again zero y ys = refl
  take_again (suc n) y ys = ap (λ (t : List A). y ∷ t) (sym (take-take n (suc n) ys (omega arith)))

  pub take_behind : (n : ℕ) (x : A) (ys : List A) → take n (insert_behind x ys) ≡ take n (insert_behind x (take n ys))
  unfolding insert_behind
  take_behind zero x ys = refl
  take_behind (suc n) x [] = refl
  take_behind (suc n) x (y ∷ ys) = into (cmp x y) (insert_behind x ys) (insert_behind x (take n ys)) (take_behind n x ys)
    where
      into : (o : Ordering) (s t : List A) → take n s ≡ take n t → take (suc n) (behind o x y ys s) ≡ take (suc n) (behind o x y (take n ys) t)
      into Ordering.lt s t h = ap (λ (r : List A). x ∷ r) (take_again n y ys)
      into Ordering.eq s t h = ap (λ (r : List A). y ∷ r) h
      into Ordering.gt s t h = ap (λ (r : List A). y ∷ r) h

  -- ---- where x goes
  abbrev stop : Ordering → ℕ → ℕ
  stop Ordering.lt n = 0
  stop Ordering.eq n = suc n
  stop Ordering.gt n = suc n

  -- how many elements at the front x is not before
  unfoldable pub lead : A → List A → ℕ
  lead x [] = 0
  lead x (y ∷ ys) = stop (cmp x y) (lead x ys)

  pub at_lead : (x : A) (ys : List A) → insert_behind x ys ≡ take (lead x ys) ys ++ x ∷ drop (lead x ys) ys
  unfolding insert_behind lead
  at_lead x [] = refl
  at_lead x (y ∷ ys) = into (cmp x y) (insert_behind x ys) (lead x ys) (at_lead x ys)
    where
      into :
          (o : Ordering) (t : List A) (k : ℕ) → t ≡ take k ys ++ x ∷ drop k ys
          → behind o x y ys t ≡ take (stop o k) (y ∷ ys) ++ x ∷ drop (stop o k) (y ∷ ys)
      into Ordering.lt t k h = refl
      into Ordering.eq t k h = ap (λ (r : List A). y ∷ r) h
      into Ordering.gt t k h = ap (λ (r : List A). y ∷ r) h

  pub lead_le : (x : A) (ys : List A) → lead x ys ≤ length ys
  unfolding lead
  lead_le x [] = omega arith
  lead_le x (y ∷ ys) = into (cmp x y) (lead x ys) (lead_le x ys)
    where
      into : (o : Ordering) (k : ℕ) → k ≤ length ys → stop o k ≤ suc (length ys)
      into Ordering.lt k h = omega arith
      into Ordering.eq k h = omega arith
      into Ordering.gt k h = omega arith

  -- an element that x is before stands no earlier than x goes
  pub lead_before : (x : A) (ys : List A) (i : ℕ) (d : A) → i < length ys → is_lt (cmp x (get_or ys i d)) ≡ true → lead x ys ≤ i
  unfolding lead
  lead_before x [] i d h e = absurd (omega arith)
  lead_before x (y ∷ ys) zero d h e = into (cmp x y) e
    where
      into : (o : Ordering) → is_lt o ≡ true → stop o (lead x ys) ≤ 0
      into Ordering.lt f = omega arith
      into Ordering.eq f = let z : false ≡ true = f in let w : ◌≡◌ {A = ℕ} 0 1 = cc in absurd (omega arith)
      into Ordering.gt f = let z : false ≡ true = f in let w : ◌≡◌ {A = ℕ} 0 1 = cc in absurd (omega arith)
  lead_before x (y ∷ ys) (suc i) d h e = into (cmp x y) (lead_before x ys i d (omega arith) e)
    where
      into : (o : Ordering) → lead x ys ≤ i → stop o (lead x ys) ≤ suc i
      into Ordering.lt k = omega arith
      into Ordering.eq k = omega arith
      into Ordering.gt k = omega arith

  pub take_ascending : (n : ℕ) (ys : List A) → Ascending cmp ys → Ascending cmp (take n ys)
  take_ascending zero ys a = tt
  take_ascending (suc n) [] a = tt
  take_ascending (suc n) (y ∷ ys) a = (front n ys a.0, take_ascending n ys a.1)
    where
      front : (m : ℕ) (zs : List A) → None-below cmp y zs → None-below cmp y (take m zs)
      front zero zs b = tt
      front (suc m) [] b = tt
      front (suc m) (z ∷ zs) b = (b.0, front m zs b.1)

  module _ (l : Linear cmp) where
    below_at : (y : A) (ys : List A) (i : ℕ) (d : A) → None-below cmp y ys → i < length ys → NotGt (cmp y (get_or ys i d))
    below_at y [] i d b h = absurd (omega arith)
    below_at y (z ∷ zs) zero d b h = b.0
    below_at y (z ∷ zs) (suc i) d b h = below_at y zs i d b.1 (omega arith)

    before_later : (x y z : A) (o : Ordering) → cmp x y ≡ Ordering.lt → cmp y z ≡ o → NotGt o → is_lt (cmp x z) ≡ true
    before_later x y z Ordering.lt e f n = rw (l.below x y z e f)
    before_later x y z Ordering.eq e f n = rw (← level_right l x y z f, e)
    before_later x y z Ordering.gt e f n = absurd n

    -- and one that x is not before stands earlier
    pub lead_behind :
        (x : A) (ys : List A) (i : ℕ) (d : A) → Ascending cmp ys → i < length ys → is_lt (cmp x (get_or ys i d)) ≡ false → i < lead x ys
    unfolding lead
    lead_behind x [] i d a h e = absurd (omega arith)
    lead_behind x (y ∷ ys) zero d a h e = into (cmp x y) e
      where
        into : (o : Ordering) → is_lt o ≡ false → 0 < stop o (lead x ys)
        into Ordering.lt f = let z : true ≡ false = f in let w : ◌≡◌ {A = ℕ} 0 1 = cc in absurd (omega arith)
        into Ordering.eq f = omega arith
        into Ordering.gt f = omega arith
    lead_behind x (y ∷ ys) (suc i) d a h e = into (cmp x y) refl (lead_behind x ys i d a.1 (omega arith) e)
      where
        into : (o : Ordering) → cmp x y ≡ o → i < lead x ys → suc i < stop o (lead x ys)
        into Ordering.lt f k =
            let t : is_lt (cmp x (get_or ys i d)) ≡ true =
            before_later x y (get_or ys i d) (cmp y (get_or ys i d)) f refl (below_at y ys i d a.0 (omega arith)) in
            let w : ◌≡◌ {A = ℕ} 0 1 = cc in
            absurd (omega arith)
        into Ordering.eq f k = omega arith
        into Ordering.gt f k = omega arith

    -- ---- the list stays in order
    behind_none_below : (z x : A) (ys : List A) → NotGt (cmp z x) → None-below cmp z ys → None-below cmp z (insert_behind x ys)
    unfolding insert_behind
    behind_none_below z x [] h k = (h, tt)
    behind_none_below z x (y ∷ ys) h k = into (cmp x y) (insert_behind x ys) (behind_none_below z x ys h k.1)
      where
        into : (o : Ordering) (t : List A) → None-below cmp z t → None-below cmp z (behind o x y ys t)
        into Ordering.lt t n = (h, k)
        into Ordering.eq t n = (k.0, n)
        into Ordering.gt t n = (k.0, n)

    pub behind_ascending : (x : A) (ys : List A) → Ascending cmp ys → Ascending cmp (insert_behind x ys)
    unfolding insert_behind
    behind_ascending x [] a = (tt, tt)
    behind_ascending x (y ∷ ys) a =
        into (cmp x y) refl (insert_behind x ys) (λ (n : NotGt (cmp y x)). behind_none_below y x ys n a.0) (behind_ascending x ys a.1)
      where
        into :
            (o : Ordering) → cmp x y ≡ o → (t : List A) → (NotGt (cmp y x) → None-below cmp y t) → Ascending cmp t
            → Ascending cmp (behind o x y ys t)
        into Ordering.lt e t n b = ((rw e tt, none_below cmp l x y ys (rw e tt) a.0), a)
        into Ordering.eq e t n b = (n (rw (turned_to l x y Ordering.eq e) tt), b)
        into Ordering.gt e t n b = (n (rw (turned_to l x y Ordering.gt e) tt), b)

    -- ---- sorting one more
    swap : (v : Ordering) (x y : A) (t : List A) → place cmp v y x t (y ∷ t) ≡ behind (reverse v) x y t (x ∷ t)
    swap Ordering.lt x y t = refl
    swap Ordering.eq x y t = refl
    swap Ordering.gt x y t = refl

    -- x goes behind y where x is not before z and y is not after z
    pass :
        (o u : Ordering) (x y z : A) (t into : List A) → cmp x z ≡ o → cmp y z ≡ u → is_lt o ≡ false → NotGt u
        → behind (cmp x y) x y t into ≡ y ∷ into
    pass Ordering.lt u x y z t into e f h n = let w : ◌≡◌ {A = ℕ} 0 1 = cc in absurd (omega arith)
    pass Ordering.eq Ordering.lt x y z t into e f h n = rw (l.level x z y e, turned_to l y z Ordering.lt f)
    pass Ordering.eq Ordering.eq x y z t into e f h n = rw (l.level x z y e, turned_to l y z Ordering.eq f)
    pass Ordering.eq Ordering.gt x y z t into e f h n = absurd n
    pass Ordering.gt Ordering.lt x y z t into e f h n = rw (above l x z y e (turned_to l y z Ordering.lt f))
    pass Ordering.gt Ordering.eq x y z t into e f h n = rw (level_right l x y z f, e)
    pass Ordering.gt Ordering.gt x y z t into e f h n = absurd n

    step :
        (o u : Ordering) (x y z : A) (zs : List A) → cmp x z ≡ o → cmp y z ≡ u
        → insert cmp y (insert_behind x zs) ≡ insert_behind x (insert cmp y zs)
        → insert cmp y (behind o x z zs (insert_behind x zs)) ≡ insert_behind x (place cmp u y z zs (insert cmp y zs))
    unfolding insert insert_behind
    step Ordering.lt Ordering.lt x y z zs e f h = rw (l.turned y x, e, f) (swap (cmp y x) x y (z ∷ zs))
    step Ordering.lt Ordering.eq x y z zs e f h = rw (l.turned y x, e, f) (swap (cmp y x) x y (z ∷ zs))
    step Ordering.lt Ordering.gt x y z zs e f h =
        let g : cmp x y ≡ Ordering.lt = l.below x z y e (turned_to l y z Ordering.gt f) in
        rw (turned_to l x y Ordering.lt g, e, f)
    step Ordering.eq Ordering.lt x y z zs e f h = rw (f, e) (sym (pass Ordering.eq Ordering.lt x y z (z ∷ zs) (z ∷ insert_behind x zs) e f refl tt))
    step Ordering.eq Ordering.eq x y z zs e f h = rw (f, e) (sym (pass Ordering.eq Ordering.eq x y z (z ∷ zs) (z ∷ insert_behind x zs) e f refl tt))
    step Ordering.eq Ordering.gt x y z zs e f h = rw (f, e, h)
    step Ordering.gt Ordering.lt x y z zs e f h = rw (f, e) (sym (pass Ordering.gt Ordering.lt x y z (z ∷ zs) (z ∷ insert_behind x zs) e f refl tt))
    step Ordering.gt Ordering.eq x y z zs e f h = rw (f, e) (sym (pass Ordering.gt Ordering.eq x y z (z ∷ zs) (z ∷ insert_behind x zs) e f refl tt))
    step Ordering.gt Ordering.gt x y z zs e f h = rw (f, e, h)

    commute : (x y : A) (zs : List A) → insert cmp y (insert_behind x zs) ≡ insert_behind x (insert cmp y zs)
    unfolding insert insert_behind
    commute x y [] = rw (l.turned y x) (swap (cmp y x) x y [])
    commute x y (z ∷ zs) = step (cmp x z) (cmp y z) x y z zs refl refl (commute x y zs)

    -- the last of a list goes behind those that it is not before
    pub sort_last : (xs : List A) (x : A) → sort_by cmp (xs ++ x ∷ []) ≡ insert_behind x (sort_by cmp xs)
    unfolding sort_by insert insert_behind
    sort_last [] x = refl
    sort_last (y ∷ xs) x = ap (insert cmp y) (sort_last xs x) ∙ commute x y (sort_by cmp xs)

    -- the first n of the sorted list, from the first n before
    pub first_next : (n : ℕ) (xs : List A) (x : A) → take n (sort_by cmp (xs ++ x ∷ [])) ≡ take n (insert_behind x (take n (sort_by cmp xs)))
    first_next n xs x = ap (take n) (sort_last xs x) ∙ take_behind n x (sort_by cmp xs)
