-- What a sorted list is: the same elements, in order; and which of them stand in its first t places.
-- Rests on the order being linear.
use Rattle.std.specs.Prelude.{◌≡◌, take}
use Rattle.std.proofs.Math.Path.{refl, ap}
use Rattle.std.proofs.Common.{sym, ◌∙◌}
use mathlib.Core.List.{List, [], ◌∷◌}
use Prim.Native.Nat.{ℕ, zero, suc, ◌+◌, ◌-◌, ◌≤◌, min, compare, Ordering}
use native.Mathlib.Omega.{arith}
use mir.Val.{bool_byte}
use Rattle.laws.specs.Orders.{is_lt, Linear, Says, says, reverse, turned_to, level_right}
use Rattle.laws.specs.Sort.{place, insert, sort_by}

-- the elements' weights together
unfoldable pub weigh : {A : Type 0} → (A → ℕ) → List A → ℕ
weigh p [] = 0
weigh p (x ∷ xs) = p x + weigh p xs

-- 1 for the one outcome, else 0
abbrev pub if_lt : Ordering → ℕ
if_lt Ordering.lt = 1
if_lt Ordering.eq = 0
if_lt Ordering.gt = 0

abbrev pub if_eq : Ordering → ℕ
if_eq Ordering.lt = 0
if_eq Ordering.eq = 1
if_eq Ordering.gt = 0

pub flag_lt : (o : Ordering) → bool_byte (is_lt o) ≡ if_lt o
flag_lt Ordering.lt = refl
flag_lt Ordering.eq = refl
flag_lt Ordering.gt = refl

pub if_lt_le : (o : Ordering) → if_lt o ≤ 1
if_lt_le Ordering.lt = omega arith
if_lt_le Ordering.eq = omega arith
if_lt_le Ordering.gt = omega arith

not_below : (m n : ℕ) (o : Ordering) → Says m n o → n ≤ m → if_lt o ≡ 0
not_below m n Ordering.lt s h = absurd (omega arith)
not_below m n Ordering.eq s h = refl
not_below m n Ordering.gt s h = refl

pub if_lt_none : (m n : ℕ) → n ≤ m → if_lt (compare m n) ≡ 0
if_lt_none m n h = not_below m n (compare m n) (says m n) h

abbrev pub NotGt : Ordering → Type 0
NotGt Ordering.lt = Unit {0}
NotGt Ordering.eq = Unit {0}
NotGt Ordering.gt = ⊥

module _ {A : Type 0} (cmp : A → A → Ordering) where
  -- ---- the same elements
  weigh_place :
      (p : A → ℕ) (o : Ordering) (x y : A) (ys into : List A) → weigh p into ≡ p x + weigh p ys
      → weigh p (place cmp o x y ys into) ≡ p x + (p y + weigh p ys)
  unfolding weigh
  weigh_place p Ordering.lt x y ys into h = refl
  weigh_place p Ordering.eq x y ys into h = refl
  weigh_place p Ordering.gt x y ys into h = omega arith

  weigh_insert : (p : A → ℕ) (x : A) (xs : List A) → weigh p (insert cmp x xs) ≡ p x + weigh p xs
  unfolding weigh insert
  weigh_insert p x [] = refl
  weigh_insert p x (y ∷ ys) = weigh_place p (cmp x y) x y ys (insert cmp x ys) (weigh_insert p x ys)

  pub weigh_sort : (p : A → ℕ) (xs : List A) → weigh p (sort_by cmp xs) ≡ weigh p xs
  unfolding weigh sort_by
  weigh_sort p [] = refl
  weigh_sort p (x ∷ xs) = weigh_insert p x (sort_by cmp xs) ∙ ap (λ (n : ℕ). p x + n) (weigh_sort p xs)

  -- how many of a list stand before x, and how many level with it
  abbrev pub rank : A → List A → ℕ
  rank x xs = weigh (λ (y : A). if_lt (cmp y x)) xs

  abbrev pub levels : A → List A → ℕ
  levels x xs = weigh (λ (y : A). if_eq (cmp y x)) xs

  -- ---- in order
  abbrev pub None-below : A → List A → Type 0
  None-below x [] = Unit {0}
  None-below x (y ∷ ys) = NotGt (cmp x y) × None-below x ys

  abbrev pub Ascending : List A → Type 0
  Ascending [] = Unit {0}
  Ascending (y ∷ ys) = None-below y ys × Ascending ys

  module _ (l : Linear cmp) where
    through : (a b c : A) (o u : Ordering) → cmp a b ≡ o → cmp b c ≡ u → NotGt o → NotGt u → NotGt (cmp a c)
    through a b c Ordering.lt Ordering.lt e f h k = rw (l.below a b c e f) tt
    through a b c Ordering.lt Ordering.eq e f h k = rw (← level_right l a b c f, e) tt
    through a b c Ordering.lt Ordering.gt e f h k = absurd k
    through a b c Ordering.eq u e f h k = rw (l.level a b c e, f) k
    through a b c Ordering.gt u e f h k = absurd h

    pub none_below : (x y : A) (ys : List A) → NotGt (cmp x y) → None-below y ys → None-below x ys
    none_below x y [] h k = tt
    none_below x y (z ∷ zs) h k = (through x y z (cmp x y) (cmp y z) refl refl h k.0, none_below x y zs h k.1)

    into_none_below :
        (z : A) (o : Ordering) (x y : A) (ys into : List A) → NotGt (cmp z x) → NotGt (cmp z y) → None-below z ys → None-below z into
        → None-below z (place cmp o x y ys into)
    into_none_below z Ordering.lt x y ys into h k m n = (h, (k, m))
    into_none_below z Ordering.eq x y ys into h k m n = (h, (k, m))
    into_none_below z Ordering.gt x y ys into h k m n = (k, n)

    insert_none_below : (z x : A) (ys : List A) → NotGt (cmp z x) → None-below z ys → None-below z (insert cmp x ys)
    unfolding insert
    insert_none_below z x [] h k = (h, tt)
    insert_none_below z x (y ∷ ys) h k = into_none_below z (cmp x y) x y ys (insert cmp x ys) h k.0 k.1 (insert_none_below z x ys h k.1)

    place_ascending :
        (o : Ordering) (x y : A) (ys : List A) → cmp x y ≡ o → None-below y ys → Ascending ys → Ascending (insert cmp x ys)
        → Ascending (place cmp o x y ys (insert cmp x ys))
    place_ascending Ordering.lt x y ys e n a b = ((rw e tt, none_below x y ys (rw e tt) n), (n, a))
    place_ascending Ordering.eq x y ys e n a b = ((rw e tt, none_below x y ys (rw e tt) n), (n, a))
    place_ascending Ordering.gt x y ys e n a b = (insert_none_below y x ys (rw (turned_to l x y Ordering.gt e) tt) n, b)

    pub insert_ascending : (x : A) (xs : List A) → Ascending xs → Ascending (insert cmp x xs)
    unfolding insert
    insert_ascending x [] a = (tt, tt)
    insert_ascending x (y ∷ ys) a = place_ascending (cmp x y) x y ys refl a.0 a.1 (insert_ascending x ys a.1)

    pub sort_ascending : (xs : List A) → Ascending (sort_by cmp xs)
    unfolding sort_by
    sort_ascending [] = tt
    sort_ascending (x ∷ xs) = insert_ascending x (sort_by cmp xs) (sort_ascending xs)

    -- ---- the first t
    not_lt : (o : Ordering) → NotGt o → if_lt (reverse o) ≡ 0
    not_lt Ordering.lt h = refl
    not_lt Ordering.eq h = refl
    not_lt Ordering.gt h = absurd h

    -- nothing that is not below x counts before it
    no_rank : (x : A) (ys : List A) → None-below x ys → rank x ys ≡ 0
    unfolding weigh
    no_rank x [] h = refl
    no_rank x (y ∷ ys) h = rw (l.turned x y, not_lt (cmp x y) h.0) (omega (arith, no_rank x ys h.1))

    after : (x y z : A) (o : Ordering) → cmp x y ≡ Ordering.lt → cmp y z ≡ o → NotGt o → if_eq (cmp z x) ≡ 0
    after x y z Ordering.lt e f h = rw (turned_to l x z Ordering.lt (l.below x y z e f)) refl
    after x y z Ordering.eq e f h = rw (turned_to l x z Ordering.lt (sym (level_right l x y z f) ∙ e)) refl
    after x y z Ordering.gt e f h = absurd h

    -- and nothing beyond a y that is after x is level with x
    no_level : (x y : A) (zs : List A) → cmp x y ≡ Ordering.lt → None-below y zs → levels x zs ≡ 0
    unfolding weigh
    no_level x y [] e h = refl
    no_level x y (z ∷ zs) e h = rw (after x y z (cmp y z) e refl h.0) (omega (arith, no_level x y zs e h.1))

    first :
        (t : ℕ) (x y : A) (ys : List A) (o : Ordering) → cmp y x ≡ o → None-below y ys → levels x (take t ys) ≡ min (t - rank x ys) (levels x ys)
        → if_eq o + levels x (take t ys) ≡ min (suc t - (if_lt o + rank x ys)) (if_eq o + levels x ys)
    first t x y ys Ordering.lt e n h = omega arith
    first t x y ys Ordering.eq e n h = let z : rank x ys ≡ 0 = no_rank x ys (none_below x y ys (rw (turned_to l y x Ordering.eq e) tt) n) in omega arith
    first t x y ys Ordering.gt e n h = let z : levels x ys ≡ 0 = no_level x y ys (turned_to l y x Ordering.gt e) n in omega arith

    -- of those level with x, the first t of an ascending list have as many as there is room for after those before x
    pub in_first : (t : ℕ) (x : A) (xs : List A) → Ascending xs → levels x (take t xs) ≡ min (t - rank x xs) (levels x xs)
    unfolding weigh
    in_first zero x [] a = refl
    in_first zero x (y ∷ ys) a = omega arith
    in_first (suc t) x [] a = omega arith
    in_first (suc t) x (y ∷ ys) a = first t x y ys (cmp y x) refl a.0 (in_first t x ys a.1)
