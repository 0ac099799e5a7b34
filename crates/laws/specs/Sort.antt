-- `sort_by`: a stable sort of a list. Definitions only.
use mathlib.Core.List.{List, [], ◌∷◌}
use Prim.Native.Nat.{Ordering}

module _ {A : Type 0} (cmp : A → A → Ordering) where
  -- by how x compares with y, the first of a list: x in front of it, or x put into what follows
  abbrev pub place : Ordering → A → A → List A → List A → List A
  place Ordering.lt x y ys into = x ∷ y ∷ ys
  place Ordering.eq x y ys into = x ∷ y ∷ ys
  place Ordering.gt x y ys into = y ∷ into

  -- x in front of the first element that it is not after
  unfoldable pub insert : A → List A → List A
  insert x [] = x ∷ []
  insert x (y ∷ ys) = place (cmp x y) x y ys (insert x ys)

  -- the list in order; equal elements keep theirs
  unfoldable pub sort_by : List A → List A
  unfolding insert
  sort_by [] = []
  sort_by (x ∷ xs) = insert x (sort_by xs)
