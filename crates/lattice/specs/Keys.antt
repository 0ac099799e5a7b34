-- Comparisons of floats one after another, by their keys, and the order of cells about an anchor.
-- Rests on what a comparison of numbers says.
use Rattle.std.specs.Prelude.{◌≡◌, ℕ, ◌<◌, ◌≢◌, nat_lt, refl, Float}
use Rattle.std.proofs.Common.{sym, Less, Equal, Greater, Ordering as Found, is_lt as found_is_lt}
use Rattle.std.specs.Ordering.{MatchOrdering, nat_cmp}
use Rattle.std.proofs.lemmas.Cmp.{ranked}
use Prim.Native.Nat.{compare, Ordering}
use Rattle.laws.specs.Orders.{◌then_by◌, is_lt, Linear, lt_differs, lt_same, lt_only, compared, linear_compare, linear_on, linear_then}
use Rattle.float.specs.Total.{total_key, total_cmp, total_less}
use Rattle.glyphs.specs.declared.rect.Point.{Point}
use Rattle.glyphs.specs.Spots.{squared_distance}
use Rattle.lattice.specs.Lattice.{by_anchor}

-- an answer of the library's comparisons, among the definitions' answers
abbrev pub ordering : Found → Ordering
ordering Less = Ordering.lt
ordering Equal = Ordering.eq
ordering Greater = Ordering.gt

found_says : (m n : ℕ) (o : Found) → MatchOrdering o (m < n) (m ≡ n) (n < m) → compare m n ≡ ordering o
found_says m n Less h = compared m n Ordering.lt h
found_says m n Equal h = compared m n Ordering.eq h
found_says m n Greater h = compared m n Ordering.gt h

pub key_cmp : (x y : Float) (o : Found) → o ≡ nat_cmp (total_key x) (total_key y) → ordering o ≡ total_cmp x y
unfolding total_cmp
key_cmp x y o e = sym (found_says (total_key x) (total_key y) o (ranked (total_key x) (total_key y) o e))

-- the second is asked where the first is equal
pub then_is :
    {P : Type 0} (o r : Found) (u : Ordering) → MatchOrdering o (r ≡ Less) P (r ≡ Greater) → (P → ordering r ≡ u) → ordering r ≡ ordering o then_by u
then_is Less r u h k = rw h
then_is Equal r u h k = k h
then_is Greater r u h k = rw h

pub then_assoc : (o u v : Ordering) → (o then_by u) then_by v ≡ o then_by u then_by v
then_assoc Ordering.lt u v = refl
then_assoc Ordering.eq u v = refl
then_assoc Ordering.gt u v = refl

pub found_lt : (o : Found) → found_is_lt o ≡ is_lt (ordering o)
found_lt Less = refl
found_lt Equal = refl
found_lt Greater = refl

module _ (x y : Float) where
  pub key_differs : (o : Ordering) (m n : ℕ) → m ≡ total_key x → n ≡ total_key y → (m ≢ n) → is_lt (total_cmp x y then_by o) ≡ nat_lt m n
  unfolding total_cmp
  key_differs o m n e f h = rw (← e, ← f) (lt_differs m n o h)

  pub key_same : (o : Ordering) (m n : ℕ) → m ≡ total_key x → n ≡ total_key y → m ≡ n → is_lt (total_cmp x y then_by o) ≡ is_lt o
  unfolding total_cmp
  key_same o m n e f h = rw (← e, ← f) (lt_same m n o h)

  pub key_last : is_lt (total_cmp x y) ≡ total_less x y
  unfolding total_cmp total_less
  key_last = lt_only (total_key x) (total_key y)

pub linear_by : (anchor : Point) → Linear (by_anchor anchor)
unfolding by_anchor total_cmp
linear_by anchor =
    linear_then (linear_on (λ (p : Point). total_key (squared_distance p anchor)) linear_compare)
    (linear_then (linear_on (λ (p : Point). total_key p.y) linear_compare) (linear_on (λ (p : Point). total_key p.x) linear_compare))
