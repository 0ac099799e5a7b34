-- The whole numbers of rows and cells by rank, how far an `i64` is above the least one, so that a walk counts in ℕ; and what a range of them is.
-- Rests on the kit's cases of the integers' sum.
use Rattle.std.specs.Prelude.{◌≡◌, ℕ, zero, suc, ◌+◌, ◌-◌, ◌*◌, ◌/◌, ◌%◌, ◌^◌, ◌<◌, ◌≤◌, min, true, false, ◌⊎◌}
use Rattle.std.specs.Prelude.{List, [], ◌∷◌, ◌++◌, map, ℤ, pos, negsuc, ◌+ℤ◌, ◌-ℤ◌, neg_ℤ, refl, Float}
use Rattle.std.proofs.Common.{sym, ap, ◌∙◌, inl, inr, ⊎_elim, arith, lt-ltb, le-ltb}
use Rattle.std.proofs.Math.IntN.{sub_ℕ}
use Rattle.std.specs.Float.{nan, inf, fin}
use Rattle.std.specs.Float.Ieee.{up, down, to_signed}
use Rattle.laws.specs.Lists.{up_to}
use Rattle.laws.specs.Orders.{lt_or_le}
use Rattle.float.specs.Whole.{as_i64}
use Rattle.lattice.specs.Lattice.{rem_euclid2, many, through}

abbrev pub middle : ℕ
middle = 0x8000_0000_0000_0000

-- how far a number is above the least `i64`
unfoldable pub rank_of : ℤ → ℕ
rank_of (pos n) = n + middle
rank_of (negsuc n) = middle - suc n

-- the number of a rank
unfoldable pub of_rank : ℕ → ℤ
of_rank u = sub_ℕ u middle

-- n numbers from u on
unfoldable pub span : ℕ → ℕ → List ℕ
span u zero = []
span u (suc n) = u ∷ span (u + 1) n

-- ---- ranks
pub of_high : (u : ℕ) → middle ≤ u → of_rank u ≡ pos (u - middle)
unfolding of_rank
of_high u h = rw (le-ltb u middle h)

pub of_low : (u : ℕ) → u < middle → of_rank u ≡ negsuc (middle - suc u)
unfolding of_rank
of_low u h = rw (lt-ltb u middle h)

pub of_rank_pos : (n : ℕ) → of_rank (rank_of (pos n)) ≡ pos n
unfolding rank_of
of_rank_pos n =
    let e : n + middle - middle ≡ n = omega arith in
    of_high (n + middle) (omega arith) ∙ ap pos e

pub of_rank_neg : (n : ℕ) → n < middle → of_rank (rank_of (negsuc n)) ≡ negsuc n
unfolding rank_of
of_rank_neg n h =
    let e : middle - suc (middle - suc n) ≡ n = omega arith in
    of_low (middle - suc n) (omega arith) ∙ ap negsuc e

minus : (m : ℕ) → m ≤ middle → of_rank (rank_of (neg_ℤ (pos m))) ≡ neg_ℤ (pos m)
minus zero h = of_rank_pos 0
minus (suc m) h = of_rank_neg m (omega arith)

-- a cast to `i64` has a rank
pub of_rank_cast : (x : Float) → of_rank (rank_of (as_i64 x)) ≡ as_i64 x
unfolding to_signed
of_rank_cast nan = of_rank_pos 0
of_rank_cast (inf true) = minus (2 ^ 63) (omega arith)
of_rank_cast (inf false) = of_rank_pos (2 ^ 63 - 1)
of_rank_cast (fin true m e) = minus (min (m * up e / down e) (2 ^ 63)) (omega arith)
of_rank_cast (fin false m e) = of_rank_pos (min (m * up e / down e) (2 ^ 63 - 1))

-- ---- ranges
sub_is : (a b : ℕ) → b ≤ a → sub_ℕ a b ≡ pos (a - b)
sub_is a b h = rw (le-ltb a b h)

sub_isnt : (a b : ℕ) → a < b → sub_ℕ a b ≡ negsuc (b - suc a)
sub_isnt a b h = rw (lt-ltb a b h)

-- of_rank a +ℤ pos k, by the sign of each
pub of_rank_add : (a k : ℕ) → of_rank a +ℤ pos k ≡ of_rank (a + k)
of_rank_add a k = split (lt_or_le a middle)
  where
    split : (a < middle) ⊎ (middle ≤ a) → of_rank a +ℤ pos k ≡ of_rank (a + k)
    split (inr h) =
        let e : a - middle + k ≡ a + k - middle = omega arith in
        rw (of_high a h, of_high (a + k) (omega arith)) (ap pos e)
    split (inl h) = later (lt_or_le (a + k) middle)
      where
        later : (a + k < middle) ⊎ (middle ≤ a + k) → of_rank a +ℤ pos k ≡ of_rank (a + k)
        later (inl g) =
            let e : suc (middle - suc a) - suc k ≡ middle - suc (a + k) = omega arith in
            rw (of_low a h, of_low (a + k) g, sub_isnt k (suc (middle - suc a)) (omega arith)) (ap negsuc e)
        later (inr g) =
            let e : k - suc (middle - suc a) ≡ a + k - middle = omega arith in
            rw (of_low a h, of_high (a + k) g, sub_is k (suc (middle - suc a)) (omega arith)) (ap pos e)

many_sub : (x y : ℕ) → many (sub_ℕ x y) ≡ suc x - y
many_sub x y =
    ⊎_elim (λ (h : x < y). rw (sub_isnt x y h) (omega arith)) (λ (h : y ≤ x). rw (sub_is x y h) (omega arith)) (lt_or_le x y)

many_of : (u : ℕ) → many (of_rank u) ≡ suc u - middle
unfolding of_rank
many_of u = many_sub u middle

many_less : (b j : ℕ) → many (of_rank b +ℤ negsuc j) ≡ suc b - (middle + suc j)
many_less b j =
    ⊎_elim (λ (h : b < middle). rw (of_low b h) (omega arith))
    (λ (h : middle ≤ b). rw (of_high b h, many_sub (b - middle) (suc j)) (omega arith)) (lt_or_le b middle)

many_minus : (b k : ℕ) → many (of_rank b +ℤ neg_ℤ (pos k)) ≡ suc b - (middle + k)
many_minus b zero = let e : b + 0 ≡ b = omega arith in rw (of_rank_add b 0, e, many_of b) (omega arith)
many_minus b (suc j) = many_less b j

pub width_is : (a b : ℕ) → many (of_rank b -ℤ of_rank a) ≡ suc b - a
width_is a b =
    ⊎_elim (λ (h : a < middle). rw (of_low a h, of_rank_add b (suc (middle - suc a)), many_of) (omega arith))
    (λ (h : middle ≤ a). rw (of_high a h, many_minus b (a - middle)) (omega arith)) (lt_or_le a middle)

span_last : (u n : ℕ) → span u (suc n) ≡ span u n ++ (u + n) ∷ []
unfolding span
span_last u zero = let e : u + 0 ≡ u = omega arith in rw e
span_last u (suc n) = let e : u + 1 + n ≡ u + suc n = omega arith in ap (λ (t : List ℕ). u ∷ t) (span_last (u + 1) n ∙ rw e)

map_append : {A B : Type 0} (f : A → B) (xs ys : List A) → map f (xs ++ ys) ≡ map f xs ++ map f ys
map_append f [] ys = refl
map_append f (x ∷ xs) ys = ap (λ t. f x ∷ t) (map_append f xs ys)

numbers_are : (a n : ℕ) → map (λ (k : ℕ). of_rank a +ℤ pos k) (up_to n) ≡ map of_rank (span a n)
unfolding up_to span
numbers_are a zero = refl
numbers_are a (suc n) =
    map_append (λ (k : ℕ). of_rank a +ℤ pos k) (up_to n) (n ∷ [])
    ∙ rw (numbers_are a n, of_rank_add a n)
    (sym (ap (map of_rank) (span_last a n) ∙ map_append of_rank (span a n) ((a + n) ∷ [])))

-- a range of ranks
pub through_is : (a b : ℕ) → through (of_rank a) (of_rank b) ≡ map of_rank (span a (suc b - a))
unfolding through
through_is a b = rw (width_is a b) (numbers_are a (suc b - a))

pub through_cast :
    (x y : Float)
    → through (as_i64 x) (as_i64 y) ≡ map of_rank (span (rank_of (as_i64 x)) (suc (rank_of (as_i64 y)) - rank_of (as_i64 x)))
through_cast x y = rw (of_rank_cast x, of_rank_cast y) at (through_is (rank_of (as_i64 x)) (rank_of (as_i64 y)))

pub parity : (u : ℕ) → rem_euclid2 (of_rank u) ≡ u % 2
unfolding rem_euclid2
parity u = ⊎_elim (λ (h : u < middle). rw (of_low u h) (omega arith)) (λ (h : middle ≤ u). rw (of_high u h) (omega arith)) (lt_or_le u middle)
