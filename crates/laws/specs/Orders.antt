-- Comparisons that order their values in a line: of numbers, of what a function makes of a value, turned round, and one after another.
-- Rests on the kit's clauses of `compare`.
use Rattle.std.specs.Prelude.{◌≡◌, ◌≢◌, refl, Bool, true, false, nat_lt, ◌⊎◌}
use Rattle.std.proofs.Common.{sym, ap, ◌∙◌, subst, inl, inr, arith, lt-ltb, le-ltb}
use Prim.Native.Nat.compare
use Prim.Native.Nat.{ℕ, zero, suc, ◌≤◌, ◌<◌, compare, Ordering}

infixr 30 ◌then_by◌
-- `Ordering::then`: the second where the first is equal
abbrev pub ◌then_by◌ : Ordering → Ordering → Ordering
Ordering.lt then_by b = Ordering.lt
Ordering.eq then_by b = b
Ordering.gt then_by b = Ordering.gt

-- `Ordering::reverse`
abbrev pub reverse : Ordering → Ordering
reverse Ordering.lt = Ordering.gt
reverse Ordering.eq = Ordering.eq
reverse Ordering.gt = Ordering.lt

-- `Ordering::is_lt`
abbrev pub is_lt : Ordering → Bool
is_lt Ordering.lt = true
is_lt Ordering.eq = false
is_lt Ordering.gt = false

pub record Linear {A : Type 0} (cmp : A → A → Ordering) : Type 0 where
  pub turned : (a b : A) → cmp b a ≡ reverse (cmp a b)
  pub below : (a b c : A) → cmp a b ≡ Ordering.lt → cmp b c ≡ Ordering.lt → cmp a c ≡ Ordering.lt
  pub level : (a b c : A) → cmp a b ≡ Ordering.eq → cmp a c ≡ cmp b c

-- ---- numbers

-- what a comparison of numbers says of them
abbrev pub Says : ℕ → ℕ → Ordering → Type 0
Says m n Ordering.lt = m < n
Says m n Ordering.eq = m ≡ n
Says m n Ordering.gt = n < m

says_suc : (m n : ℕ) (o : Ordering) → Says m n o → Says (suc m) (suc n) o
says_suc m n Ordering.lt h = omega arith
says_suc m n Ordering.eq h = omega arith
says_suc m n Ordering.gt h = omega arith

pub says : (m n : ℕ) → Says m n (compare m n)
says zero zero = refl
says zero (suc n) = rw compare.zero-suc (omega arith)
says (suc m) zero = rw compare.suc-zero (omega arith)
says (suc m) (suc n) = rw compare.suc-suc (says_suc m n (compare m n) (says m n))

decided : (m n : ℕ) (o p : Ordering) → Says m n o → Says m n p → o ≡ p
decided m n Ordering.lt Ordering.lt h k = refl
decided m n Ordering.lt Ordering.eq h k = absurd (omega arith)
decided m n Ordering.lt Ordering.gt h k = absurd (omega arith)
decided m n Ordering.eq Ordering.lt h k = absurd (omega arith)
decided m n Ordering.eq Ordering.eq h k = refl
decided m n Ordering.eq Ordering.gt h k = absurd (omega arith)
decided m n Ordering.gt Ordering.lt h k = absurd (omega arith)
decided m n Ordering.gt Ordering.eq h k = absurd (omega arith)
decided m n Ordering.gt Ordering.gt h k = refl

-- what holds of two numbers is what their comparison says
pub compared : (m n : ℕ) (o : Ordering) → Says m n o → compare m n ≡ o
compared m n o h = decided m n (compare m n) o (says m n) h

-- and back
pub told : (m n : ℕ) (o : Ordering) → compare m n ≡ o → Says m n o
told m n o e = subst (λ (p : Ordering). Says m n p) e (says m n)

differs : (m n : ℕ) (o u : Ordering) → Says m n u → (m ≢ n) → is_lt (u then_by o) ≡ nat_lt m n
differs m n o Ordering.lt s h = rw (lt-ltb m n s)
differs m n o Ordering.eq s h = absurd (h s)
differs m n o Ordering.gt s h = rw (le-ltb m n (omega arith))

same : (m n : ℕ) (o u : Ordering) → Says m n u → m ≡ n → is_lt (u then_by o) ≡ is_lt o
same m n o Ordering.lt s h = absurd (omega arith)
same m n o Ordering.eq s h = refl
same m n o Ordering.gt s h = absurd (omega arith)

only : (m n : ℕ) (u : Ordering) → Says m n u → is_lt u ≡ nat_lt m n
only m n Ordering.lt s = rw (lt-ltb m n s)
only m n Ordering.eq s = rw (le-ltb m n (omega arith))
only m n Ordering.gt s = rw (le-ltb m n (omega arith))

-- two numbers that differ decide, two that are equal leave it to what comes after them
module _ (m n : ℕ) where
  pub lt_differs : (o : Ordering) → (m ≢ n) → is_lt (compare m n then_by o) ≡ nat_lt m n
  lt_differs o h = differs m n o (compare m n) (says m n) h

  pub lt_same : (o : Ordering) → m ≡ n → is_lt (compare m n then_by o) ≡ is_lt o
  lt_same o h = same m n o (compare m n) (says m n) h

  pub lt_only : is_lt (compare m n) ≡ nat_lt m n
  lt_only = only m n (compare m n) (says m n)

split : (m n : ℕ) (o : Ordering) → Says m n o → (m < n) ⊎ (n ≤ m)
split m n Ordering.lt h = inl h
split m n Ordering.eq h = inr (omega arith)
split m n Ordering.gt h = inr (omega arith)

pub lt_or_le : (m n : ℕ) → (m < n) ⊎ (n ≤ m)
lt_or_le m n = split m n (compare m n) (says m n)

flip : (m n : ℕ) (o : Ordering) → Says m n o → Says n m (reverse o)
flip m n Ordering.lt h = h
flip m n Ordering.eq h = sym h
flip m n Ordering.gt h = h

pub linear_compare : Linear compare
linear_compare = record {
  turned = λ m n. compared n m (reverse (compare m n)) (flip m n (compare m n) (says m n));
  below = λ a b c h k. let x : a < b = told a b Ordering.lt h in let y : b < c = told b c Ordering.lt k in compared a c Ordering.lt (omega arith);
  level = λ a b c h. rw (told a b Ordering.eq h) refl;
}

-- ---- orders made of others

pub linear_on : {A B : Type 0} {cmp : B → B → Ordering} (f : A → B) → Linear cmp → Linear (λ (a b : A). cmp (f a) (f b))
linear_on f l = record {
  turned = λ a b. l.turned (f a) (f b);
  below = λ a b c. l.below (f a) (f b) (f c);
  level = λ a b c. l.level (f a) (f b) (f c);
}

reverse_twice : (o : Ordering) → reverse (reverse o) ≡ o
reverse_twice Ordering.lt = refl
reverse_twice Ordering.eq = refl
reverse_twice Ordering.gt = refl

-- what follows from an order's laws, the other way round
module _ {A : Type 0} {cmp : A → A → Ordering} (l : Linear cmp) where
  pub turned_to : (a b : A) (o : Ordering) → cmp a b ≡ o → cmp b a ≡ reverse o
  turned_to a b o e = l.turned a b ∙ ap reverse e

  pub level_right : (a b c : A) → cmp b c ≡ Ordering.eq → cmp a b ≡ cmp a c
  level_right a b c e = l.turned b a ∙ ap reverse (l.level b c a e) ∙ sym (l.turned c a)

  pub above : (a b c : A) → cmp a b ≡ Ordering.gt → cmp b c ≡ Ordering.gt → cmp a c ≡ Ordering.gt
  above a b c h k = turned_to c a Ordering.lt (l.below c b a (turned_to b c Ordering.gt k) (turned_to a b Ordering.gt h))

-- b.cmp(a)
pub linear_reversed : {A : Type 0} {cmp : A → A → Ordering} → Linear cmp → Linear (λ (a b : A). cmp b a)
linear_reversed l = record {
  turned = λ a b. l.turned b a;
  below = λ a b c h k. l.below c b a k h;
  level = λ a b c h. level_right l c a b (turned_to l b a Ordering.eq h);
}

-- ---- one order after another
module _ {A : Type 0} {p q : A → A → Ordering} (l : Linear p) (m : Linear q) where
  then_reverse : (o u : Ordering) → reverse o then_by reverse u ≡ reverse (o then_by u)
  then_reverse Ordering.lt u = refl
  then_reverse Ordering.eq u = refl
  then_reverse Ordering.gt u = refl

  then_below :
      (a b c : A) (o u : Ordering) → p a b ≡ o → p b c ≡ u → o then_by q a b ≡ Ordering.lt → u then_by q b c ≡ Ordering.lt
      → p a c then_by q a c ≡ Ordering.lt
  then_below a b c Ordering.lt Ordering.lt e f h k = rw (l.below a b c e f) refl
  then_below a b c Ordering.lt Ordering.eq e f h k = rw (← level_right l a b c f, e) refl
  then_below a b c Ordering.lt Ordering.gt e f h k = let z : Ordering.gt ≡ Ordering.lt = k in cc
  then_below a b c Ordering.eq Ordering.lt e f h k = rw (l.level a b c e, f) refl
  then_below a b c Ordering.eq Ordering.eq e f h k = rw (l.level a b c e, f) (m.below a b c h k)
  then_below a b c Ordering.eq Ordering.gt e f h k = let z : Ordering.gt ≡ Ordering.lt = k in cc
  then_below a b c Ordering.gt u e f h k = let z : Ordering.gt ≡ Ordering.lt = h in cc

  then_level : (a b c : A) (o : Ordering) → p a b ≡ o → o then_by q a b ≡ Ordering.eq → p a c then_by q a c ≡ p b c then_by q b c
  then_level a b c Ordering.lt e h = let z : Ordering.lt ≡ Ordering.eq = h in cc
  then_level a b c Ordering.eq e h = rw (l.level a b c e, m.level a b c h) refl
  then_level a b c Ordering.gt e h = let z : Ordering.gt ≡ Ordering.eq = h in cc

  pub linear_then : Linear (λ (a b : A). p a b then_by q a b)
  linear_then = record {
    turned = λ a b. rw (l.turned a b, m.turned a b) (then_reverse (p a b) (q a b));
    below = λ a b c h k. then_below a b c (p a b) (p b c) refl refl h k;
    level = λ a b c h. then_level a b c (p a b) refl h;
  }
