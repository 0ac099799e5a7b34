-- The comparisons order the numbers in a line: `≤` is transitive and total, `<` is `≤` the other way round denied, and a
-- minus turns both round. NaN is in no comparison.
-- A finite value is the fraction (plus - minus) / down, so that a comparison is one of products. Rests on `Laws/Nan.antt`.
use Rattle.std.specs.Prelude.{◌≡◌, ℕ, ◌+◌, ◌*◌, ◌<◌, ◌≤◌, Bool, true, false}
use Rattle.std.specs.Prelude.{not, ◌&&◌, ◌||◌, T, ◌==◌, nat_lt, refl, Float}
use Rattle.std.proofs.Common.{inl, inr, le_of_mul-le-mul_right, mul-le-mul_right, arith, ltb→lt, lt→ltb, eqb→eq, T_not}
use Rattle.std.proofs.Math.Dec.{not_T}
use Rattle.std.specs.Float.{nan, inf, fin}
use Rattle.std.specs.Float.Ieee.{up, down, below, level, lt, le, eq, neg, is_nan}
use Rattle.std.specs.Float.Ieee.Fits.{down_pos, and_l, and_r, and_i, eq→eqb}
use Rattle.laws.specs.Orders.{lt_or_le}
use Rattle.laws.specs.Truth.{or_split, or_l, or_r}
use Rattle.float.specs.Laws.Nan.{Number, le_number, lt_number}

-- ---- ±a as a difference
abbrev pub plus : Bool → ℕ → ℕ
plus false a = a
plus true a = 0

abbrev pub minus : Bool → ℕ → ℕ
minus false a = 0
minus true a = a

abbrev pub AtMost : Bool → ℕ → Bool → ℕ → Type 0
AtMost s a t b = plus s a + minus t b ≤ plus t b + minus s a

abbrev pub Less : Bool → ℕ → Bool → ℕ → Type 0
Less s a t b = plus s a + minus t b < plus t b + minus s a

pub le_says : (s t : Bool) (a b : ℕ) → T (below s a t b || level s a t b) → AtMost s a t b
le_says false false a b h =
    elim (or_split (nat_lt a b) (a == b && true) h) [ inl u ↦ omega (arith, ltb→lt a b u) | inr u ↦ omega (arith, eqb→eq a b (and_l (a == b) true u)) ]
le_says false true a b h = omega (arith, eqb→eq a b (and_l (a == b) (a == 0) h), eqb→eq a 0 (and_r (a == b) (a == 0) h))
le_says true false a b h = omega arith
le_says true true a b h =
    elim (or_split (nat_lt b a) (a == b && true) h) [ inl u ↦ omega (arith, ltb→lt b a u) | inr u ↦ omega (arith, eqb→eq a b (and_l (a == b) true u)) ]

pub lt_says : (s t : Bool) (a b : ℕ) → T (below s a t b) → Less s a t b
lt_says false false a b h = omega (arith, ltb→lt a b h)
lt_says false true a b h = absurd h
lt_says true false a b h = omega (arith, ltb→lt 0 (a + b) h)
lt_says true true a b h = omega (arith, ltb→lt b a h)

says_lt : (s t : Bool) (a b : ℕ) → Less s a t b → T (below s a t b)
says_lt false false a b h = lt→ltb a b (omega arith)
says_lt false true a b h = absurd (omega arith)
says_lt true false a b h = lt→ltb 0 (a + b) (omega arith)
says_lt true true a b h = lt→ltb b a (omega arith)

says_eq : (s t : Bool) (a b : ℕ) → plus s a + minus t b ≡ plus t b + minus s a → T (level s a t b)
says_eq false false a b h = and_i (a == b) true (eq→eqb {a = a} {b = b} (omega arith)) tt
says_eq false true a b h = and_i (a == b) (a == 0) (eq→eqb {a = a} {b = b} (omega arith)) (eq→eqb {a = a} {b = 0} (omega arith))
says_eq true false a b h = and_i (a == b) (a == 0) (eq→eqb {a = a} {b = b} (omega arith)) (eq→eqb {a = a} {b = 0} (omega arith))
says_eq true true a b h = and_i (a == b) true (eq→eqb {a = a} {b = b} (omega arith)) tt

says_le : (s t : Bool) (a b : ℕ) → AtMost s a t b → T (below s a t b || level s a t b)
says_le s t a b h = elim (lt_or_le (plus s a + minus t b) (plus t b + minus s a)) [
  | inl l ↦ or_l (below s a t b) (level s a t b) (says_lt s t a b l)
  | inr g ↦ or_r (below s a t b) (level s a t b) (says_eq s t a b (omega arith))
]

-- ---- `≤` is transitive
times : (s : Bool) (a k : ℕ) → (plus s (a * k) ≡ plus s a * k) × (minus s (a * k) ≡ minus s a * k)
times false a k = (refl, omega arith)
times true a k = (omega arith, refl)

-- fractions (x - x') / p, (y - y') / q, (z - z') / r
through :
    (x x' y y' z z' p q r : ℕ) → 0 < q → x * q + y' * p ≤ y * p + x' * q → y * r + z' * q ≤ z * q + y' * r → x * r + z' * p ≤ z * p + x' * r
through x x' y y' z z' p q r Q h k = le_of_mul-le-mul_right {k = q} (omega (arith, mul-le-mul_right r h, mul-le-mul_right p k)) Q

chain : (s t u : Bool) (a b c p q r : ℕ) → 0 < q → AtMost s (a * q) t (b * p) → AtMost t (b * r) u (c * q) → AtMost s (a * r) u (c * p)
chain s t u a b c p q r Q h k =
    omega (
      arith,
      times s a r,
      times u c p,
      through (plus s a) (minus s a) (plus t b) (minus t b) (plus u c) (minus u c) p q r Q
          (omega (arith, times s a q, times t b p)) (omega (arith, times t b r, times u c q)),
    )

pub le_trans : (x y z : Float) → T (le x y) → T (le y z) → T (le x z)
unfolding le is_nan
le_trans nan y z h k = absurd h
le_trans (inf true) y nan h k = absurd (le_number y nan k).1
le_trans (inf true) y (inf false) h k = tt
le_trans (inf true) y (fin u l g) h k = tt
le_trans (inf true) nan (inf true) h k = absurd h
le_trans (inf true) (inf t) (inf true) h k = tt
le_trans (inf true) (fin t n d) (inf true) h k = absurd k
le_trans (inf false) nan z h k = absurd h
le_trans (inf false) (inf true) z h k = absurd h
le_trans (inf false) (inf false) z h k = k
le_trans (inf false) (fin t n d) z h k = absurd h
le_trans (fin s m e) nan z h k = absurd h
le_trans (fin s m e) (inf true) z h k = absurd h
le_trans (fin s m e) (inf false) nan h k = absurd k
le_trans (fin s m e) (inf false) (inf true) h k = absurd k
le_trans (fin s m e) (inf false) (inf false) h k = tt
le_trans (fin s m e) (inf false) (fin u l g) h k = absurd k
le_trans (fin s m e) (fin t n d) nan h k = absurd k
le_trans (fin s m e) (fin t n d) (inf true) h k = absurd k
le_trans (fin s m e) (fin t n d) (inf false) h k = tt
le_trans (fin s m e) (fin t n d) (fin u l g) h k =
    says_le s u (m * up e * down g) (l * up g * down e)
    (chain s t u (m * up e) (n * up d) (l * up g) (down e) (down d) (down g) (down_pos d)
    (le_says s t (m * up e * down d) (n * up d * down e) h) (le_says t u (n * up d * down g) (l * up g * down d) k))

-- ---- `<` and `≤`
pub lt_le : (x y : Float) → T (lt x y) → T (le x y)
unfolding le
lt_le x y h = or_l (lt x y) (eq x y) h

pub lt_not_le : (x y : Float) → T (lt x y) → T (le y x) → ⊥
unfolding lt le
lt_not_le nan y h k = h
lt_not_le (inf s) nan h k = h
lt_not_le (inf true) (inf true) h k = h
lt_not_le (inf true) (inf false) h k = k
lt_not_le (inf false) (inf t) h k = h
lt_not_le (inf true) (fin t n d) h k = k
lt_not_le (inf false) (fin t n d) h k = h
lt_not_le (fin s m e) nan h k = h
lt_not_le (fin s m e) (inf true) h k = h
lt_not_le (fin s m e) (inf false) h k = k
lt_not_le (fin s m e) (fin t n d) h k =
    let a = m * up e * down d in
    let b = n * up d * down e in
    omega (arith, lt_says s t a b h, le_says t s b a k)

pub not_lt_le : (x y : Float) → Number x → Number y → T (not (lt y x)) → T (le x y)
unfolding lt le is_nan
not_lt_le nan y p q h = absurd p
not_lt_le (inf s) nan p q h = absurd q
not_lt_le (inf true) (inf true) p q h = tt
not_lt_le (inf true) (inf false) p q h = tt
not_lt_le (inf false) (inf true) p q h = absurd h
not_lt_le (inf false) (inf false) p q h = tt
not_lt_le (inf true) (fin t n d) p q h = tt
not_lt_le (inf false) (fin t n d) p q h = absurd h
not_lt_le (fin s m e) nan p q h = absurd q
not_lt_le (fin s m e) (inf true) p q h = absurd h
not_lt_le (fin s m e) (inf false) p q h = tt
not_lt_le (fin s m e) (fin t n d) p q h =
    let a = m * up e * down d in
    let b = n * up d * down e in
    elim (lt_or_le (plus t b + minus s a) (plus s a + minus t b)) [
      | inl l ↦ absurd (T_not (below t b s a) h (says_lt t s b a l))
      | inr g ↦ says_le s t a b g
    ]

pub le_self : (x : Float) → Number x → T (le x x)
le_self x n = not_lt_le x x n n (not_T (lt x x) (λ (h : T (lt x x)). lt_not_le x x h (lt_le x x h)))

pub not_le_lt : (x y : Float) → Number x → Number y → T (not (le y x)) → T (lt x y)
not_le_lt x y p q h = go (lt x y) (not_lt_le y x q p)
  where
    go : (b : Bool) → (T (not b) → T (le y x)) → T b
    go true f = tt
    go false f = absurd (T_not (le y x) h (f tt))

-- ---- with a strict one among two
pub lt_le_trans : (x y z : Float) → T (lt x y) → T (le y z) → T (lt x z)
lt_le_trans x y z h k = not_le_lt x z (lt_number x y h).0 (le_number y z k).1 (not_T (le z x) (λ (g : T (le z x)). lt_not_le x y h (le_trans y z x k g)))

pub le_lt_trans : (x y z : Float) → T (le x y) → T (lt y z) → T (lt x z)
le_lt_trans x y z h k = not_le_lt x z (le_number x y h).0 (lt_number y z k).1 (not_T (le z x) (λ (g : T (le z x)). lt_not_le y z k (le_trans z x y g h)))

-- ---- a minus turns the order round
pub neg_le : (x y : Float) → T (le x y) → T (le (neg y) (neg x))
unfolding le neg
neg_le nan y h = absurd h
neg_le (inf s) nan h = absurd h
neg_le (inf true) (inf true) h = tt
neg_le (inf true) (inf false) h = tt
neg_le (inf false) (inf true) h = absurd h
neg_le (inf false) (inf false) h = tt
neg_le (inf true) (fin t n d) h = tt
neg_le (inf false) (fin t n d) h = absurd h
neg_le (fin s m e) nan h = absurd h
neg_le (fin s m e) (inf true) h = absurd h
neg_le (fin s m e) (inf false) h = tt
neg_le (fin s m e) (fin t n d) h =
    let a = m * up e * down d in
    let b = n * up d * down e in
    says_le (not t) (not s) b a (turn s t a b (le_says s t a b h))
  where
    turn : (s t : Bool) (a b : ℕ) → AtMost s a t b → AtMost (not t) b (not s) a
    turn false false a b h = omega arith
    turn false true a b h = omega arith
    turn true false a b h = omega arith
    turn true true a b h = omega arith

pub neg_twice : (x : Float) → neg (neg x) ≡ x
unfolding neg
neg_twice nan = refl
neg_twice (inf true) = refl
neg_twice (inf false) = refl
neg_twice (fin true m e) = refl
neg_twice (fin false m e) = refl

pub neg_number : (x : Float) → Number x → Number (neg x)
unfolding neg is_nan
neg_number nan n = n
neg_number (inf s) n = tt
neg_number (fin s m e) n = tt

pub neg_lt : (x y : Float) → T (lt x y) → T (lt (neg y) (neg x))
neg_lt x y h =
    let n = lt_number x y h in
    not_le_lt (neg y) (neg x) (neg_number y n.1) (neg_number x n.0)
    (not_T (le (neg x) (neg y)) (λ (g : T (le (neg x) (neg y))). lt_not_le x y h (rw (neg_twice y, neg_twice x) at (neg_le (neg x) (neg y) g))))
