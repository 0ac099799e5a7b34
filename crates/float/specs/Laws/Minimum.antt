-- The least of roots is the root of the least, as data and not by value alone: of two by the test that a program makes, by
-- `min`, and of any number one after another.
-- The values are those of `Laws/Square.antt`: a NaN, -0 and the infinity are among them. Rests on `Laws/Monotone.antt` and `Laws/Same.antt`.
use Rattle.std.specs.Prelude.{◌≡◌, ℕ, zero, suc, ◌*◌, ◌%◌, ◌^◌, ◌≤◌, Bool, true, false, cond, not}
use Rattle.std.specs.Prelude.{◌&&◌, T, ltb, List, [], ◌∷◌, ℤ, negsuc, ◌==◌, nat_le, nat_lt, refl, Float}
use Rattle.std.proofs.Common.{sym, subst, inl, mul-le-mul, mul-pos, zero-lt-suc, leb→le, lt→ltb, T_not}
use Rattle.std.proofs.Math.Logic.{inr}
use Rattle.std.proofs.Math.Dec.{not_T}
use Rattle.std.specs.Float.{nan, inf, fin, Format, binary32, binary64}
use Rattle.std.specs.Float.Ieee.{prec, emax, low, up, down, fits, lt, le, eq, is_nan}
use Rattle.std.specs.Float.Ieee.Bits.{is_false}
use Rattle.std.specs.Float.Ieee.Fits.{and_l, and_r, up_pos}
use Rattle.std.specs.Float.Ieee.Positive.{cross→le}
use Rattle.laws.specs.Truth.{yes, no, or_split}
use Rattle.float.specs.Ops.{◌+ᶠ◌, ◌*ᶠ◌}
use Rattle.float.specs.Root.{root_of}
use Rattle.float.specs.Order.{sqrt, hypot, min}
use Rattle.float.specs.Laws.Nan.{Number, nan_or, lt_nan, le_number}
use Rattle.float.specs.Laws.Compare.{lt_le, lt_not_le, not_lt_le, lt_le_trans, le_lt_trans}
use Rattle.float.specs.Laws.Zero.{origin, zero_not_above}
use Rattle.float.specs.Laws.Same.{Zero, same}
use Rattle.float.specs.Laws.Square.{Square, times_self, plus}
use Rattle.float.specs.Laws.Fits.{root_of_fits}
use Rattle.float.specs.Laws.Monotone.{root_of_mono, root_above}

-- ---- the root of a value above zero is above zero, since that of the least such value is
least : Format → Float
least binary32 = fin false 1 (negsuc 148)
least binary64 = fin false 1 (negsuc 1073)

least_above : (f : Format) → T (le origin (least f))
unfolding le least
least_above binary32 = tt
least_above binary64 = tt

least_root : (f : Format) → T (lt origin (root_of f (least f)))
unfolding root_of lt least
least_root binary32 = tt
least_root binary64 = tt

down_le : (f : Format) (m : ℕ) (e : ℤ) → T (fits f (fin false (suc m) e)) → down e ≤ 2 ^ low f
unfolding fits
down_le f m e t =
    let a = suc m % 2 == 1 && ltb (suc m) (2 ^ prec f) in
    let b = nat_le (down e) (2 ^ low f) in
    leb→le (down e) (2 ^ low f) (and_r a b (and_l (a && b) (nat_lt (suc m * up e) (2 ^ suc (emax f) * down e)) t))

least_le : (f : Format) (m : ℕ) (e : ℤ) → T (fits f (fin false (suc m) e)) → T (le (least f) (fin false (suc m) e))
unfolding least
least_le binary32 m e t =
    cross→le (least binary32) (fin false (suc m) e) tt (lt→ltb 0 (suc m) (zero-lt-suc m))
    (mul-le-mul (mul-pos (zero-lt-suc m) (up_pos e)) (down_le binary32 m e t))
least_le binary64 m e t =
    cross→le (least binary64) (fin false (suc m) e) tt (lt→ltb 0 (suc m) (zero-lt-suc m))
    (mul-le-mul (mul-pos (zero-lt-suc m) (up_pos e)) (down_le binary64 m e t))

pub root_positive : (f : Format) (x : Float) → T (fits f x) → T (lt origin x) → T (lt origin (root_of f x))
unfolding root_of lt
root_positive f nan t h = absurd h
root_positive f (inf true) t h = absurd h
root_positive f (inf false) t h = tt
root_positive f (fin true m e) t h = absurd h
root_positive f (fin false zero e) t h = absurd (zero_not_above false e h)
root_positive f (fin false (suc m) e) t h =
    lt_le_trans origin (root_of f (least f)) (root_of f (fin false (suc m) e)) (least_root f)
    (root_of_mono f (least f) (fin false (suc m) e) (least_above f) (least_le f m e t))

-- ---- of two values that are at least zero
zero_not_positive : (x : Float) → Zero x → T (lt origin x) → ⊥
zero_not_positive nan z h = z
zero_not_positive (inf s) z h = z
zero_not_positive (fin s m e) z h = zero_not_above s e (subst (λ (k : ℕ). T (lt origin (fin s k e))) z h)

le_eq : (x y : Float) → T (le x y) → T (not (lt x y)) → T (eq x y)
unfolding le
le_eq x y h n = elim (or_split (lt x y) (eq x y) h) [ inl l ↦ absurd (T_not (lt x y) n l) | inr e ↦ e ]

module _ (f : Format) (x y : Float) (p : T (fits f x)) (q : T (fits f y)) (o : T (le origin x)) (r : T (le origin y)) where
  -- y < x, and the test finds no difference of the roots: they are the same
  tied : T (lt y x) → T (not (lt (root_of f y) (root_of f x))) → root_of f x ≡ root_of f y
  tied h n =
      elim (same f (root_of f y) (root_of f x) (root_of_fits f y q) (root_of_fits f x p)
      (le_eq (root_of f y) (root_of f x) (root_of_mono f y x r (lt_le y x h)) n)) [
        | inl e ↦ sym e
        | inr z ↦ absurd (zero_not_positive (root_of f x) z.1 (root_positive f x p (le_lt_trans origin y x r h)))
      ]

  pub min_root : cond (lt (root_of f y) (root_of f x)) (root_of f y) (root_of f x) ≡ root_of f (cond (lt y x) y x)
  min_root = go (lt y x) (lt (root_of f y) (root_of f x)) refl refl
    where
      go : (b c : Bool) → lt y x ≡ b → lt (root_of f y) (root_of f x) ≡ c → cond c (root_of f y) (root_of f x) ≡ root_of f (cond b y x)
      go true true e i = refl
      go true false e i = tied (yes e) (no i)
      go false true e i =
          absurd (lt_not_le (root_of f y) (root_of f x) (yes i) (root_of_mono f x y o (not_lt_le x y (le_number origin x o).1 (le_number origin y r).1 (no e))))
      go false false e i = refl

-- ---- of values that are not below zero
at_least : (x : Float) → Number x → Square x → T (le origin x)
unfolding is_nan
at_least x n s = not_lt_le origin x tt n s.not_below

no_lesser : (x y : Float) → lt y x ≡ false → lt (sqrt y) (sqrt x) ≡ false → cond (lt (sqrt y) (sqrt x)) (sqrt y) (sqrt x) ≡ sqrt (cond (lt y x) y x)
no_lesser x y a b = rw (a, b) refl

root_nan : sqrt nan ≡ nan
unfolding root_of
root_nan = refl

-- if y < x { y } else { x }
pub lesser_root : (x y : Float) → Square x → Square y → cond (lt (sqrt y) (sqrt x)) (sqrt y) (sqrt x) ≡ sqrt (cond (lt y x) y x)
lesser_root x y s t =
    elim (nan_or x) [
      | inl i ↦ no_lesser x y (rw i (lt_nan y).0) (rw (i, root_nan) (lt_nan (sqrt y)).0)
      | inr n ↦
          elim (nan_or y) [
            | inl i ↦ no_lesser x y (rw i (lt_nan x).1) (rw (i, root_nan) (lt_nan (sqrt x)).1)
            | inr k ↦ min_root binary64 x y s.fit t.fit (at_least x n s) (at_least y k t)
          ]
    ]

pub square_root_number : (x : Float) → Number x → Square x → Number (sqrt x)
square_root_number x n s = (le_number origin (sqrt x) (root_above binary64 x (at_least x n s))).1

pub square_root : (x : Float) → Square x → Square (sqrt x)
square_root x s = record { fit = root_of_fits binary64 x s.fit; not_below = not_T (lt (sqrt x) origin) below }
  where
    below : T (lt (sqrt x) origin) → ⊥
    below h =
        elim (nan_or x) [
          | inl i ↦ subst T (lt_nan origin).1 (rw (i, root_nan) at h)
          | inr n ↦ lt_not_le (sqrt x) origin h (root_above binary64 x (at_least x n s))
        ]

pub hypot_square : (a b : Float) → Square (hypot a b)
unfolding hypot
hypot_square a b = square_root (a *ᶠ a +ᶠ b *ᶠ b) (plus (a *ᶠ a) (b *ᶠ b) (times_self a) (times_self b))

pub root_min : (x y : Float) → Square x → Square y → min (sqrt x) (sqrt y) ≡ sqrt (min x y)
unfolding min
root_min x y s t =
    elim (nan_or x) [
      | inl i ↦ rw (i, root_nan) (unfold is_nan in refl)
      | inr n ↦ rw (is_false (is_nan x) n, is_false (is_nan (sqrt x)) (square_root_number x n s)) (lesser_root x y s t)
    ]

-- ---- one after another
abbrev pub Squares : List Float → Type 0
Squares [] = Unit {0}
Squares (x ∷ xs) = Square x × Squares xs
