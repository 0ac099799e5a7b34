-- The order in which waiting cells leave: the greatest bound first, of equal bounds the first to enter.
-- Rests on float's laws of comparisons.
use Rattle.std.specs.Prelude.{◌≡◌, ℕ, zero, suc, ◌+◌, ◌-◌, ◌*◌, ◌<◌, ◌≤◌, ◌==◌, nat_lt, refl, Float}
use Rattle.std.specs.Prelude.{Bool, true, false, cond, not, ◌&&◌, ◌||◌, T, ◌⊎◌, Some}
use Rattle.std.specs.Prelude.{List, [], ◌∷◌, ◌++◌, length, take, slice_index_or, slice_set}
use Rattle.std.specs.Ordering.{is_lt, is_some_and, nat_cmp, nan_last_cmp, partial_ordering_then, partial_lt}
use Rattle.std.proofs.Common.{sym, ◌∙◌, inl, inr, true≢false, append-nil, le_antisymm, add-one, add_comm, arith}
use Rattle.std.proofs.Common.{Ordering, Less, Equal, Greater, le-ltb, ltb-true, ltb-false, take_all, take-suc-set}
use Rattle.std.proofs.Math.Nat
use Rattle.std.proofs.Math.Seq.{append_snoc}
use Rattle.std.specs.Float.{nan, inf, fin}
use Rattle.std.specs.Float.Ieee.{up, down, lt, neg, is_nan}
use Rattle.std.proofs.Math.Facts.{and_yes}
use Rattle.laws.specs.Truth.{yes, no, refuted, or_split}
use Rattle.float.specs.Ops.{◌+ᶠ◌, ◌*ᶠ◌, ◌/ᶠ◌, ◌<ᶠ◌, literal, 2ᶠ}
use Rattle.float.specs.Laws.Nan.{Number, lt_nan, lt_number}
use Rattle.float.specs.Laws.Compare.{le_trans, lt_le, lt_not_le, not_lt_le}
use Rattle.deepest.specs.declared.queue.Cell.{Cell}

-- std::f64::consts::SQRT_2
abbrev pub √2ᶠ : Float
√2ᶠ = literal 0x3ff6_a09e_667f_3bcd

-- h, h / 2.0, and so on: n half widths
unfoldable pub halves_from : Float → ℕ → List Float
halves_from h zero = []
halves_from h (suc n) = h ∷ halves_from (h /ᶠ 2ᶠ) n

-- h of a cell: the half width of the first cells after its halvings
abbrev pub half_at : List Float → ℕ → Float
half_at halves k = slice_index_or halves k nan

-- ub: d + h * SQRT_2
unfoldable pub bound_of : List Float → Cell → Float
bound_of halves c = c.d +ᶠ half_at halves c.halvings *ᶠ √2ᶠ

-- whether a bound is lower than another; a NaN, which no piece of a job gives, is lower than any number
unfoldable pub lower_than : Float → Float → Bool
lower_than x y = x <ᶠ y || (is_nan x && not (is_nan y))

-- by bound and entry
unfoldable pub sooner : Float → ℕ → Float → ℕ → Bool
sooner u i v j = lower_than v u || (not (lower_than u v) && nat_lt i j)

-- whether cell a leaves before cell b
unfoldable pub leaves : List Float → Cell → Cell → Bool
leaves halves a b = sooner (bound_of halves a) a.entry (bound_of halves b) b.entry

-- ---- laws of `lower_than`

nan_low : (x y : Float) → T (is_nan x) → T (not (is_nan y)) → T (lower_than x y)
unfolding lower_than is_nan lt
nan_low nan nan p q = absurd q
nan_low nan (inf s) p q = tt
nan_low nan (fin s m e) p q = tt
nan_low (inf s) y p q = absurd p
nan_low (fin s m e) y p q = absurd p

kind : (x : Float) → T (is_nan x) ⊎ Number x
unfolding is_nan
kind nan = inl tt
kind (inf s) = inr tt
kind (fin s m e) = inr tt

clash : (b : Bool) → T b → T (not b) → ⊥
clash true p q = q
clash false p q = p

-- how one is lower
low_cases : (x y : Float) → T (lower_than x y) → T (lt x y) ⊎ (T (is_nan x) × Number y)
unfolding lower_than
low_cases x y h = elim (or_split (lt x y) (is_nan x && not (is_nan y)) h) [ inl l ↦ inl l | inr n ↦ inr (and_yes (is_nan x) (not (is_nan y)) n) ]

lt_low : (x y : Float) → T (lt x y) → T (lower_than x y)
unfolding lower_than
lt_low x y h = first (lt x y) (is_nan x && not (is_nan y)) h
  where
    first : (a b : Bool) → T a → T (a || b)
    first true b t = tt
    first false b t = absurd t

low_asym : (x y : Float) → T (lower_than x y) → T (lower_than y x) → ⊥
low_asym x y h k =
    elim (low_cases x y h) [
      | inl l ↦ elim (low_cases y x k) [ inl m ↦ lt_not_le x y l (lt_le y x m) | inr n ↦ clash (is_nan y) n.0 (lt_number x y l).1 ]
      | inr n ↦ elim (low_cases y x k) [ inl m ↦ clash (is_nan x) n.0 (lt_number y x m).1 | inr m ↦ clash (is_nan y) m.0 n.1 ]
    ]

decided : (c : Bool) → T c ⊎ T (not c)
decided true = inl tt
decided false = inr tt

not_low : (a b : Float) → lower_than a b ≡ false → T (not (lt a b))
not_low a b e = elim (decided (lt a b)) [ inl t ↦ absurd (clash (lower_than a b) (lt_low a b t) (no e)) | inr f ↦ f ]

-- what is not lower than one that is not lower than a third is not lower than that
low_chain : (x y z : Float) → lower_than x y ≡ false → lower_than y z ≡ false → lower_than x z ≡ false
low_chain x y z p q = refuted (lower_than x z) (λ (h : T (lower_than x z)). elim (low_cases x z h) [ inl l ↦ less l | inr n ↦ bare n.0 n.1 ])
  where
    bare : T (is_nan x) → Number z → ⊥
    bare n m = elim (kind y) [ inl k ↦ clash (lower_than y z) (nan_low y z k m) (no q) | inr k ↦ clash (lower_than x y) (nan_low x y n k) (no p) ]

    less : T (lt x z) → ⊥
    less l =
        elim (kind y) [
          | inl k ↦ clash (lower_than y z) (nan_low y z k (lt_number x z l).1) (no q)
          | inr k ↦
              lt_not_le x z l
              (le_trans z y x (not_lt_le z y (lt_number x z l).1 k (not_low y z q)) (not_lt_le y x k (lt_number x z l).0 (not_low x y p)))
        ]

-- ---- laws of `sooner`

-- (u, i) does not leave before (v, j)
record After (u : Float) (i : ℕ) (v : Float) (j : ℕ) : Type 0 where
  bound : lower_than v u ≡ false
  entry : (lower_than u v ≡ true) ⊎ (j ≤ i)

after : (u : Float) (i : ℕ) (v : Float) (j : ℕ) → sooner u i v j ≡ false → After u i v j
unfolding sooner
after u i v j h = go (lower_than v u) (lower_than u v) refl refl h
  where
    go : (p q : Bool) → lower_than v u ≡ p → lower_than u v ≡ q → p || (not q && nat_lt i j) ≡ false → After u i v j
    go true q e f h = absurd (true≢false h)
    go false true e f h = record { bound = e; entry = inl f }
    go false false e f h = record { bound = e; entry = inr (ltb-false i j h) }

late : (u : Float) (i : ℕ) (v : Float) (j : ℕ) → After u i v j → sooner u i v j ≡ false
unfolding sooner
late u i v j h = rw h.bound (elim h.entry [ inl e ↦ rw e | inr e ↦ second (lower_than u v) e ])
  where
    second : (q : Bool) → j ≤ i → not q && nat_lt i j ≡ false
    second true e = refl
    second false e = le-ltb i j e

sooner_chain :
    (u : Float) (i : ℕ) (v : Float) (j : ℕ) (w : Float) (k : ℕ) → sooner u i v j ≡ false → sooner v j w k ≡ false → sooner u i w k ≡ false
sooner_chain u i v j w k p q =
    let f = after u i v j p in
    let g = after v j w k q in
    late u i w k (record { bound = low_chain w v u g.bound f.bound; entry = joined f g (lower_than u w) refl })
  where
    joined : After u i v j → After v j w k → (t : Bool) → lower_than u w ≡ t → (lower_than u w ≡ true) ⊎ (k ≤ i)
    joined f g true e = inl e
    joined f g false e =
        elim f.entry [
          | inl h ↦ absurd (true≢false (sym h ∙ low_chain u w v e g.bound))
          | inr h ↦
              elim g.entry [
                | inl l ↦ absurd (true≢false (sym l ∙ low_chain v u w f.bound e))
                | inr l ↦ inr (Nat.le_trans l h)
              ]
        ]

sooner_asym : (u : Float) (i : ℕ) (v : Float) (j : ℕ) → sooner u i v j ≡ true → sooner v j u i ≡ false
unfolding sooner
sooner_asym u i v j h = go (lower_than v u) (lower_than u v) refl refl h
  where
    go : (p q : Bool) → lower_than v u ≡ p → lower_than u v ≡ q → p || (not q && nat_lt i j) ≡ true → q || (not p && nat_lt j i) ≡ false
    go true true e f h = absurd (low_asym v u (yes e) (yes f))
    go true false e f h = refl
    go false true e f h = absurd (true≢false (sym h))
    go false false e f h =
        let l = ltb-true i j h in
        le-ltb j i (omega arith)

sooner_tie : (u : Float) (i : ℕ) (v : Float) (j : ℕ) → sooner u i v j ≡ false → sooner v j u i ≡ false → i ≡ j
sooner_tie u i v j p q =
    let f = after u i v j p in
    let g = after v j u i q in
    elim f.entry [
      | inl h ↦ absurd (true≢false (sym h ∙ g.bound))
      | inr h ↦ elim g.entry [ inl l ↦ absurd (true≢false (sym l ∙ f.bound)) | inr l ↦ le_antisymm l h ]
    ]

-- ---- the order as the library's: turned over, the least bound first, and a NaN last
neg_nan : (x : Float) → is_nan (neg x) ≡ is_nan x
unfolding neg is_nan
neg_nan nan = refl
neg_nan (inf s) = refl
neg_nan (fin s m e) = refl

neg_lt : (x y : Float) → lt (neg x) (neg y) ≡ lt y x
unfolding neg lt
neg_lt nan nan = refl
neg_lt nan (inf t) = refl
neg_lt nan (fin t n d) = refl
neg_lt (inf s) nan = refl
neg_lt (inf true) (inf true) = refl
neg_lt (inf true) (inf false) = refl
neg_lt (inf false) (inf true) = refl
neg_lt (inf false) (inf false) = refl
neg_lt (inf s) (fin t n d) = refl
neg_lt (fin s m e) nan = refl
neg_lt (fin s m e) (inf true) = refl
neg_lt (fin s m e) (inf false) = refl
neg_lt (fin true m e) (fin true n d) = refl
neg_lt (fin true m e) (fin false n d) = refl
neg_lt (fin false m e) (fin true n d) = rw (add_comm (m * up e * down d))
neg_lt (fin false m e) (fin false n d) = refl

not_lt_nan : (x y : Float) → is_nan x ≡ true → (lt x y ≡ false) × (lt y x ≡ false)
unfolding is_nan
not_lt_nan nan y h = ((lt_nan y).1, (lt_nan y).0)
not_lt_nan (inf s) y h = absurd (true≢false (sym h))
not_lt_nan (fin s m e) y h = absurd (true≢false (sym h))

cmp_lt : (i j : ℕ) → is_lt (nat_cmp i j) ≡ nat_lt i j
cmp_lt i j = go (nat_lt i j) (i == j)
  where
    go : (a b : Bool) → is_lt (cond a Less (cond b Equal Greater)) ≡ a
    go true b = refl
    go false true = refl
    go false false = refl

-- how the library compares two bounds, by whether each is a NaN, and which is lower
abbrev compared : Bool → Bool → Bool → Bool → Ordering
compared p q l g = cond p (cond q Equal Greater) (cond q Less (cond l Less (cond g Greater Equal)))

pub sooner_cmp :
    (u : Float) (i : ℕ) (v : Float) (j : ℕ)
    → partial_lt (λ (x y : Float × ℕ). partial_ordering_then (Some (nan_last_cmp x.0 y.0)) (Some (nat_cmp x.1 y.1))) (neg u, i) (neg v, j)
    ≡ sooner u i v j
unfolding sooner lower_than
sooner_cmp u i v j =
    rw (neg_nan u, neg_nan v, neg_lt u v, neg_lt v u)
    (go (is_nan u) (is_nan v) (lt v u) (lt u v) (not_lt_nan u v) (not_lt_nan v u))
  where
    go :
        (p q l g : Bool) → (p ≡ true → (g ≡ false) × (l ≡ false)) → (q ≡ true → (l ≡ false) × (g ≡ false))
        → is_some_and is_lt (partial_ordering_then (Some (compared p q l g)) (Some (nat_cmp i j)))
        ≡ (l || (q && not p)) || (not (g || (p && not q)) && nat_lt i j)
    go true true true g f h = absurd (true≢false (f refl).1)
    go true true false true f h = absurd (true≢false (f refl).0)
    go true true false false f h = cmp_lt i j
    go true false true g f h = absurd (true≢false (f refl).1)
    go true false false true f h = refl
    go true false false false f h = refl
    go false true true g f h = refl
    go false true false g f h = refl
    go false false true g f h = refl
    go false false false true f h = refl
    go false false false false f h = cmp_lt i j

-- ---- laws of `leaves`

module _ (halves : List Float) where
  pub leaves_chain : (a b c : Cell) → leaves halves a b ≡ false → leaves halves b c ≡ false → leaves halves a c ≡ false
  unfolding leaves
  leaves_chain a b c p q = sooner_chain _ a.entry (bound_of halves b) b.entry _ c.entry p q

  pub leaves_asym : (a b : Cell) → leaves halves a b ≡ true → leaves halves b a ≡ false
  unfolding leaves
  leaves_asym a b h = sooner_asym (bound_of halves a) a.entry (bound_of halves b) b.entry h

  -- of two that do not leave before one another the entries are equal
  pub leaves_tie : (a b : Cell) → leaves halves a b ≡ false → leaves halves b a ≡ false → a.entry ≡ b.entry
  unfolding leaves
  leaves_tie a b p q = sooner_tie (bound_of halves a) a.entry (bound_of halves b) b.entry p q

-- ---- laws of the table, for its loop

pub halves_step :
    (l : List Float) (h : Float) (n k : ℕ) → k < length l → k < n
    → take k l ++ halves_from h (n - k) ≡ take (k + 1) (slice_set l k h) ++ halves_from (h /ᶠ 2ᶠ) (n - (k + 1))
unfolding halves_from
halves_step l h n k p q =
    let e : n - k ≡ suc (n - (k + 1)) = omega arith in
    rw (e, add-one, take-suc-set l k h p, append_snoc (take k l) h (halves_from (h /ᶠ 2ᶠ) (n - suc k)))

pub halves_done : (l : List Float) (h : Float) (n : ℕ) → length l ≡ n → take n l ++ halves_from h 0 ≡ l
unfolding halves_from
halves_done l h n e = rw (take_all n l (omega arith), append-nil)
