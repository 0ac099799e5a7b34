-- Laws of faults and of runs, for every level: one turn of a loop, what passes, and which row answers (`search rows`).
-- Rests on the kit's laws of lists and tests.
use Prim.Native.Nat.{ℕ, zero, suc, ◌+◌, ◌-◌, ◌*◌, ◌<◌, ◌≤◌}
use Rattle.std.specs.Prelude.{◌≡◌, Bool, true, false, length, get_or, take, drop, set, leb, eqb}
use Rattle.std.proofs.Math.Path.{refl, sym}
use Rattle.std.proofs.Common.{◌∙◌, zero-add, add-one, drop-drop, rules, le-leb, eq-eqb, ne_eqb, length-append}
use mathlib.Core.List.{List, [], ◌∷◌, ◌++◌, append_assoc, append-nil, map, flatten, flat_map}
use native.Mathlib.Omega.{arith}
use Rattle.std.proofs.lemmas.List.Edits.{sets, sets-eq}
use Rattle.std.proofs.Math.Seq.{drop-append_seam}
use borrow.Rule.Slice.PartMut.{put_mid}
use Rattle.std.proofs.lemmas.Bool.{lt-leb}
use Rattle.laws.specs.Lists.{written}
use Rattle.format.specs.Rows.{◌unless◌, ◌or_else◌, faults, past, each, flat}

-- ---- what passes

pub passed : (number : ℕ) (test : Bool) → 0 < number → number unless test ≡ 0 → test ≡ true
unfolding ◌unless◌
passed number true h e = refl
passed number false h e = absurd (omega arith)

pub both : (x y : ℕ) → x or_else y ≡ 0 → (x ≡ 0) × (y ≡ 0)
unfolding ◌or_else◌
both zero y e = (refl, e)
both (suc x) y e = absurd (omega arith)

-- ---- runs of stores

pub sets_append : {A : Type 0} (l : List A) (k : ℕ) (xs ys : List A) → sets l k (xs ++ ys) ≡ sets (sets l k xs) (k + length xs) ys
sets_append l k [] ys =
    let e : k + 0 ≡ k = omega arith in
    rw e
sets_append l k (x ∷ xs) ys =
    let e : k + suc (length xs) ≡ suc k + length xs = omega arith in
    rw e (sets_append (set l k x) (suc k) xs ys)

-- stores from the front on
pub sets_written : {A : Type 0} (xs l : List A) → length xs ≤ length l → sets l 0 xs ≡ written xs l
unfolding written
sets_written xs l h = sets-eq xs l 0 (omega arith) ∙ rw zero-add

-- a part that is written as a whole
pub copied : {A : Type 0} (l xs : List A) (at end : ℕ) → at + length xs ≡ end → end ≤ length l → put_mid at (end - at) l xs ≡ sets l at xs
copied l xs at end e h =
    let k : end - at ≡ length xs = omega arith in
    rw (k, drop-drop (length xs) at l) (sym (sets-eq xs l at (omega arith) ∙ append_assoc (take at l) xs (drop (at + length xs) l)))

-- ---- runs that stand in some bytes

-- what stands behind the first of two
pub behind : {A : Type 0} (s : List A) (at : ℕ) (xs ys : List A) → drop at s ≡ xs ++ ys → drop (at + length xs) s ≡ ys
behind s at xs ys e = sym (drop-drop (length xs) at s) ∙ rw e (drop-append_seam xs ys)

-- ---- which row answers

-- the fault that a call found
pub row_fault : {r : ℕ} (v x y : ℕ) → v ≡ x → (v ≡ 0 → ⊥) → r ≡ v → r ≡ x or_else y
unfolding ◌or_else◌
row_fault v zero y f h e = absurd (h f)
row_fault v (suc x) y f h e = e ∙ f

-- a call found none
pub row_clear : {r : ℕ} (v x y : ℕ) → v ≡ x → v ≡ 0 → r ≡ y → r ≡ x or_else y
unfolding ◌or_else◌
row_clear v zero y f h e = e
row_clear v (suc x) y f h e = absurd (omega arith)

-- the test holds
pub row_has : {r : ℕ} (m n number y : ℕ) → m ≤ n → r ≡ y → r ≡ number unless leb m n or_else y
unfolding ◌unless◌ ◌or_else◌
row_has m n number y h e = rw (le-leb m n h) e

pub row_true : {r : ℕ} (b q : Bool) (number y : ℕ) → q ≡ b → q ≡ true → r ≡ y → r ≡ number unless b or_else y
unfolding ◌unless◌ ◌or_else◌
row_true b q number y f h e = rw (← f, h) e

-- the test fails
pub row_lacks : {r : ℕ} (m n number y : ℕ) → n < m → 0 < number → r ≡ number → r ≡ number unless leb m n or_else y
unfolding ◌unless◌ ◌or_else◌
row_lacks m n zero y h l e = absurd (omega arith)
row_lacks m n (suc number) y h l e = rw (lt-leb m n h) e

pub row_false : {r : ℕ} (b q : Bool) (number y : ℕ) → q ≡ b → q ≡ false → 0 < number → r ≡ number → r ≡ number unless b or_else y
unfolding ◌unless◌ ◌or_else◌
row_false b q zero y f h l e = absurd (omega arith)
row_false b q (suc number) y f h l e = rw (← f, h) e

-- the last row
pub last_has : {r : ℕ} (m n number : ℕ) → m ≤ n → r ≡ 0 → r ≡ number unless leb m n
unfolding ◌unless◌
last_has m n number h e = rw (le-leb m n h) e

pub last_lacks : {r : ℕ} (m n number : ℕ) → n < m → r ≡ number → r ≡ number unless leb m n
unfolding ◌unless◌
last_lacks m n number h e = rw (lt-leb m n h) e

pub last_true : {r : ℕ} (b q : Bool) (number : ℕ) → q ≡ b → q ≡ true → r ≡ 0 → r ≡ number unless b
unfolding ◌unless◌
last_true b q number f h e = rw (← f, h) e

pub last_false : {r : ℕ} (b q : Bool) (number : ℕ) → q ≡ b → q ≡ false → r ≡ number → r ≡ number unless b
unfolding ◌unless◌
last_false b q number f h e = rw (← f, h) e

pub last_same : {r : ℕ} (m n number : ℕ) → m ≡ n → r ≡ 0 → r ≡ number unless eqb m n
unfolding ◌unless◌
last_same m n number h e = rw (eq-eqb m n h) e

pub last_other : {r : ℕ} (m n number : ℕ) → (m ≡ n → ⊥) → r ≡ number → r ≡ number unless eqb m n
unfolding ◌unless◌
last_other m n number h e = rw (ne_eqb m n h) e

pub ruleset rows = (row_fault, row_clear, row_has, row_true, row_lacks, row_false, last_has, last_lacks, last_true, last_false, last_same, last_other, rules)

-- ---- a loop over n things: what was known of those from the i-th on, the first of them at `at`, is known of the rest after one turn, and at the end
-- The place that the code came to is `to`.

rest : (n i : ℕ) → i < n → n - i ≡ suc (n - (i + 1))
rest n i h = omega arith

none : (n i : ℕ) → n ≤ i → n - i ≡ 0
none n i h = omega arith

module _ {S : Type 0} (next : S → S) where
  module _ (fault : S → ℕ) where
    -- the one at `at` has a fault, so that is the first
    pub faults_stop : {r : ℕ} (n i : ℕ) (at : S) → i < n → (fault at ≡ 0 → ⊥) → r ≡ faults fault next (n - i) at → r ≡ fault at
    unfolding faults
    faults_stop n i at m h e = rw (rest n i m) at e ∙ sym (row_fault (fault at) (fault at) _ refl h refl)

    pub faults_turn :
        {r : ℕ} {to : S} (n i : ℕ) (at : S) → i < n → 0 ≡ fault at → to ≡ next at
        → r ≡ faults fault next (n - i) at → r ≡ faults fault next (n - (i + 1)) to
    unfolding faults
    faults_turn n i at m h t e = rw (rest n i m) at e ∙ rw t (sym (row_clear (fault at) (fault at) _ refl (sym h) refl))

    pub faults_end : {r : ℕ} (n i : ℕ) (at : S) → n ≤ i → r ≡ faults fault next (n - i) at → 0 ≡ r
    unfolding faults
    faults_end n i at h e = sym (rw (none n i h) at e)

  pub past_turn : {r to : S} (n i : ℕ) (at : S) → i < n → to ≡ next at → r ≡ past next (n - i) at → r ≡ past next (n - (i + 1)) to
  unfolding past
  past_turn n i at m t e = rw (rest n i m) at e ∙ rw t

  pub past_end : {r : S} (n i : ℕ) (at : S) → n ≤ i → r ≡ past next (n - i) at → at ≡ r
  unfolding past
  past_end n i at h e = sym (rw (none n i h) at e)

  module _ {A : Type 0} where
    pub length_each : (view : S → A) (n : ℕ) (at : S) → length (each view next n at) ≡ n
    unfolding each
    length_each view zero at = refl
    length_each view (suc n) at = rw (length_each view n (next at))

    -- one more item a turn
    pub each_turn :
        (view : S → A) {x l' : List A} {to : S} (l : List A) (n i : ℕ) (at : S) → i < n → to ≡ next at → l' ≡ l ++ view at ∷ []
        → x ≡ l ++ each view next (n - i) at → x ≡ l' ++ each view next (n - (i + 1)) to
    unfolding each
    each_turn view l n i at m t o e = rw (rest n i m) at e ∙ rw (t, o, append_assoc)

    -- one more store a turn
    pub store_turn :
        (view : S → A) {x out' : List A} {k' : ℕ} {to : S} (out : List A) (k n : ℕ) (at : S) → 0 < n → to ≡ next at → k' ≡ k + 1 → out' ≡ set out k (view at)
        → x ≡ sets out k (each view next n at) → x ≡ sets out' k' (each view next (n - 1) to)
    unfolding each
    store_turn view out k zero at m t j o e = absurd (omega arith)
    store_turn view out k (suc n) at m t j o e =
        let l : suc n - 1 ≡ n = omega arith in
        e ∙ rw (l, t, j, o, add-one)

    pub store_end : (view : S → A) {x : List A} (out : List A) (k n : ℕ) (at : S) → n ≤ 0 → x ≡ sets out k (each view next n at) → out ≡ x
    unfolding each
    store_end view out k zero at h e = sym e
    store_end view out k (suc n) at h e = absurd (omega arith)

    pub each_end : (view : S → A) {x : List A} (l : List A) (n i : ℕ) (at : S) → n ≤ i → x ≡ l ++ each view next (n - i) at → l ≡ x
    unfolding each
    each_end view l n i at h e = sym (rw (none n i h) at e ∙ append-nil l)

    -- some more items a turn
    pub flat_turn :
        (view : S → List A) {x l' : List A} {to : S} (l : List A) (n i : ℕ) (at : S) → i < n → to ≡ next at → l' ≡ l ++ view at
        → x ≡ l ++ flat view next (n - i) at → x ≡ l' ++ flat view next (n - (i + 1)) to
    unfolding flat
    flat_turn view l n i at m t o e = rw (rest n i m) at e ∙ rw (t, o, append_assoc)

    pub flat_end : (view : S → List A) {x : List A} (l : List A) (n i : ℕ) (at : S) → n ≤ i → x ≡ l ++ flat view next (n - i) at → l ≡ x
    unfolding flat
    flat_end view l n i at h e = sym (rw (none n i h) at e ∙ append-nil l)

    pub length_turn :
        (view : S → List A) {r k' : ℕ} {to : S} (k n : ℕ) (at : S) → 0 < n → to ≡ next at → k' ≡ k + length (view at)
        → r ≡ k + length (flat view next n at) → r ≡ k' + length (flat view next (n - 1) to)
    unfolding flat
    length_turn view k zero at m t j e = absurd (omega arith)
    length_turn view k (suc n) at m t j e =
        let l : suc n - 1 ≡ n = omega arith in
        rw (l, t) (omega (arith, length-append (view at) (flat view next n (next at))))

    pub length_end : (view : S → List A) {r : ℕ} (k n : ℕ) (at : S) → n ≤ 0 → r ≡ k + length (flat view next n at) → k ≡ r
    unfolding flat
    length_end view k zero at h e = omega arith
    length_end view k (suc n) at h e = absurd (omega arith)

    -- some stores a turn
    pub put_turn :
        (view : S → List A) {x out' : List A} {k' : ℕ} {to : S} (out : List A) (k n i : ℕ) (at : S)
        → i < n → to ≡ next at → k' ≡ k + length (view at) → out' ≡ sets out k (view at)
        → x ≡ sets out k (flat view next (n - i) at) → x ≡ sets out' k' (flat view next (n - (i + 1)) to)
    unfolding flat
    put_turn view out k n i at m t j o e = rw (rest n i m) at e ∙ rw (t, j, o) (sets_append out k (view at) (flat view next (n - (i + 1)) (next at)))

    pub put_end : (view : S → List A) {x : List A} (out : List A) (k n i : ℕ) (at : S) → n ≤ i → x ≡ sets out k (flat view next (n - i) at) → out ≡ x
    unfolding flat
    put_end view out k n i at h e = sym (rw (none n i h) at e)

-- ---- some of them, and those after them

pub or_else_assoc : (x y z : ℕ) → (x or_else y) or_else z ≡ x or_else y or_else z
unfolding ◌or_else◌
or_else_assoc zero y z = refl
or_else_assoc (suc x) y z = refl

pub faults_more :
    {S : Type 0} (fault : S → ℕ) (next : S → S) (m n : ℕ) (at : S)
    → faults fault next (m + n) at ≡ faults fault next m at or_else faults fault next n (past next m at)
unfolding faults past ◌or_else◌
faults_more fault next zero n at = rw zero-add
faults_more fault next (suc m) n at =
    let e : suc m + n ≡ suc (m + n) = omega arith in
    rw (e, faults_more fault next m n (next at)) (sym (or_else_assoc (fault at) _ _))

-- things without fault that each end in a part: so does a run of them
pub past_within :
    (fault next : ℕ → ℕ) (end : ℕ) → ((at : ℕ) → fault at ≡ 0 → next at ≤ end) → (n at : ℕ)
    → at ≤ end → faults fault next n at ≡ 0 → past next n at ≤ end
unfolding faults past
past_within fault next end h zero at m e = m
past_within fault next end h (suc n) at m e =
    let p = both (fault at) (faults fault next n (next at)) e in
    past_within fault next end h n (next at) (h at p.0) p.1

-- k at a time
pub faults_by :
    {S : Type 0} (fault : S → ℕ) (next skip : S → S) (k : ℕ) → ((z : S) → past next k z ≡ skip z) → (n : ℕ) (at : S)
    → faults fault next (k * n) at ≡ faults (faults fault next k) skip n at
unfolding faults
faults_by fault next skip k h zero at =
    let e : k * 0 ≡ 0 = omega arith in
    rw e refl
faults_by fault next skip k h (suc n) at =
    let e : k * suc n ≡ k + k * n = omega arith in
    rw (e, faults_more fault next k (k * n) at, h at, faults_by fault next skip k h n (skip at))

-- ---- one of them

module _ {S : Type 0} (next : S → S) where
  pub faults_at : (fault : S → ℕ) (n : ℕ) (at : S) → faults fault next n at ≡ 0 → (i : ℕ) → i < n → fault (past next i at) ≡ 0
  unfolding faults past
  faults_at fault zero at e i h = absurd (omega arith)
  faults_at fault (suc n) at e zero h = (both (fault at) (faults fault next n (next at)) e).0
  faults_at fault (suc n) at e (suc i) h = faults_at fault n (next at) (both (fault at) (faults fault next n (next at)) e).1 i (omega arith)

  pub each_at : {A : Type 0} (view : S → A) (n : ℕ) (at : S) (d : A) (i : ℕ) → i < n → get_or (each view next n at) i d ≡ view (past next i at)
  unfolding each past
  each_at view zero at d i h = absurd (omega arith)
  each_at view (suc n) at d zero h = refl
  each_at view (suc n) at d (suc i) h = each_at view n (next at) d i (omega arith)

-- ---- the flat list is the list of what they are, end to end

pub flat_flatten : {S A : Type 0} (next : S → S) (view : S → List A) (n : ℕ) (at : S) → flat view next n at ≡ flatten (each view next n at)
unfolding flat each flatten
flat_flatten next view zero at = refl
flat_flatten next view (suc n) at = rw (flat_flatten next view n (next at))

module _ {S A B : Type 0} (next : S → S) (view : S → A) where
  pub each_map : (f : A → B) (g : S → B) → ((z : S) → g z ≡ f (view z)) → (n : ℕ) (at : S) → each g next n at ≡ map f (each view next n at)
  unfolding each
  each_map f g h zero at = refl
  each_map f g h (suc n) at = rw (h at, each_map f g h n (next at))

  pub flat_each : (f : A → List B) (g : S → List B) → ((z : S) → g z ≡ f (view z)) → (n : ℕ) (at : S) → flat g next n at ≡ flat_map f (each view next n at)
  unfolding flat each flat_map
  flat_each f g h zero at = refl
  flat_each f g h (suc n) at = rw (h at, flat_each f g h n (next at))
