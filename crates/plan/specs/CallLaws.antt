-- Laws of the call: how long what is lent is, and what the work slices hold after it.
-- Rests on the laws of rows.
use Rattle.std.specs.Prelude.{ℕ, ◌≤◌, ◌≡◌, List, ◌++◌, length, take, drop, replicate, Float}
use Rattle.std.proofs.Common.{ap, ◌∙◌, arith, drop_at, length-take-le}
use Rattle.std.proofs.lemmas.List.{length-replicate}
use borrow.Author.Tests.{leb-true}
use Rattle.laws.specs.Lists.{written}
use Rattle.float.specs.Ops.{0ᶠ}
use Rattle.format.specs.RowLaws.{both, passed}
use Rattle.job.specs.Head.{lent_fault, work_fault}

-- ---- row 1: the job is short

pub lent_short : (s : List ℕ) → lent_fault s ≡ 0 → length s ≤ 65536
unfolding lent_fault
lent_short s e = leb-true (length s) 65536 (passed 1 _ (omega arith) (both _ _ (both _ _ e).1).0)

-- ---- row 2: the work slices are long

pub work_long : (first second : ℕ) → work_fault first second ≡ 0 → (8000 ≤ first) × (8000 ≤ second)
unfolding work_fault
work_long first second e =
    let p = both _ _ e in
    (leb-true 8000 first (passed 2 _ (omega arith) p.0), leb-true 8000 second (passed 2 _ (omega arith) p.1))

-- ---- the first n of a slice, lent and given back

pub still_long : (n was is : ℕ) → n ≤ was → is ≡ was → n ≤ is
still_long n was is long same = omega arith

pub front_count : {A : Type 0} (n : ℕ) (back l : List A) → n ≤ length l → length (back ++ drop n l) ≡ length l → length (take n (back ++ drop n l)) ≡ n
front_count n back l long same = length-take-le n (back ++ drop n l) (still_long n (length l) (length (back ++ drop n l)) long same)

-- filled with z
pub filled_front :
    {A : Type 0} (n : ℕ) (z : A) (filled l : List A) → filled ≡ replicate n z → filled ++ drop n l ≡ written (replicate n z) l
unfolding written
filled_front {A = A} n z filled l e = ap (λ (xs : List A). xs ++ drop n l) e ∙ rw (length-replicate n z)

-- lent a second time, and filled with z
pub cleared_at :
    {A : Type 0} (n : ℕ) (z : A) (filled back l : List A) → filled ≡ replicate n z → n ≤ length l → length back ≡ length (take n l)
    → filled ++ drop n (back ++ drop n l) ≡ written (replicate n z) l
unfolding written
cleared_at {A = A} n z filled back l e long same =
    ap (λ (xs : List A). xs ++ drop n (back ++ drop n l)) e
    ∙ rw (drop_at back (drop n l) n (same ∙ length-take-le n l long), length-replicate n z)

-- ---- the call

abbrev pub cleared : List Float → List Float
cleared work = written (replicate 8000 0ᶠ) work
