-- Reading one item after the other: where the reader stands, and which rows are left.
-- Rests on the laws of refusals.
use Rattle.std.specs.Prelude.{ℕ, ◌≡◌, refl, List, Result, IsErrAnd}
use Rattle.std.proofs.Common.{Bor, ◌∙◌}
use Rattle.format.specs.declared.refusal.Refusal.{Refusal}
use Rattle.format.specs.Refusals.{number_of, fault_of}
use Rattle.format.specs.Rows.{◌or_else◌}
use Rattle.format.specs.RefusalLaws.{fails, passes, handed}

-- a reader of s stands at n, and the rows that are left answer what all of them do
pub record Left (s : List ℕ) (all left n : ℕ) (bytes : Bor (List ℕ)) (at : ℕ) : Type 0 where
  pub of : bytes.now ≡ s
  pub is : at ≡ n
  pub rows : left ≡ all

pub start : (bytes : Bor (List ℕ)) (all : ℕ) {n at : ℕ} → at ≡ n → Left bytes.now all all n bytes at
start bytes all e = record { of = refl; is = e; rows = refl }

module _ {s : List ℕ} {all n : ℕ} {bytes : Bor (List ℕ)} {at : ℕ} where
  -- the first of them found nothing, and the reader went on to m
  pub went : {x y m : ℕ} {bytes' : Bor (List ℕ)} {at' : ℕ} → Left s all (x or_else y) n bytes at → 0 ≡ x → bytes' ≡ bytes → at' ≡ m → Left s all y m bytes' at'
  went {x} {y} p f b a = record { of = rw b p.of; is = a; rows = passes x y f refl ∙ p.rows }

  -- the first of them is refused
  pub stops :
      {A : Type 0} {x : ℕ} (y : ℕ) → Left s all (x or_else y) n bytes at → (refusal : Refusal) (r : Result A Refusal) → number_of refusal ≡ x
      → IsErrAnd r (λ e. e ≡ refusal) → fault_of r ≡ all
  stops {A} {x} y p refusal r f h = fails refusal r x y f h ∙ p.rows

  -- the last of them is refused
  pub ends :
      {A : Type 0} {x : ℕ} → Left s all x n bytes at → (refusal : Refusal) (r : Result A Refusal) → number_of refusal ≡ x
      → IsErrAnd r (λ e. e ≡ refusal) → fault_of r ≡ all
  ends p refusal r f h = handed refusal r f h ∙ p.rows
