-- Laws of refusals: which row answers where calls follow one another by `?`.
-- Rests on no number of a refusal being 0, and on the laws of faults.
use Prim.Native.Nat.{ℕ, zero, suc, ◌-◌, ◌<◌}
use Rattle.std.specs.Prelude.{◌≡◌, Result, Ok, Err, IfOk, IsErrAnd}
use Rattle.std.proofs.Math.Path.{refl, sym}
use Rattle.std.proofs.Common.{◌∙◌}
use Rattle.std.proofs.lemmas.Result.{err_from_is_err_and}
use native.Mathlib.Omega.{arith}
use Rattle.format.specs.declared.refusal.Refusal.{Refusal}
use Rattle.format.specs.declared.refusal.Refusal.TheVariants.{JobLength, WorkLength, Version, HeadValue, NumberAfterKind, JobEnds, BytesLeftOver}
use Rattle.format.specs.declared.refusal.Refusal.TheVariants.{Obstacle, Count, KeyByte, KeyOrder, MarkTotal, Vertex, SheetLength, SearchRoom, Ceiling}
use Rattle.format.specs.Refusals.{number_of, fault_of}
use Rattle.format.specs.Rows.{◌or_else◌, faults}
use Rattle.format.specs.RowLaws.{faults_stop}

pub numbered : (refusal : Refusal) → number_of refusal ≡ 0 → ⊥
numbered JobLength e = omega arith
numbered WorkLength e = omega arith
numbered Version e = omega arith
numbered HeadValue e = omega arith
numbered NumberAfterKind e = omega arith
numbered JobEnds e = omega arith
numbered BytesLeftOver e = omega arith
numbered Obstacle e = omega arith
numbered Count e = omega arith
numbered KeyByte e = omega arith
numbered KeyOrder e = omega arith
numbered MarkTotal e = omega arith
numbered Vertex e = omega arith
numbered SheetLength e = omega arith
numbered SearchRoom e = omega arith
numbered Ceiling e = omega arith

-- the first row refuses
pub first : (x y : ℕ) → (x ≡ 0 → ⊥) → x or_else y ≡ x
unfolding ◌or_else◌
first zero y h = absurd (h refl)
first (suc x) y h = refl

-- what is handed on by `?` has the number of what was refused
pub handed : {A : Type 0} {x : ℕ} (refusal : Refusal) (r : Result A Refusal) → number_of refusal ≡ x → IsErrAnd r (λ e. e ≡ refusal) → fault_of r ≡ x
handed refusal r f h =
    let p = err_from_is_err_and r h in
    rw (p.1, p.2) f

pub fails : {A : Type 0} (refusal : Refusal) (r : Result A Refusal) (x y : ℕ) → number_of refusal ≡ x → IsErrAnd r (λ e. e ≡ refusal) → fault_of r ≡ x or_else y
fails refusal r x y f h = handed refusal r f h ∙ sym (first x y (λ e. numbered refusal (f ∙ e)))

-- a call that found no fault gave the one value that it may
pub given : {A : Type 0} {v : A} (r : Result A Refusal) → fault_of r ≡ 0 → IfOk r (λ x. x ≡ v) → r ≡ Ok v
given (Ok x) f h = rw h
given (Err refusal) f h = absurd (numbered refusal f)

-- a call answered a value, so its row has no fault
pub passes : {z : ℕ} (x y : ℕ) → 0 ≡ x → z ≡ y → z ≡ x or_else y
unfolding ◌or_else◌
passes x y f e = rw (← f) e

-- one of n things is refused, the first of those left
pub stopped :
    {A S : Type 0} (next : S → S) (fault : S → ℕ) (refusal : Refusal) (r : Result A Refusal) {x : ℕ} (n i : ℕ) (at : S) → i < n → number_of refusal ≡ fault at
    → x ≡ faults fault next (n - i) at → IsErrAnd r (λ e. e ≡ refusal) → fault_of r ≡ x
stopped next fault refusal r n i at m f e h = handed refusal r (f ∙ sym (faults_stop next fault n i at m (λ z. numbered refusal (f ∙ z)) e)) h

-- a refusal goes before every later row
pub goes_first : {A : Type 0} (refusal : Refusal) (r : Result A Refusal) (x y : ℕ) → IsErrAnd r (λ e. e ≡ refusal) → fault_of r ≡ x → fault_of r ≡ x or_else y
goes_first refusal r x y h f = fails refusal r x y (sym (handed refusal r refl h) ∙ f) h
