-- What is chosen by a kind.
-- Rests on nothing but the definitions.
use Rattle.std.specs.Prelude.{ℕ, zero, suc, ◌≡◌, refl, Option, None, Some, unwrap_or, Float}
use Rattle.std.proofs.Common.{ap, arith, ne_eqb}
use Rattle.discs.specs.declared.options.Radius.TheVariants.{Auto, Stated}
use Rattle.job.specs.Head.{radius_of, boundary_of}
use Rattle.job.specs.Steps.{number_of_kind}

pub radius_auto : (kind n : ℕ) → None ≡ number_of_kind kind n → Auto ≡ radius_of kind n
unfolding radius_of
radius_auto zero n e = refl
radius_auto (suc kind) n e = cc

pub radius_stated : (kind n : ℕ) {x : Float} → Some x ≡ number_of_kind kind n → Stated x ≡ radius_of kind n
unfolding radius_of
radius_stated zero n e = cc
radius_stated (suc kind) n {x} e = rw (ne_eqb (suc kind) 0 (λ z. omega arith)) (ap (λ (o : Option Float). Stated (unwrap_or o x)) e)

pub boundary_is : (kind n : ℕ) → number_of_kind kind n ≡ boundary_of kind n
unfolding boundary_of
boundary_is zero n = refl
boundary_is (suc kind) n = rw (ne_eqb (suc kind) 0 (λ z. omega arith))
