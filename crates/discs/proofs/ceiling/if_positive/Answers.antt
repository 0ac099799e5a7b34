-- `if_positive` meets its contract, by its test.
-- Rests on what `is_finite` and `then_some` ensure.
use Rattle.std.proofs.Common.{◌≡◌, Bool, true, false, cond, refl, Some, None, Float}
use Rattle.std.specs.Bool.{then_some}
use Rattle.discs.specs.Radius.{if_positive}
use Rattle.discs.proofs.ceiling.if_positive.Goals as goal

some_if : (b : Bool) (x : Float) → then_some b x ≡ cond b (Some x) None
some_if true x = refl
some_if false x = refl

pub returns : goal.returns
unfolding if_positive
returns c = rw (c.then_some.ensures, c.is_finite.ensures) (some_if _ _)
