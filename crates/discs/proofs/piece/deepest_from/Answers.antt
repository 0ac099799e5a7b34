-- `deepest_from` meets its contract, by the clearance.
-- Rests on the definition alone.
use Rattle.std.proofs.Common.{◌≡◌, refl}
use lib.Ieee.{Float}
use Rattle.deepest.specs.declared.search.Deepest.{Deepest}
use Rattle.deepest.specs.declared.search.Deepest.TheVariants.{Found, Nothing, Full}
use Rattle.discs.specs.Pieces.{deepest_from}
use Rattle.discs.proofs.piece.deepest_from.Goals as goal

as_it_is : (found : Deepest) → ((x y clearance : Float) → found ≡ Found x y clearance → ⊥) → found ≡ deepest_from found
unfolding deepest_from
as_it_is Nothing h = refl
as_it_is Full h = refl
as_it_is (Found x y clearance) h = absurd (h x y clearance refl)

pub returns-in_default : goal.returns-in_default
returns-in_default c = as_it_is c.args.found c.in_default.not-Found

pub returns-then-clearance : goal.returns-then-clearance
unfolding deepest_from
returns-then-clearance c = rw (c.in-Found.is, c.if-clearance.true)

pub returns : goal.returns
unfolding deepest_from
returns c = rw (c.in-Found.is, c.if-clearance.false)
