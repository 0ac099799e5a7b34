-- `search_piece` finds the deepest point where it is asked for.
-- Rests on what its calls ensure.
use mathlib.Core.Path.{◌≡◌, refl, sym, ap, ◌∙◌}
use mathlib.Core.Bool.{true}
use Rattle.deepest.specs.Deepest.{deeper_of, poi_with_holes}
use Rattle.deepest.specs.declared.search.Deepest.{Deepest}
use Rattle.deepest.specs.declared.search.Deepest.TheVariants.{Found, Nothing, Full}
use Rattle.discs.specs.Searches.{searched, had_room}
use Rattle.plan.proofs.searches.search_piece.Goals as goal

other : (found : Deepest) → (found ≡ Full → ⊥) → true ≡ had_room found
unfolding had_room
other Full h = absurd (h refl)
other Nothing h = refl
other (Found x y clearance) h = refl

pub returns-then-not-is_searched-clause-room : goal.returns-then-not-is_searched-clause-room
unfolding searched had_room
returns-then-not-is_searched-clause-room c = rw (← c.is_searched.ensures, c.if-not-is_searched.true)

pub returns-then-not-is_searched-clause-found : goal.returns-then-not-is_searched-clause-found
unfolding searched
returns-then-not-is_searched-clause-found c = rw (← c.is_searched.ensures, c.if-not-is_searched.true)

pub returns-in-Full-clause-room : goal.returns-in-Full-clause-room
unfolding searched poi_with_holes deeper_of had_room
returns-in-Full-clause-room c =
    rw (← c.is_searched.ensures, c.if-not-is_searched.false)
    (ap had_room (sym c.in-Full.is ∙ c.deepest_point.ensures ∙ rw c.told-cells))

pub returns-in_default : goal.returns-in_default
unfolding searched poi_with_holes deeper_of
returns-in_default c =
    rw (← c.is_searched.ensures, c.if-not-is_searched.false) (record {
      room = other _ c.in_default.not-Full ∙ ap had_room (rw c.told-cells at c.deepest_point.ensures);
      found = rw c.told-cells at c.deepest_point.ensures;
    })
