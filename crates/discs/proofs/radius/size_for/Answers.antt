-- `size_for` meets its contract, by the radius that the options state and the ceiling.
-- Rests on what `size_under` ensures.
use Rattle.std.proofs.Common.{◌≡◌, Bool, List, ap, sym, ◌∙◌}
use Rattle.std.specs.Prelude.{Float, None, Some, Option}
use Rattle.glyphs.specs.declared.rect.Rectangle.{Rectangle}
use Rattle.discs.specs.declared.options.Radius.{Radius}
use Rattle.discs.specs.declared.options.Radius.TheVariants.{Auto}
use Rattle.discs.specs.PlaceGlyphs.{size_for, size_under}
use Rattle.discs.proofs.radius.size_for.Goals as goal

automatic :
    (fits : List Rectangle → Float → Bool) (obstacles : List Rectangle) (radius : Radius) (ceiling : Option Float) (r : Float)
    → radius ≡ Auto → ceiling ≡ Some r → size_for fits obstacles radius ceiling ≡ Some (size_under fits obstacles r)
unfolding size_for
automatic fits obstacles radius ceiling r e h = rw (e, h)

without :
    (fits : List Rectangle → Float → Bool) (obstacles : List Rectangle) (radius : Radius) (ceiling : Option Float)
    → radius ≡ Auto → ceiling ≡ None → size_for fits obstacles radius ceiling ≡ None
unfolding size_for
without fits obstacles radius ceiling e h = rw (e, h)

pub returns-then-r-is_finite-clause-size : goal.returns-then-r-is_finite-clause-size
unfolding size_for
returns-then-r-is_finite-clause-size c = rw (c.in-Stated.is, ← c.is_finite.ensures, c.if-r-is_finite.true)

pub returns-in-Stated-clause-size : goal.returns-in-Stated-clause-size
unfolding size_for
returns-in-Stated-clause-size c = rw (c.in-Stated.is, ← c.is_finite.ensures, c.if-r-is_finite.false)

pub returns-in_err-r_hi-clause-size : goal.returns-in_err-r_hi-clause-size
returns-in_err-r_hi-clause-size c = c.from_residual.ensures ∙ sym (without _ _ _ _ c.in_default.is c.in_err-r_hi.was)

pub returns-clause-size : goal.returns-clause-size
returns-clause-size c = ap Some c.size_under.ensures.size ∙ sym (automatic _ _ _ _ _ c.in_default.is c.in_ok-r_hi.was)
